use Rattle.{std.proofs.Common.sym, objects.proofs.ConsistentLemmas.first_waiting-machine_of}
use Rattle.objects.proofs.state.State.first_waiting.Goals as goal

pub returns : goal.returns
returns c =
    rw (c.first.ensures, ← c.self.view_is) (sym (first_waiting-machine_of c.self.inside c.self.invariant.consistent c.args.id))
