use Rattle.{std.proofs.Common.sym, objects.proofs.ConsistentLemmas.word-machine_of}
use Rattle.objects.proofs.state.State.word.Goals as goal

pub returns : goal.returns
returns c = rw (c.word.ensures, ← c.self.view_is) (sym (word-machine_of c.self.inside c.args.id c.args.index))
