use Rattle.{std.proofs.Common.sym, objects.proofs.StateLemmas.tells-machine_of}
use Rattle.objects.proofs.state.State.parent.Goals as goal

pub returns : goal.returns
returns c = rw (c.parent.ensures, ← c.self.view_is) (sym ((tells-machine_of c.self.inside).parents c.args.slot))
