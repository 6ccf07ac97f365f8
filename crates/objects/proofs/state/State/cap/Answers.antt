use Rattle.{std.proofs.Common.sym, objects.proofs.StateLemmas.tells-machine_of}
use Rattle.objects.proofs.state.State.cap.Goals as goal

pub returns : goal.returns
returns c = rw (c.cap.ensures, ← c.self.view_is) (sym ((tells-machine_of c.self.inside).caps c.args.slot))
