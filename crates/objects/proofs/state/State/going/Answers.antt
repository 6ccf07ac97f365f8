use Rattle.{std.proofs.Common.refl, objects.proofs.StateLemmas.going-machine_of}
use Rattle.objects.proofs.state.State.going.Goals as goal

pub returns : goal.returns
returns c = rw (c.at_index.ensures, ← c.self.view_is, going-machine_of, c.deref.ensures.value) refl
