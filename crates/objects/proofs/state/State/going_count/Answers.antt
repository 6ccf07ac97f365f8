use Rattle.std.proofs.Common.{◌∙◌, ap, length, sym}
use Rattle.objects.proofs.StateLemmas.{going-machine_of}
use Rattle.objects.proofs.state.State.going_count.Goals as goal

pub returns : goal.returns
returns c = rw (← c.self.view_is) (c.len.ensures ∙ c.self.inside.going.ok.0 ∙ sym (ap length (going-machine_of c.self.inside)))
