use Rattle.words.proofs.Beginnings.{cut_text}
use Rattle.words.proofs.first_fault.a_text_that_is_cut_is_refused.Goals as goal

pub returns : goal.returns
returns g c = cut_text
