use Rattle.captext.proofs.SlotLaws.{term_iff, term_once}
use Rattle.captext.proofs.spelling.terms_are_read_back.Goals as goal

pub returns : goal.returns
returns c = record { named = term_iff; once = term_once }
