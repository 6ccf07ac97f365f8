use Rattle.captext.proofs.TermLaws.{terms_part}
use Rattle.captext.proofs.caps.cap_line.Goals as goal

pub fill_named-requires : goal.fill_named-requires
fill_named-requires c = (terms_part.takes _ _ c.in_ok-terms.ensures).1
