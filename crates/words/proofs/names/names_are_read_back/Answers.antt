use Rattle.words.proofs.Spellings.{name_iff}
use Rattle.words.proofs.names.names_are_read_back.Goals as goal

pub returns : goal.returns
returns c = name_iff
