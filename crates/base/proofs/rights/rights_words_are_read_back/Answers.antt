use Rattle.base.proofs.RightsWords.{named_iff, rights_of_word-rights_word, rights_once, rights_word-rights_of_word}
use Rattle.base.proofs.rights.rights_words_are_read_back.Goals as goal

pub returns : goal.returns
returns c = record { written = rights_word-rights_of_word; read = rights_of_word-rights_word; named = named_iff; once = rights_once }
