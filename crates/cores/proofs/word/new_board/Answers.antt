use Rattle.cores.proofs.Keeps.{opens}
use Rattle.cores.proofs.word.new_board.Goals as goal

pub of_words-requires : goal.of_words-requires
of_words-requires c = opens _ _
