use Rattle.evtext.proofs.LogTexts.{log_iff}
use Rattle.evtext.proofs.laws.logs_are_read_back.Goals as goal

pub returns : goal.returns
returns c = log_iff
