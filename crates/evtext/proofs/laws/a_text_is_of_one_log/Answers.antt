use Rattle.evtext.proofs.OneLog.{one_log}
use Rattle.evtext.proofs.laws.a_text_is_of_one_log.Goals as goal

pub returns : goal.returns
returns c = one_log
