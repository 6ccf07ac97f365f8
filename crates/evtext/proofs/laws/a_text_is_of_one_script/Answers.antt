use Rattle.evtext.proofs.OneLog.{one_script}
use Rattle.evtext.proofs.laws.a_text_is_of_one_script.Goals as goal

pub returns : goal.returns
returns c = one_script
