use Rattle.steps.proofs.LoansReturn.{loans_return}
use Rattle.steps.proofs.message_laws.answers_return_what_calls_lent.Goals as goal

pub returns : goal.returns
returns c = loans_return
