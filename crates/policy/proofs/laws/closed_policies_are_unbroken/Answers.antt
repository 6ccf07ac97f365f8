use Rattle.policy.proofs.Unbroken.{closed_if, unbroken}
use Rattle.policy.proofs.laws.closed_policies_are_unbroken.Goals as goal

pub returns : goal.returns
returns c test = (unbroken test, closed_if test)
