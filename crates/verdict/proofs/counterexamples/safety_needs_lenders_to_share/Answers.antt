use Rattle.verdict.proofs.LendingUnsafe.{unsafe_without_lending}
use Rattle.verdict.proofs.counterexamples.safety_needs_lenders_to_share.Goals as goal

pub returns : goal.returns
returns c = unsafe_without_lending
