use Rattle.verdict.proofs.ControlUnsafe.{unsafe_without_control}
use Rattle.verdict.proofs.counterexamples.safety_needs_control_to_give_all.Goals as goal

pub returns : goal.returns
returns c = unsafe_without_control
