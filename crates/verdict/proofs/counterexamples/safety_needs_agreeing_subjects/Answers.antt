use Rattle.verdict.proofs.Unsafe.{unsafe_without_agreeing_subjects}
use Rattle.verdict.proofs.counterexamples.safety_needs_agreeing_subjects.Goals as goal

pub returns : goal.returns
returns c = unsafe_without_agreeing_subjects
