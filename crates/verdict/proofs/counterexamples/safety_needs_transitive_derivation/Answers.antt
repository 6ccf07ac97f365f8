use Rattle.verdict.proofs.GapUnsafe.{unsafe_without_derivation}
use Rattle.verdict.proofs.counterexamples.safety_needs_transitive_derivation.Goals as goal

pub returns : goal.returns
returns c = unsafe_without_derivation
