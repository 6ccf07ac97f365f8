use Rattle.verdict.proofs.GrantUnsafe.{unsafe_without_granted_derivation}
use Rattle.verdict.proofs.counterexamples.safety_needs_derivation_over_grants.Goals as goal

pub returns : goal.returns
returns c = unsafe_without_granted_derivation
