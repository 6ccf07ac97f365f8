use Rattle.verdict.proofs.GrantUnsafe.{unsafe_without_sharing}
use Rattle.verdict.proofs.counterexamples.safety_needs_grants_to_share.Goals as goal

pub returns : goal.returns
returns c = unsafe_without_sharing
