use Rattle.verdict.proofs.ContextUnsafe.{unsafe_without_running}
use Rattle.verdict.proofs.counterexamples.safety_needs_contexts_to_run.Goals as goal

pub returns : goal.returns
returns c = unsafe_without_running
