use Rattle.verdict.proofs.ReplyUnsafe.{unsafe_without_holding}
use Rattle.verdict.proofs.counterexamples.safety_needs_replies_to_hold.Goals as goal

pub returns : goal.returns
returns c = unsafe_without_holding
