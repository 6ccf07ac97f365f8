use Rattle.captext.proofs.DraftLaws.{policy_too}
use Rattle.captext.proofs.drafts.policies_are_read_as_drafts.Goals as goal

pub returns : goal.returns
returns c = policy_too
