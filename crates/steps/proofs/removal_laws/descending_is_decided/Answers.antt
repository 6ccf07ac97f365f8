use Rattle.steps.proofs.BelowLemmas.{below_decided}
use Rattle.steps.proofs.removal_laws.descending_is_decided.Goals as goal

pub returns : goal.returns
returns c = below_decided
