-- A closed policy is sharply closed, whichever labels keep.
use Rattle.verdict.proofs.RuleSets.{closed_sharply_accepted}
use Rattle.verdict.proofs.laws.accepted_systems_are_sharply_accepted.Goals as goal

pub returns : goal.returns
returns c = closed_sharply_accepted
