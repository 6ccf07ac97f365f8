use Rattle.{policy.specs.Policy.allows, sharp.proofs.BrokenSets.lent_told}
use Rattle.sharp.proofs.broken.rules.not_lent.Goals as goal

pub returns : goal.returns
returns c = lent_told (allows c.args.policy.now) c.args.borrower _ _ _ c.lent.ensures c.row.ensures c.difference.ensures
