use Rattle.{policy.specs.Policy.allows, sharp.proofs.BrokenSets.held_told}
use Rattle.sharp.proofs.broken.rules.not_held.Goals as goal

pub returns : goal.returns
returns c = held_told (allows c.args.policy.now) c.args.reply _ _ _ c.held.ensures c.row.ensures c.difference.ensures
