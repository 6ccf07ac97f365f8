use Rattle.{policy.specs.Policy.allows, sharp.proofs.BrokenSets.control_told}
use Rattle.sharp.proofs.broken.rules.not_controlled.Goals as goal

pub returns : goal.returns
returns c = control_told (allows c.args.policy.now) c.args.keeping c.args.subject c.args.kind _ _ _ c.controlled.ensures c.row.ensures c.difference.ensures
