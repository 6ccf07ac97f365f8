use Rattle.std.proofs.Common.{◌∙◌, sym}
use Rattle.{policy.specs.Policy.allows, sharp.proofs.AskedSets.given_told}
use Rattle.sharp.proofs.asked.given.Goals as goal

pub returns : goal.returns
returns c =
    given_told (allows c.args.policy.now) c.args.keeping c.args.sharing c.args.from c.args.kind _ _ _
    (sym c.is_structural.ensures ∙ c.if-is_structural.false) c.controlled-controlled.ensures c.targets.ensures c.union.ensures
