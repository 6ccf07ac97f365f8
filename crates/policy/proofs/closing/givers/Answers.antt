use Rattle.policy.{specs.Policy.allows, proofs.ClosingSets.givers_told}
use Rattle.policy.proofs.closing.givers.Goals as goal

pub returns : goal.returns
returns c =
    givers_told (allows c.args.policy.now) c.args.taker _ _ _ _ _ _ _ c.subjects.ensures c.only.ensures c.domain-around.ensures c.row.ensures
    c.sources-granting.ensures c.union.ensures c.union-2.ensures
