use Rattle.policy.{specs.Policy.allows, proofs.RuleSets.reply_told}
use Rattle.policy.proofs.broken.rules.not_held.Goals as goal

pub returns : goal.returns
returns c =
    reply_told (allows c.args.policy.now) c.args.reply _ _ _ _ _ _ _ c.only.ensures c.sources-servers.ensures c.targets-endpoints.ensures c.sources-callers.ensures
    c.union.ensures c.row.ensures c.difference.ensures
