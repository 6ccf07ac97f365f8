use Rattle.{std.proofs.Common.{None, Some}, base.specs.Labels.is_in}
use Rattle.{policy.specs.{Policy.allows, Sharp.Told}, sharp.proofs.BrokenPlaces.domain_found}
use Rattle.sharp.proofs.broken.rules.domain_lacks.Goals as goal

pub returns-in_err-child : goal.returns-in_err-child
returns-in_err-child c =
    rw c.from_residual.ensures
    (domain_found (allows c.args.policy.now) (Told (is_in c.args.keeping)) c.args.parent c.not_put.result c.not_put.ensures None tt c.in_err-child.ensures.none)

pub returns : goal.returns
returns c =
    domain_found (allows c.args.policy.now) (Told (is_in c.args.keeping)) c.args.parent c.not_put.result c.not_put.ensures (Some c.in_ok-child.child) c.in_ok-child.ensures.some tt
