use Rattle.{std.proofs.Common.{None, Some}, policy.{specs.Policy.allows, proofs.Rules.derive_found}}
use Rattle.policy.proofs.broken.rules.derive_lacks.Goals as goal

pub returns-in_err-child : goal.returns-in_err-child
returns-in_err-child c =
    rw c.from_residual.ensures
    (derive_found (allows c.args.policy.now) c.args.parent c.not_derived.result c.not_derived.ensures None tt c.in_err-child.ensures.none)

pub returns : goal.returns
returns c =
    derive_found (allows c.args.policy.now) c.args.parent c.not_derived.result c.not_derived.ensures (Some c.in_ok-child.child) c.in_ok-child.ensures.some tt
