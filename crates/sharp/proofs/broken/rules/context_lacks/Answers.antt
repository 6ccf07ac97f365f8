use Rattle.{std.proofs.Common.{None, Some}, policy.specs.{Policy.allows, Sharp.Told}, sharp.proofs.BrokenPlaces.context_found}
use Rattle.sharp.proofs.broken.rules.context_lacks.Goals as goal

pub returns-in_err-context : goal.returns-in_err-context
returns-in_err-context c keeps =
    rw c.from_residual.ensures
    (context_found (allows c.args.policy.now) (Told keeps) c.args.subject c.not_bound.result c.not_bound.ensures None tt c.in_err-context.ensures.none)

pub returns : goal.returns
returns c keeps =
    context_found (allows c.args.policy.now) (Told keeps) c.args.subject c.not_bound.result c.not_bound.ensures (Some c.in_ok-context.context) c.in_ok-context.ensures.some tt
