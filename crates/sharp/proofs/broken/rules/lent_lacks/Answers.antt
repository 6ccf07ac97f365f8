use Rattle.{std.proofs.Common.{None, Some}, policy.specs.{Policy.allows, Sharp.Told}, sharp.proofs.BrokenPlaces.lent_found}
use Rattle.sharp.proofs.broken.rules.lent_lacks.Goals as goal

pub returns-in_err-context : goal.returns-in_err-context
returns-in_err-context c keeps =
    rw c.from_residual.ensures
    (lent_found (allows c.args.policy.now) (Told keeps) c.args.borrower c.not_lent.result c.not_lent.ensures None tt c.in_err-context.ensures.none)

pub returns : goal.returns
returns c keeps =
    lent_found (allows c.args.policy.now) (Told keeps) c.args.borrower c.not_lent.result c.not_lent.ensures (Some c.in_ok-context.context) c.in_ok-context.ensures.some tt
