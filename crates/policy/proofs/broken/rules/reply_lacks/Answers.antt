use Rattle.{std.proofs.Common.{None, Some}, policy.{specs.Policy.allows, proofs.Rules.reply_found}}
use Rattle.policy.proofs.broken.rules.reply_lacks.Goals as goal

pub returns-in_err-thread : goal.returns-in_err-thread
returns-in_err-thread c =
    rw c.from_residual.ensures
    (reply_found (allows c.args.policy.now) c.args.reply c.not_held.result c.not_held.ensures None tt c.in_err-thread.ensures.none)

pub returns : goal.returns
returns c =
    reply_found (allows c.args.policy.now) c.args.reply c.not_held.result c.not_held.ensures (Some c.in_ok-thread.thread) c.in_ok-thread.ensures.some tt
