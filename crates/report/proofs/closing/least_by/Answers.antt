-- That closing gives the least policy by each set of rules.
use Rattle.std.proofs.{Common.◌++◌, lemmas.Result.IfOk-weaker}
use Rattle.{base.specs.Labels.is_in, policy.specs.Closing.IsLeastClosed}
use Rattle.{sharp.specs.Least.IsLeastSharp, verdict.specs.declared.rules.Rules.Rules as rules}
use Rattle.report.{specs.Closings.IsLeastBy, proofs.LeastBySet.{least_closed, least_sharp}}
use Rattle.report.proofs.closing.least_by.Goals as goal

pub returns-in-Closed : goal.returns-in-Closed
returns-in-Closed c =
    let edges = c.args.policy.now ++ c.args.edges.now in
    rw c.in-Closed.is
    (IfOk-weaker c.close.result (IsLeastClosed edges) (IsLeastBy rules.Closed c.args.table.now edges)
    (least_closed c.args.table.now edges) c.close.ensures)

pub returns-in-Sharp : goal.returns-in-Sharp
returns-in-Sharp c =
    let edges = c.args.policy.now ++ c.args.edges.now in
    let held = c.node_holders.result in
    rw c.in-Sharp.is
    (IfOk-weaker c.close_sharply.result (IsLeastSharp edges (is_in held)) (IsLeastBy rules.Sharp c.args.table.now edges)
    (λ policy least. least_sharp c.args.table.now held edges policy c.node_holders.ensures.holders least)
    c.close_sharply.ensures)
