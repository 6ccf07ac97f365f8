-- That each question is answered as it asks.
use Rattle.{std.proofs.Common.subst, report.{specs.Closings.AnswersClosing, proofs.Retold.said}}
use Rattle.report.proofs.asking.system_answer.Goals as goal

pub returns-in_ok-closed-in-Start : goal.returns-in_ok-closed-in-Start
returns-in_ok-closed-in-Start c =
    let answer = c.in_ok-closed-in-Start in
    rw c.in-Start.is
    (subst (λ edges. AnswersClosing c.in-Start.rules c.in-Start.on_close c.args.table.now edges answer.field-0) c.new.ensures answer.ensures.right, answer.ensures.exit)

pub returns-in_ok-write_objects-in-List : goal.returns-in_ok-write_objects-in-List
returns-in_ok-write_objects-in-List c = rw c.in-List.is (said c.in_ok-write_objects-in-List.ensures c.plain.ensures.plain)

pub returns-in-Why : goal.returns-in-Why
returns-in-Why c = rw c.in-Why.is c.explained.ensures

pub returns-in-Users : goal.returns-in-Users
returns-in-Users c = rw c.in-Users.is c.users_told.ensures

pub returns-in-Show : goal.returns-in-Show
returns-in-Show c = rw c.in-Show.is c.shown.ensures

pub returns-in_ok-reach_picture-in-Draw : goal.returns-in_ok-reach_picture-in-Draw
returns-in_ok-reach_picture-in-Draw c = rw c.in-Draw.is (said c.in_ok-reach_picture-in-Draw.ensures.text c.plain-in-Draw.ensures.plain)

pub returns-in_ok-summary_text-in-Summary : goal.returns-in_ok-summary_text-in-Summary
returns-in_ok-summary_text-in-Summary c = rw c.in-Summary.is (said c.in_ok-summary_text-in-Summary.ensures.text c.plain-in-Summary.ensures.plain)

pub returns-in-Flows : goal.returns-in-Flows
returns-in-Flows c = rw c.in-Flows.is c.flows_told.ensures

pub returns-in_ok-all_flows_told-in-AllFlows : goal.returns-in_ok-all_flows_told-in-AllFlows
returns-in_ok-all_flows_told-in-AllFlows c =
    rw c.in-AllFlows.is (said c.in_ok-all_flows_told-in-AllFlows.ensures.text c.plain-in-AllFlows.ensures.plain)

pub returns-in_ok-strongest_text-in-Strongest : goal.returns-in_ok-strongest_text-in-Strongest
returns-in_ok-strongest_text-in-Strongest c = rw c.in-Strongest.is (said c.in_ok-strongest_text-in-Strongest.ensures.text c.plain-in-Strongest.ensures.plain)
