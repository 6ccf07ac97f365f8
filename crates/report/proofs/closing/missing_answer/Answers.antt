use Rattle.report.proofs.ClosedText.{accepted_as, missing_told}
use Rattle.report.proofs.closing.missing_answer.Goals as goal

pub returns-clause-right : goal.returns-clause-right
returns-clause-right c =
    let t = c.args.table.now in
    let boot = c.each_table_has_one_boot_state.ensures.exists t in
    missing_told c.args.rules t boot.0 boot.1 c.lacked_answer.result c.args.policy.now c.in_ok-closed.closed c.in_ok-closed.ensures.closing
    c.lacked_answer.ensures.text c.lacked_answer.ensures.status c.lacked_answer.ensures.bare
    (accepted_as c.args.rules t c.args.policy.now
    (c.a_verdict_is_on_the_boot_state.ensures.accepted t c.args.policy.now c.keeps_rules.ensures)
    (c.a_verdict_is_on_the_boot_state.ensures.sharply t c.args.policy.now c.keeps_rules.ensures))
