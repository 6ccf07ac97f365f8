use Rattle.{std.proofs.Common.subst, report.{specs.Closings.IsClosing, proofs.ClosedText.{accepted_as, surplus_told}}}
use Rattle.report.proofs.closing.surplus_answer.Goals as goal

pub returns-clause-right : goal.returns-clause-right
returns-clause-right c =
    let t = c.args.table.now in
    let boot = c.each_table_has_one_boot_state.ensures.exists t in
    surplus_told c.args.rules t boot.0 boot.1 c.lacked_answer.result c.args.policy.now c.in_ok-asked_for.asked_for
    (subst (λ edges. IsClosing c.args.rules t edges c.in_ok-asked_for.asked_for) c.new.ensures c.in_ok-asked_for.ensures.closing)
    c.lacked_answer.ensures.text c.lacked_answer.ensures.status c.lacked_answer.ensures.bare
    (λ p.
    accepted_as c.args.rules t p (c.a_verdict_is_on_the_boot_state.ensures.accepted t p c.keeps_rules.ensures)
    (c.a_verdict_is_on_the_boot_state.ensures.sharply t p c.keeps_rules.ensures))
