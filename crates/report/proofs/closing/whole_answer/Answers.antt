use Rattle.report.proofs.ClosedText.{policy_told}
use Rattle.report.proofs.closing.whole_answer.Goals as goal

pub returns-clause-right : goal.returns-clause-right
returns-clause-right c =
    let t = c.args.table.now in
    let boot = c.each_table_has_one_boot_state.ensures.exists t in
    policy_told c.args.rules t boot.0 boot.1 c.args.policy.now c.in_ok-closed.closed
    (λ from kind to. c.boot_authority_joins_labels_of_its_table.ensures t boot.0 from kind to c.keeps_rules.ensures boot.1)
    c.in_ok-closed.ensures.closing
    c.in_ok-write_policy.field-0.items c.in_ok-write_policy.ensures.text c.in_ok-write_policy.ensures.read_back
    c.plain.result c.plain.ensures.plain
