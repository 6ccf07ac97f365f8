-- That the policy to be closed has the authority of the boot state.
use Rattle.std.proofs.Common.{◌++◌, subst}
use Rattle.report.{specs.Closings.IsLeastBy, proofs.ClosedText.{accepted_as, is_closing}}
use Rattle.report.proofs.closing.least.Goals as goal

pub returns : goal.returns
returns c = record {
  closing =
      let t = c.args.table.now in
      let edges = c.args.policy.now in
      let closed = c.in_ok-closed.closed in
      is_closing c.args.rules t edges c.in_ok-edges.edges.items closed
      (λ m from kind to booted. c.in_ok-edges.ensures.edges m from kind to booted)
      c.edges_rise.ensures.rising
      (subst (λ kept. IsLeastBy c.args.rules t (edges ++ kept) closed) c.deref.ensures.value c.in_ok-closed.ensures)
      (accepted_as c.args.rules t closed (c.a_verdict_is_on_the_boot_state.ensures.accepted t closed c.keeps_rules.ensures)
      (c.a_verdict_is_on_the_boot_state.ensures.sharply t closed c.keeps_rules.ensures));
}
