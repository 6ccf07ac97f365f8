-- The labels of CNodes that hold a CNode's capability, slot by slot.
use Rattle.std.proofs.Common.{◌+◌, ◌||◌, ◌↔◌, ◌∙◌, ◌≡◌, ap, arith, length, subst, sym, true}
use Rattle.{base.specs.Labels.is_in, table.proofs.Lookups.read_at, policy.proofs.Stepping.IsBelow}
use Rattle.reach.proofs.{Holding.{HoldsAt, holds_below, holds_from, none_holds, one_holds}, boot.node_holders.Goals.{in-Some, in_default}}
use Rattle.reach.proofs.boot.node_holders.Goals as goal

pub loop-filled-preserved : goal.loop-filled-preserved
loop-filled-preserved c a =
    let t = c.args.table.now in
    let items = c.caps-filled-items in
    let n = c.loop-filled.filled-index in
    let before = is_in c.loop-filled.found a in
    let so_far = c.loop-filled.invariant a in
    elim c.match-node_holder.branch [
      | in-Some w ↦
          subst (λ b. (b ≡ true) ↔ IsBelow (HoldsAt t a) (n + 1))
          (sym (ap (λ found. is_in found a) w.found-is ∙ w.union-found.ensures a ∙ ap (λ b. before || b) (w.only.ensures a)))
          (one_holds t a n _ (read_at items.result.now t.caps n _ items.ensures.caps c.loop-filled-test.true)
          w.in-Some.label before (sym c.node_holder.ensures ∙ w.in-Some.is) so_far)
      | in_default w ↦
          subst (λ b. (b ≡ true) ↔ IsBelow (HoldsAt t a) (n + 1)) (sym (ap (λ found. is_in found a) w.found-is))
          (none_holds t a n _ (read_at items.result.now t.caps n _ items.ensures.caps c.loop-filled-test.true)
          before (sym c.node_holder.ensures ∙ w.in_default.is) so_far)
    ]

pub returns-clause-holders : goal.returns-clause-holders
returns-clause-holders c a =
    let t = c.args.table.now in
    let items = c.caps-filled-items in
    let n = c.loop-filled.filled-index in
    let so_far = c.loop-filled.invariant a in (
      λ is. holds_from t a n (so_far.0 is),
      λ holds. so_far.1 (holds_below t a n (omega (arith, ap length items.ensures.caps)) holds),
    )
