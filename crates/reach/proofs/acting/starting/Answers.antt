-- The labels of ready threads, binding by binding.
use Rattle.std.proofs.Common.{◌+◌, ◌||◌, ◌↔◌, ◌∙◌, ◌≡◌, ap, arith, length, subst, sym, true}
use Rattle.{base.specs.Labels.is_in, table.proofs.Lookups.read_at, policy.proofs.Stepping.IsBelow}
use Rattle.reach.proofs.{WhoActs.{HasReady, none_ready, one_ready, starts_below, starts_from}, acting.starting.Goals.{in-Some, in_default}}
use Rattle.reach.proofs.acting.starting.Goals as goal

pub loop-binding-preserved : goal.loop-binding-preserved
loop-binding-preserved c a =
    let t = c.args.table.now in
    let items = c.bindings-binding-items in
    let n = c.loop-binding.binding-index in
    let before = is_in c.loop-binding.found a in
    let so_far = c.loop-binding.invariant a in
    elim c.match-ready_label.branch [
      | in-Some w ↦
          subst (λ b. (b ≡ true) ↔ IsBelow (HasReady t a) (n + 1))
          (sym (ap (λ found. is_in found a) w.found-is ∙ w.union-found.ensures a ∙ ap (λ b. before || b) (w.only.ensures a)))
          (one_ready t a n _ (read_at items.result.now t.bindings n _ items.ensures.bindings c.loop-binding-test.true)
          w.in-Some.label before (sym c.ready_label.ensures ∙ w.in-Some.is) so_far)
      | in_default w ↦
          subst (λ b. (b ≡ true) ↔ IsBelow (HasReady t a) (n + 1)) (sym (ap (λ found. is_in found a) w.found-is))
          (none_ready t a n _ (read_at items.result.now t.bindings n _ items.ensures.bindings c.loop-binding-test.true)
          before (sym c.ready_label.ensures ∙ w.in_default.is) so_far)
    ]

pub returns : goal.returns
returns c a =
    let t = c.args.table.now in
    let items = c.bindings-binding-items in
    let n = c.loop-binding.binding-index in
    let so_far = c.loop-binding.invariant a in (
      λ is. starts_from t items.ensures.lawful a n (so_far.0 is),
      λ starts. so_far.1 (starts_below t items.ensures.lawful a n (omega (arith, ap length items.ensures.bindings)) starts),
    )
