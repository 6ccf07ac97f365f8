-- The labels of threads and of untyped memory, object by object.
use Rattle.std.proofs.Common.{◌+◌, ◌||◌, ◌↔◌, ◌∙◌, ◌≡◌, Some, ap, arith, length, subst, sym, true}
use Rattle.{base.specs.Labels.is_in, table.proofs.Lookups.read_at, policy.proofs.Stepping.IsBelow}
use Rattle.reach.proofs.WhoActs.{HasSource, no_source, one_source, threads_below, threads_from}
use Rattle.reach.proofs.acting.with_threads.Goals.{else-has_threads, then-has_threads}
use Rattle.reach.proofs.acting.with_threads.Goals as goal

pub loop-initial-preserved : goal.loop-initial-preserved
loop-initial-preserved c a =
    let t = c.args.table.now in
    let items = c.objects-initial-items in
    let n = c.loop-initial.initial-index in
    let before = is_in c.loop-initial.found a in
    let so_far = c.loop-initial.invariant a in
    let here = read_at items.result.now t.objects n c.initial-item.result items.ensures.objects c.loop-initial-test.true in
    let initial = here ∙ ap (λ i. Some i) (sym c.initial-item.is) in
    elim c.if-has_threads.branch [
      | then-has_threads w ↦
          subst (λ b. (b ≡ true) ↔ IsBelow (HasSource t a) (n + 1))
          (sym (ap (λ found. is_in found a) w.found-is ∙ w.union-found.ensures a ∙ ap (λ b. before || b) (w.only.ensures a)))
          (one_source t a n c.initial-item.result initial before (sym c.has_threads.ensures ∙ w.if-has_threads.true) so_far)
      | else-has_threads w ↦
          subst (λ b. (b ≡ true) ↔ IsBelow (HasSource t a) (n + 1)) (sym (ap (λ found. is_in found a) w.found-is))
          (no_source t a n c.initial-item.result initial before (sym c.has_threads.ensures ∙ w.if-has_threads.false) so_far)
    ]

pub returns : goal.returns
returns c a =
    let t = c.args.table.now in
    let items = c.objects-initial-items in
    let n = c.loop-initial.initial-index in
    let so_far = c.loop-initial.invariant a in (
      λ is. threads_from t a n (so_far.0 is),
      λ threads. so_far.1 (threads_below t a n (omega (arith, ap length items.ensures.objects)) threads),
    )
