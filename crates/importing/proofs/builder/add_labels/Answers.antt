use Rattle.std.proofs.Common.{ℕ, ◌<◌, ◌∙◌, List, ap, get_or, length, subst}
use Rattle.{microkit.specs.LabelView.bytes_of, importing.proofs.Labels.{admits_at, more_at}}
use Rattle.importing.proofs.builder.add_labels.Goals as goal

pub add_name-requires : goal.add_name-requires
add_name-requires c =
    let i : ℕ = c.loop-place.place-index in
    admits_at (bytes_of c.args.plan.now.names.items) c.args.plan.now.places.items i
    (get_or c.deref-place-items.result.now i 0) c.loop-place.draft _ c.requires.names c.requires.distinct c.requires.few
    (subst (λ (xs : List ℕ). i < length xs) c.deref-place-items.ensures.value c.loop-place-test.true)
    (ap (λ (xs : List ℕ). get_or xs i 0) c.deref-place-items.ensures.value) c.place_name.ensures c.loop-place.invariant

pub loop-place-preserved : goal.loop-place-preserved
loop-place-preserved c =
    let i : ℕ = c.loop-place.place-index in
    c.in_ok-add_name.ensures
    ∙ more_at (bytes_of c.args.plan.now.names.items) c.args.plan.now.places.items i
    (get_or c.deref-place-items.result.now i 0) c.loop-place.draft _
    (subst (λ (xs : List ℕ). i < length xs) c.deref-place-items.ensures.value c.loop-place-test.true)
    (ap (λ (xs : List ℕ). get_or xs i 0) c.deref-place-items.ensures.value) c.place_name.ensures c.loop-place.invariant
