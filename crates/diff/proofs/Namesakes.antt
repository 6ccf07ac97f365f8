-- Labels with the same name are twins: no two labels have the same twin.
use Rattle.std.proofs.Common.{[], ℕ, ◌+◌, ◌<◌, ◌∙◌, ◌≡◌, ◌⊎◌, None, Option, Some, ap, arith, inl, inr, length, refl, slice_get, subst, sym}
use Rattle.std.proofs.lemmas.Option.{get_or_from_slice_get, option_and_then_some, slice_get_within}
use Rattle.{machine.specs.Layout.Layout, table.specs.{Names.label_named, Rules.IsDraft}}
use Rattle.captext.{specs.PolicyText.label_name, proofs.NameLaws.{label_again, label_takes}}
use Rattle.diff.specs.{Names.twin_of, Twins.{AreAllNamed, number_or, twin_by_name}, Within.AreTwins}

module _ (t u : Layout) where
  abbrev IsNamesake : ℕ → ℕ → Type 0
  IsNamesake a b = (a < length t.labels) × (b < length u.labels) × (label_name t a ≡ label_name u b)

  found : (a b : ℕ) → twin_of t u a ≡ Some b → IsNamesake a b
  found a b is = option_and_then_some (label_named u) (slice_get t.labels a) b is
      (λ name at named.
      let taken = label_takes u name b named in
      (slice_get_within t.labels a name at, taken.0, get_or_from_slice_get t.labels a name [] at ∙ taken.1))

  -- a number has a namesake as its twin, or a number past the labels
  place : (a : ℕ) → IsNamesake a (twin_by_name t u a) ⊎ (twin_by_name t u a ≡ length u.labels + a)
  place a = by (twin_of t u a) refl where
    by : (b : Option ℕ) → twin_of t u a ≡ b
        → IsNamesake a (number_or (length u.labels + a) b) ⊎ (number_or (length u.labels + a) b ≡ length u.labels + a)
    by None is = inr refl
    by (Some b) is = inl (found a b is)

  same_label : IsDraft t → (a b : ℕ) → a < length t.labels → b < length t.labels → label_name t a ≡ label_name t b → a ≡ b
  same_label draft a b one other same =
      ap (number_or a) (sym (label_again t a draft one) ∙ ap (label_named t) same ∙ label_again t b draft other)

  distinct : IsDraft t → (a b : ℕ) → twin_by_name t u a ≡ twin_by_name t u b → a ≡ b
  distinct draft a b same = elim (place a) [
    | inl x ↦ elim (place b) [
      | inl y ↦ same_label draft a b x.0 y.0 (x.2 ∙ ap (label_name u) same ∙ sym y.2)
      | inr y ↦ let below = x.1 in absurd (omega (arith, below, y, same))
    ]
    | inr x ↦ elim (place b) [
      | inl y ↦ let below = y.1 in absurd (omega (arith, x, below, same))
      | inr y ↦ omega (arith, x, y, same)
    ]
  ]

  pub are_twins : IsDraft t → AreAllNamed t u → AreTwins t u (twin_by_name t u)
  are_twins draft named = record { there = there; distinct = distinct draft } where
    there : (a : ℕ) → a < length t.labels → twin_by_name t u a < length u.labels
    there a within =
        let b = (named a within).0 in
        subst (λ n. n < length u.labels) (sym (ap (number_or (length u.labels + a)) (named a within).1)) (found a b (named a within).1).1
