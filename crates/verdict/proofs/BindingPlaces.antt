-- The search for a broken binding: each place that breaks A4 is a binding of the table, and bindings rise.
use Rattle.std.proofs.Common.{[], ℕ, ◌<◌, ◌∷◌, ◌≡◌, ◌⊎◌, List, Some, ap, arith, get_or, inl, inr, refl, slice_get}
use Rattle.{std.proofs.lemmas.Option.none-some, base.specs.declared.ids.ObjId.ObjId}
use Rattle.machine.specs.{declared.layout.Binding.Binding, Layout.{Layout, bound_context}}
use Rattle.table.{specs.Rules.IsLawful, proofs.Lookups.{bound_at, pair_at}}
use Rattle.policy.{specs.{Broken.broken_place, Domain.EdgeTest, Places.Begins}, proofs.Places.{IsBelow, NoneSoFar, Searches}}
use Rattle.verdict.specs.{declared.denial.Denial.{Denial, Denial as denial}, Rules.{a1, a4}, Sources.of_table}
use Rattle.verdict.{specs.Verdict.{Breaks, BreaksUnder, place_of}, proofs.RuleOrder.first_rules}

abbrev pub of_binding : Binding → List ℕ
of_binding binding = binding.thread.0 ∷ []

-- none of the first bindings is broken
abbrev pub NothingBroken : Layout → EdgeTest → ℕ → Type 0
NothingBroken t allowed n = NoneSoFar place_of (Breaks t allowed) (a4 ∷ []) t.bindings of_binding n

-- a table's threads run only on the contexts that it binds them to
pub declared_bound :
    (t : Layout) (thread context : ObjId)
    → ((of_table t).context thread ≡ Some context) ⊎ ((of_table t).lent thread ≡ Some context)
    → bound_context t thread ≡ Some context
declared_bound t thread context (inl bound) = bound
declared_bound t thread context (inr lent) = absurd (none-some context lent)

pub begins_later : (place : List ℕ) → get_or place 0 0 < a1 → Begins (a4 ∷ []) place → ⊥
begins_later [] below begins = begins
begins_later (x ∷ xs) below begins = omega (arith, below, begins.0)

pub bindings : (t : Layout) (allowed : EdgeTest) → IsLawful t → Searches place_of (Breaks t allowed) (a4 ∷ []) t.bindings of_binding
bindings t allowed lawful = record { covers = covers; rises = rises } where
  covers :
      (d : Denial) → BreaksUnder t allowed (a4 ∷ []) d
      → (k : ℕ) × (b : Binding) × (slice_get t.bindings k ≡ Some b) × Begins (a4 ∷ b.thread.0 ∷ []) (place_of d)
  covers (denial.Binding thread context) h =
      let b = bound_at t thread context (declared_bound t thread context h.1.there) in
      (b.at, b.element, b.here, (refl, (ap (λ x. x.0) b.key_is, tt)))
  covers (denial.Policy broken) h = absurd (begins_later (broken_place broken) (first_rules broken) h.0)
  covers (denial.Sharp broken) h = absurd h.1
  covers _ h = absurd (omega (arith, h.0.0))

  rises :
      (i j : ℕ) (a b : Binding) → i < j → slice_get t.bindings i ≡ Some a → slice_get t.bindings j ≡ Some b
      → IsBelow (of_binding a) (of_binding b)
  rises i j a b lt at_i at_j =
      inl (pair_at (λ (one other : Binding). one.thread.0 < other.thread.0) t.bindings i j a b lawful.draft.bindings.rise lt at_i at_j)
