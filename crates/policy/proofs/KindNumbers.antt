-- The kinds in the order of their numbers.
use Rattle.std.{specs.List.{list_all, list_any}, proofs.Common.{[], ℕ, ◌<◌, ◌==◌, ◌∙◌, ◌∷◌, ◌≡◌, Bool, List, Some, ap, arith, get_or, inl}}
use Rattle.std.proofs.{Common.{inr, refl, slice_get, sym, true, zero-add}, lemmas.{Bool.{and_parts, eqb-true, or_cases}, List.get_or-map}}
use Rattle.std.proofs.lemmas.{List.FromFn.get_or-range_with_len, Option.{get_or_from_slice_get, slice_get-get_or, slice_get_within}}
use Rattle.base.specs.declared.kind.Kind.{Kind, TheVariants.{Await, Call, Context, Control, Derive, Grant, Holds, Notify, Read, Receive}}
use Rattle.base.specs.{declared.kind.Kind.TheVariants.{Reply, Reset, Runs, SchedControl, Send, Space, Write}, Kinds.kind_number}
use mathlib.Core.Bool.{false≢true}

abbrev pub all_kinds : List Kind
all_kinds =
    Control ∷ Reset ∷ Send ∷ Receive ∷ Grant ∷ Call ∷ Notify ∷ Await ∷ Read ∷ Write ∷ Reply ∷ Context ∷ SchedControl ∷ Space ∷ Derive ∷ Runs ∷ Holds ∷ []

pub kind_number_below : (kind : Kind) → kind_number kind < 17
kind_number_below kind = grind arith

at_number : (kind d : Kind) → get_or all_kinds (kind_number kind) d ≡ kind
at_number Control d = refl
at_number Reset d = refl
at_number Send d = refl
at_number Receive d = refl
at_number Grant d = refl
at_number Call d = refl
at_number Notify d = refl
at_number Await d = refl
at_number Read d = refl
at_number Write d = refl
at_number Reply d = refl
at_number Context d = refl
at_number SchedControl d = refl
at_number Space d = refl
at_number Derive d = refl
at_number Runs d = refl
at_number Holds d = refl

-- each kind stands at its number
pub kind_stands : (kind : Kind) → slice_get all_kinds (kind_number kind) ≡ Some kind
kind_stands kind =
    slice_get-get_or all_kinds (kind_number kind) kind (kind_number_below kind) ∙ ap Some (at_number kind kind)

pub number_at : (k : ℕ) (d : Kind) → k < 17 → kind_number (get_or all_kinds k d) ≡ k
number_at k d lt =
    sym (get_or-map kind_number all_kinds k d (kind_number d) lt) ∙ get_or-range_with_len 0 17 k (kind_number d) lt ∙ zero-add k

-- no other kind stands there
pub number_stands : (k : ℕ) (kind : Kind) → slice_get all_kinds k ≡ Some kind → kind_number kind ≡ k
number_stands k kind at =
    let lt : k < 17 = slice_get_within all_kinds k kind at in
    ap kind_number (sym (get_or_from_slice_get all_kinds k kind kind at)) ∙ number_at k kind lt

pub same_kind : (a b : Kind) → kind_number a ≡ kind_number b → a ≡ b
same_kind a b same = sym (at_number a a) ∙ ap (λ n. get_or all_kinds n a) same ∙ at_number b a

abbrev pub is_kind : Kind → Kind → Bool
is_kind kind other = kind_number kind == kind_number other

-- each kind passes what all kinds pass
every : (p : Kind → Bool) (kinds : List Kind) (kind : Kind) → list_all p kinds ≡ true → list_any (is_kind kind) kinds ≡ true → p kind ≡ true
every p [] kind all is = absurd (false≢true is)
every p (first ∷ rest) kind all is =
    let parts = and_parts (p first) (list_all p rest) all in
    elim (or_cases (is_kind kind first) (list_any (is_kind kind) rest) is) [
      | inl same ↦ ap p (same_kind kind first (eqb-true _ _ same)) ∙ parts.0
      | inr later ↦ every p rest kind parts.1 later
    ]

pub each_kind : (p : Kind → Bool) → list_all p all_kinds ≡ true → (kind : Kind) → p kind ≡ true
each_kind p all kind = every p all_kinds kind all (among kind) where
  among : (kind : Kind) → list_any (is_kind kind) all_kinds ≡ true
  among kind = grind arith
