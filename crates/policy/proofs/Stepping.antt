-- Steps along edges, kind by kind and label by label.
use Rattle.std.{specs.{List.{list_all, list_any}, Prelude.{IfNone, IfSome, is_some}}, proofs.Common.{[], ℕ, ◌&&◌, ◌+◌, ◌<◌, ◌||◌, ◌↔◌, ◌∙◌}}
use Rattle.std.proofs.Common.{◌∷◌, ◌≡◌, Bool, List, None, Option, Some, ap, arith, false, inl, inr, not, subst, sym, true}
use Rattle.std.proofs.{Math.Bool.or-false, lemmas.Bool.{and_from, and_parts, cases_order, eqb-true, or_cases, or_left, or_right}}
use Rattle.std.proofs.lemmas.List.Folds.{Any-from_list_any}
use Rattle.base.specs.{declared.{kind.Kind.{Kind, TheVariants.{Control, Space}}, labels.Labels.Labels}, Labels.is_in}
use Rattle.policy.{specs.{Domain.{EdgeTest, IsInDomain}, Steps.{IsSource, IsTarget, is_joined}}, proofs.KindNumbers.{is_kind, same_kind}}
use mathlib.Core.Bool.{false≢true}

-- a kind of a list that passes both tests
pub chosen : (p q : Kind → Bool) (kinds : List Kind) → list_all p kinds ≡ true → list_any q kinds ≡ true → (kind : Kind) × (p kind ≡ true) × (q kind ≡ true)
chosen p q [] all is = absurd (false≢true is)
chosen p q (first ∷ rest) all is =
    let parts = and_parts (p first) (list_all p rest) all in
    elim (or_cases (q first) (list_any q rest) is) [
      | inl here ↦ (first, parts.0, here)
      | inr later ↦ chosen p q rest parts.1 later
    ]

pub found_kind : (q : Kind → Bool) (kinds : List Kind) (kind : Kind) → list_any (is_kind kind) kinds ≡ true → q kind ≡ true → list_any q kinds ≡ true
found_kind q [] kind is has = absurd (false≢true is)
found_kind q (first ∷ rest) kind is has = elim (or_cases (is_kind kind first) (list_any (is_kind kind) rest) is) [
  | inl same ↦ or_left (q first) (list_any q rest) (ap q (sym (same_kind kind first (eqb-true _ _ same))) ∙ has)
  | inr later ↦ or_right (q first) (list_any q rest) (found_kind q rest kind later has)
]

-- the labels of one row
abbrev pub IsRow : EdgeTest → ℕ → Kind → Labels → Type 0
IsRow test from kind row = (to : ℕ) → is_in row to ≡ test from kind to

-- a property holds of a label below a number
abbrev pub IsBelow : (ℕ → Type 0) → ℕ → Type 0
IsBelow P n = (k : ℕ) × (k < n) × P k

module _ {P : ℕ → Type 0} where
  pub more_below : (n : ℕ) (b here : Bool) → ((b ≡ true) ↔ IsBelow P n) → (here ≡ true → P n) → (P n → here ≡ true)
      → ((b || here) ≡ true) ↔ IsBelow P (n + 1)
  more_below n b here so_far to from = (forth, back) where
    forth : (b || here) ≡ true → IsBelow P (n + 1)
    forth is = elim (or_cases b here is) [
      | inl before ↦ let old = so_far.0 before in (old.0, (omega (arith, old.1)), old.2)
      | inr now ↦ (n, (omega arith), to now)
    ]

    back : IsBelow P (n + 1) → (b || here) ≡ true
    back below = elim (cases_order below.0 n) [
      | inl same ↦ or_right b here (from (subst P same below.2))
      | inr (inl before) ↦ or_left b here (so_far.1 (below.0, before, below.2))
      | inr (inr after) ↦ absurd (omega (arith, below.1))
    ]

  pub none_more : (n : ℕ) (b : Bool) → ((b ≡ true) ↔ IsBelow P n) → (P n → ⊥) → (b ≡ true) ↔ IsBelow P (n + 1)
  none_more n b so_far none = (forth, back) where
    forth : b ≡ true → IsBelow P (n + 1)
    forth is = let old = so_far.0 is in (old.0, (omega (arith, old.1)), old.2)

    back : IsBelow P (n + 1) → b ≡ true
    back below = elim (cases_order below.0 n) [
      | inl same ↦ absurd (none (subst P same below.2))
      | inr (inl before) ↦ so_far.1 (below.0, before, below.2)
      | inr (inr after) ↦ absurd (omega (arith, below.1))
    ]

-- an edge of the only kind
pub only_kind : (test : EdgeTest) (kind : Kind) (from to : ℕ) → is_joined test (kind ∷ []) from to ≡ true → test from kind to ≡ true
only_kind test kind from to is = sym (or-false (test from kind to)) ∙ is

pub of_kind : (is then_so : Bool) → is ≡ true → (not is || then_so) ≡ true → then_so ≡ true
of_kind is then_so holds either = sym (ap (λ b. not b || then_so) holds) ∙ either

pub joined_by : (test : EdgeTest) (kinds : List Kind) (from to : ℕ) → is_joined test kinds from to ≡ true → (kind : Kind) × (test from kind to ≡ true)
joined_by test kinds from to is = let some = Any-from_list_any (λ kind. test from kind to) kinds is in (some.1, some.4)

-- steps along an edge of one kind

pub target_by : (test : EdgeTest) (kind : Kind) (froms : Labels) (from to : ℕ) → is_in froms from ≡ true → test from kind to ≡ true
    → IsTarget test (kind ∷ []) froms to
target_by test kind froms from to among edge = record { from = from; among = among; joined = or_left (test from kind to) false edge }

pub source_by : (test : EdgeTest) (kind : Kind) (tos : Labels) (to from : ℕ) → is_in tos to ≡ true → test from kind to ≡ true
    → IsSource test (kind ∷ []) tos from
source_by test kind tos to from among edge = record { to = to; among = among; joined = or_left (test from kind to) false edge }

-- an edge of space or control is one to a label in the domain
pub domain_joined : (test : EdgeTest) (subject label : ℕ) → (is_joined test (Space ∷ Control ∷ []) subject label ≡ true) ↔ IsInDomain test subject label
domain_joined test subject label = (forth, back) where
  forth : is_joined test (Space ∷ Control ∷ []) subject label ≡ true → IsInDomain test subject label
  forth is = elim (or_cases (test subject Space label) _ is) [ inl space ↦ inl space | inr control ↦ inr (only_kind test Control subject label control) ]

  back : IsInDomain test subject label → is_joined test (Space ∷ Control ∷ []) subject label ≡ true
  back (inl space) = or_left (test subject Space label) _ space
  back (inr control) = or_right (test subject Space label) _ (or_left (test subject Control label) false control)

-- two sets have a label in common, if the least of their common labels is found

pub some_common : (least : Option ℕ) (both : Labels) → is_some least ≡ true
    → IfSome least (λ label. (is_in both label ≡ true) × ((other : ℕ) → other < label → is_in both other ≡ false))
    → (label : ℕ) × (is_in both label ≡ true)
some_common None both is has = absurd (false≢true is)
some_common (Some label) both is has = (label, has.0)

pub none_common : (least : Option ℕ) (both : Labels) → is_some least ≡ false → IfNone least ((label : ℕ) → is_in both label ≡ false)
    → (label : ℕ) → is_in both label ≡ true → ⊥
none_common None both is has label among = false≢true (sym (has label) ∙ among)
none_common (Some least) both is has label among = false≢true (sym is)

module _ (test : EdgeTest) (kinds : List Kind) (tos row both : Labels) (n : ℕ)
    (row_is : (to : ℕ) → is_in row to ≡ is_joined test kinds n to) (both_is : (to : ℕ) → is_in both to ≡ (is_in row to && is_in tos to)) where
  pub source_from : (to : ℕ) → is_in both to ≡ true → IsSource test kinds tos n
  source_from to is =
      let parts = and_parts (is_in row to) (is_in tos to) (sym (both_is to) ∙ is) in
      record { to = to; among = parts.1; joined = sym (row_is to) ∙ parts.0 }

  pub source_met : IsSource test kinds tos n → (to : ℕ) × (is_in both to ≡ true)
  source_met source =
      (source.to, both_is source.to ∙ and_from (is_in row source.to) (is_in tos source.to) (row_is source.to ∙ source.joined) source.among)
