-- Lists that are put together: what holds of each element holds of each element of the parts.
use Rattle.std.{specs.List.{AllByRecursion, flat_map, list_any, range_with_len}, proofs.Common.{[], ℕ, ◌++◌, ◌<◌, ◌∙◌}}
use Rattle.std.proofs.Common.{◌∷◌, ◌≡◌, Bool, List, arith, false, if◌then◌else◌, inl, inr, length, subst, true, zero-add}
use Rattle.std.proofs.lemmas.{Bool.{false≢true, or_cases, true≢false}, List.{Elements.All-from_recursion, FromFn.get_or-range_with_len}}
use Rattle.{std.proofs.lemmas.List.FromFn.length-range_with_len, base.specs.declared.{edge.Edge.Edge, kind.Kind.Kind}}
use Rattle.{machine.specs.Layout.Layout, policy.{specs.Policy.{allows, is_edge}, proofs.{KindNumbers.same_kind, RowEdges.same_parts}}}
use Rattle.{summary.specs.Labelled.labels_of, diff.specs.{declared.names.Named.Named, Names.{named_in_new, names_of, new_name, old_name}}}

module _ {X : Type 0} (P : X → Type 0) where
  pub front : (xs ys : List X) → AllByRecursion P (xs ++ ys) → AllByRecursion P xs
  front [] ys all = tt
  front (x ∷ xs) ys all = (all.0, front xs ys all.1)

  pub back : (xs ys : List X) → AllByRecursion P (xs ++ ys) → AllByRecursion P ys
  back [] ys all = all
  back (x ∷ xs) ys all = back xs ys all.1

  -- lists that stand one after another
  pub each : {Y : Type 0} (f : Y → List X) (ys : List Y) → AllByRecursion P (flat_map f ys)
      → AllByRecursion (λ y. AllByRecursion P (f y)) ys
  each f [] all = tt
  each f (y ∷ ys) all = (front (f y) (flat_map f ys) all, each f ys (back (f y) (flat_map f ys) all))

  -- an element that is there by a test

  pub when : (b : Bool) (x : X) → AllByRecursion P (if b then x ∷ [] else []) → b ≡ true → P x
  when true x all is = all.0
  when false x all is = absurd (false≢true is)

  pub unless : (b : Bool) (x : X) → AllByRecursion P (if b then [] else x ∷ []) → b ≡ false → P x
  unless true x all is = absurd (true≢false is)
  unless false x all is = all.0

-- a number below a bound
pub at_number : (P : ℕ → Type 0) (n : ℕ) → AllByRecursion P (range_with_len 0 n) → (a : ℕ) → a < n → P a
at_number P n all a within =
    let long = length-range_with_len 0 n in
    subst P (get_or-range_with_len 0 n a 0 within ∙ zero-add a)
    (All-from_recursion P (range_with_len 0 n) all a 0 (omega (arith, long, within)))

-- a label of the new system
pub at_new : (old new : Layout) (P : Named → Type 0) → AllByRecursion P (names_of old new) → (a : ℕ) → a < length new.labels
    → P (named_in_new old new a)
at_new old new P all a within =
    let firsts = front P (flat_map (new_name old new) (labels_of new)) (flat_map (old_name old new) (labels_of old)) all in
    (at_number (λ b. AllByRecursion P (new_name old new b)) (length new.labels) (each P (new_name old new) (labels_of new) firsts) a within).0

-- an edge among edges

same_edge : (edge : Edge) (from : ℕ) (kind : Kind) (to : ℕ) → is_edge from kind to edge ≡ true
    → edge ≡ record { from = from; kind = kind; to = to }
same_edge edge from kind to is =
    let same = same_parts edge from kind to is in
    let kinds = same_kind edge.kind kind same.1 in
    λ i. record { from = same.0 i; kind = kinds i; to = same.2 i }

pub at_edge : (P : Edge → Type 0) (edges : List Edge) → AllByRecursion P edges
    → (from : ℕ) (kind : Kind) (to : ℕ) → allows edges from kind to ≡ true → P (record { from = from; kind = kind; to = to })
unfolding allows
at_edge P [] all from kind to is = absurd (false≢true is)
at_edge P (edge ∷ edges) all from kind to is = elim (or_cases (is_edge from kind to edge) (list_any (is_edge from kind to) edges) is) [
  | inl here ↦ subst P (same_edge edge from kind to here) all.0
  | inr there ↦ at_edge P edges all.1 from kind to there
]
