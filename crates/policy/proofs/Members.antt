-- Rising lists of edges by their members: which edge is the last, and that lists with the same members are equal.
use mathlib.Core.Bool.{false≢true}
use Rattle.std.specs.{declared.cmp.Ordering.{Ordering, TheVariants.{Equal, Greater, Less}}, List.{AllByRecursion, filter, range_with_len}}
use Rattle.std.{specs.{Ordering.{is_eq, is_lt, ordering_reverse}, Prelude.IfSome}, proofs.Common.{[], ℕ, ◌&&◌, ◌++◌, ◌+◌, ◌-◌, ◌<◌, ◌||◌}}
use Rattle.std.proofs.Common.{◌∙◌, ◌∷◌, ◌≡◌, ◌⊎◌, Bool, List, None, Option, Some, ap, arith, cond, false, get_or, inl, inr, length, map}
use Rattle.std.proofs.{Common.{refl, subst, sym, true}, Math.{Bool.{or-false, or_comm}, Seq.get_or-append_seam}, lemmas.Bool.cases_lt}
use Rattle.std.proofs.lemmas.{Bool.{cases_order, or_cases, or_left, or_right}, List.Folds.{Any-from_list_any, list_any-append, list_any_at}}
use Rattle.std.proofs.lemmas.List.{FromFn.filter_of_map_range_with_len_more, Kept.IsStrictlySortedBy-filter, get_or_append_left}
use Rattle.std.proofs.lemmas.{List.length_push, Map.Keys.{Less-from_sorted, sorted_from_all_adjacent, sorted_head, sorted_tail}}
use Rattle.{std.proofs.lemmas.{Map.Views.any-filter_same, Option.slice_get-get_or}, base.specs.declared.{edge.Edge.Edge, kind.Kind.Kind}}
use Rattle.policy.specs.Policy.{IsAboveLast, IsRising, JoinsBelow, allows, edge_cmp, is_edge, last_edge}
use Rattle.policy.{specs.Rows.{all_edges, edge_at, edge_count, last_with}, proofs.KindNumbers.same_kind}
use Rattle.policy.proofs.{Order.{edge_total, is_edge-edge_cmp}, RowEdges.{all_of, all_rising, is_possible, of_parts, possible, same_parts}}

abbrev pub Has : List Edge → Edge → Bool
Has edges edge = allows edges edge.from edge.kind edge.to

-- an edge with the parts of another is that edge
same_edge : (edge other : Edge) → is_edge edge.from edge.kind edge.to other ≡ true → other ≡ edge
same_edge edge other is =
    let parts = same_parts other edge.from edge.kind edge.to is in
    let kinds = same_kind other.kind edge.kind parts.1 in
    λ i. record { from = parts.0 i; kind = kinds i; to = parts.2 i }

itself : (edge : Edge) → is_edge edge.from edge.kind edge.to edge ≡ true
itself edge = of_parts edge edge.from edge.kind edge.to refl refl refl

is_eq-Equal : (r : Ordering) → is_eq r ≡ true → r ≡ Equal
is_eq-Equal Less e = cc
is_eq-Equal Equal e = refl
is_eq-Equal Greater e = cc

pub tied : (edge : Edge) → edge_cmp edge edge ≡ Equal
tied edge = is_eq-Equal (edge_cmp edge edge) (sym (is_edge-edge_cmp edge edge) ∙ itself edge)

same_from_tie : (edge other : Edge) → edge_cmp other edge ≡ Equal → other ≡ edge
same_from_tie edge other tie = same_edge edge other (is_edge-edge_cmp edge other ∙ ap is_eq tie)

turned : (a b : Edge) (r : Ordering) → edge_cmp a b ≡ r → edge_cmp b a ≡ ordering_reverse r
turned a b r is = edge_total.antisymm b a ∙ ap ordering_reverse is

-- an edge that is there has a place
placed : (edges : List Edge) (edge : Edge) → Has edges edge ≡ true → (k : ℕ) × (k < length edges) × (get_or edges k edge ≡ edge)
unfolding allows
placed edges edge has =
    let some = Any-from_list_any (is_edge edge.from edge.kind edge.to) edges has in
    let is : some.1 ≡ edge = same_edge edge some.1 some.4 in
    (some.0, some.2, subst (λ (e : Edge). get_or edges some.0 e ≡ e) is some.3)

at_place : (edges : List Edge) (edge : Edge) (k : ℕ) → k < length edges → get_or edges k edge ≡ edge → Has edges edge ≡ true
unfolding allows
at_place edges edge k lt is =
    list_any_at (is_edge edge.from edge.kind edge.to) edges k edge lt (ap (is_edge edge.from edge.kind edge.to) is ∙ itself edge)

-- no edge of the list is above its last
pub none_above_last : (edges : List Edge) (edge last : Edge) → IsRising edges → last_edge edges ≡ Some last → Has edges edge ≡ true
    → edge_cmp edge last ≡ Greater → ⊥
none_above_last edges edge last rising ends has above =
    let place = placed edges edge has in
    let end : get_or edges (length edges - 1) edge ≡ last =
    let both : Some (get_or edges (length edges - 1) edge) ≡ Some last =
    sym (slice_get-get_or edges (length edges - 1) edge (omega (arith, place.1))) ∙ ends in cc in
    elim (cases_order place.0 (length edges - 1)) [
      | inl same ↦
          let here : edge ≡ last = sym place.2 ∙ ap (λ k. get_or edges k edge) same ∙ end in
          let tie : edge_cmp edge last ≡ Equal = ap (λ e. edge_cmp e last) here ∙ tied last in
          cc
      | inr (inl before) ↦
          let less : edge_cmp edge last ≡ Less =
          (λ i. edge_cmp (sym place.2 i) (sym end i)) ∙ Less-from_sorted edge_cmp edges place.0 (length edges - 1) edge rising before (omega (arith, place.1)) in
          cc
      | inr (inr after) ↦ absurd (omega (arith, place.1))
    ]

-- a list with a last edge has that edge, and one without a last edge has none
pub last_is_there : (edges : List Edge) (last : Edge) → last_edge edges ≡ Some last → Has edges last ≡ true
last_is_there [] last ends = let none : None ≡ Some last = ends in cc
last_is_there (first ∷ rest) last ends =
    let edges = first ∷ rest in
    let both : Some (get_or edges (length edges - 1) last) ≡ Some last =
    sym (slice_get-get_or edges (length edges - 1) last (omega arith)) ∙ ends in
    let is : get_or edges (length edges - 1) last ≡ last = cc in
    at_place edges last (length edges - 1) (omega arith) is

pub none_there : (edges : List Edge) (edge : Edge) → last_edge edges ≡ None → Has edges edge ≡ true → ⊥
none_there edges edge ends has =
    let place = placed edges edge has in
    let both : Some (get_or edges (length edges - 1) edge) ≡ None =
    sym (slice_get-get_or edges (length edges - 1) edge (omega (arith, place.1))) ∙ ends in cc

-- an edge of the list is the last if none is above it
pub is_last : (edges : List Edge) (edge : Edge) → IsRising edges → Has edges edge ≡ true
    → ((other : Edge) → Has edges other ≡ true → edge_cmp other edge ≡ Greater → ⊥) → last_edge edges ≡ Some edge
is_last edges edge rising has most =
    let place = placed edges edge has in
    let end : Edge = get_or edges (length edges - 1) edge in
    let ends : last_edge edges ≡ Some end = slice_get-get_or edges (length edges - 1) edge (omega (arith, place.1)) in
    elim (cases_order place.0 (length edges - 1)) [
      | inl same ↦ ends ∙ ap Some (ap (λ k. get_or edges k edge) (sym same) ∙ place.2)
      | inr (inl before) ↦
          let less : edge_cmp edge end ≡ Less =
          ap (λ e. edge_cmp e end) (sym place.2) ∙ Less-from_sorted edge_cmp edges place.0 (length edges - 1) edge rising before (omega (arith, place.1)) in
          absurd (most end (last_is_there edges end ends) (turned edge end Less less))
      | inr (inr after) ↦ absurd (omega (arith, place.1))
    ]

-- the members of a list to which an edge was added

abbrev pub IsAdded : List Edge → List Edge → Edge → Type 0
IsAdded old new edge = (from : ℕ) (kind : Kind) (to : ℕ) → allows new from kind to ≡ (is_edge from kind to edge || allows old from kind to)

-- an edge of the new list is the one that was added, or an old one
new_or_old : (old new : List Edge) (edge other : Edge) → IsAdded old new edge → Has new other ≡ true → (edge ≡ other) ⊎ (Has old other ≡ true)
new_or_old old new edge other added has = elim (or_cases _ _ (sym (added other.from other.kind other.to) ∙ has)) [
  | inl is ↦ inl (same_edge other edge is)
  | inr before ↦ inr before
]

-- below the last, or equal to it, and so not above what is above it
below : (other last edge : Edge) → (edge_cmp other last ≡ Greater → ⊥) → edge_cmp other edge ≡ Greater → edge_cmp edge last ≡ Less
below other last edge most above = by (edge_cmp other last) refl where
  under : edge_cmp edge other ≡ Less
  under = turned other edge Greater above

  by : (r : Ordering) → edge_cmp other last ≡ r → edge_cmp edge last ≡ Less
  by Less is = edge_total.trans edge other last under is
  by Equal is = subst (λ e. edge_cmp edge e ≡ Less) (same_from_tie last other is) under
  by Greater is = absurd (most is)

pub last_added : (old new : List Edge) (edge : Edge) → IsRising old → IsRising new → IsAdded old new edge → last_edge new ≡ Some (last_with (last_edge old) edge)
last_added old new edge before rising added = by (last_edge old) refl where
  here : Has new edge ≡ true
  here = added edge.from edge.kind edge.to ∙ or_left _ _ (itself edge)

  -- the edge isn't above itself
  not_itself : (other : Edge) → edge ≡ other → edge_cmp other edge ≡ Greater → ⊥
  not_itself other same above = let tie : edge_cmp other edge ≡ Equal = ap (λ e. edge_cmp e edge) (sym same) ∙ tied edge in cc

  by_order : (last : Edge) → last_edge old ≡ Some last → (r : Ordering) → edge_cmp edge last ≡ r
      → last_edge new ≡ Some (cond (is_lt r) last edge)
  by_order last ends Less is =
      is_last new last rising (added last.from last.kind last.to ∙ or_right _ _ (last_is_there old last ends))
      (λ other has above. elim (new_or_old old new edge other added has) [
        | inl same ↦ let less : edge_cmp other last ≡ Less = ap (λ e. edge_cmp e last) (sym same) ∙ is in cc
        | inr was ↦ none_above_last old other last before ends was above
      ])
  by_order last ends Equal is =
      is_last new edge rising here (λ other has above. elim (new_or_old old new edge other added has) [
        | inl same ↦ not_itself other same above
        | inr was ↦ let less = below other last edge (none_above_last old other last before ends was) above in cc
      ])
  by_order last ends Greater is =
      is_last new edge rising here (λ other has above. elim (new_or_old old new edge other added has) [
        | inl same ↦ not_itself other same above
        | inr was ↦ let less = below other last edge (none_above_last old other last before ends was) above in cc
      ])

  by : (last : Option Edge) → last_edge old ≡ last → last_edge new ≡ Some (last_with last edge)
  by None ends = is_last new edge rising here (λ other has above. elim (new_or_old old new edge other added has) [
    | inl same ↦ not_itself other same above
    | inr was ↦ none_there old other ends was
  ])
  by (Some last) ends = by_order last ends (edge_cmp edge last) refl

-- rising lists with the same members are equal

above_all : (edge : Edge) (edges : List Edge) → AllByRecursion (λ other. edge_cmp edge other ≡ Less) edges → Has edges edge ≡ false
unfolding allows
above_all edge [] above = refl
above_all edge (other ∷ rest) above =
    ap (λ b. b || Has rest edge) (is_edge-edge_cmp edge other ∙ ap is_eq (turned edge other Less above.0)) ∙ above_all edge rest above.1

abbrev SameEdges : List Edge → List Edge → Type 0
SameEdges one other = (edge : Edge) → Has one edge ≡ Has other edge

heads : (x y : Edge) (xs ys : List Edge) → IsRising (y ∷ ys) → SameEdges (x ∷ xs) (y ∷ ys) → edge_cmp x y ≡ Less → ⊥
unfolding allows
heads x y xs ys rising same less =
    let lower : AllByRecursion (λ other. edge_cmp x other ≡ Less) (y ∷ ys) = (less, above_rest x y ys less (sorted_head edge_cmp y ys rising)) in
    false≢true (sym (above_all x (y ∷ ys) lower) ∙ sym (same x) ∙ or_left _ _ (itself x)) where
      above_rest : (x y : Edge) (ys : List Edge) → edge_cmp x y ≡ Less → AllByRecursion (λ other. edge_cmp y other ≡ Less) ys → AllByRecursion (λ other. edge_cmp x other ≡ Less) ys
      above_rest x y [] less above = tt
      above_rest x y (z ∷ zs) less above = (edge_total.trans x y z less above.0, above_rest x y zs less above.1)

tails : (x : Edge) (xs ys : List Edge) → IsRising (x ∷ xs) → IsRising (x ∷ ys) → SameEdges (x ∷ xs) (x ∷ ys) → SameEdges xs ys
unfolding allows
tails x xs ys one other same edge = by (is_edge edge.from edge.kind edge.to x) refl where
  by : (b : Bool) → is_edge edge.from edge.kind edge.to x ≡ b → Has xs edge ≡ Has ys edge
  by true is =
      let at : edge ≡ x = sym (same_edge edge x is) in
      (ap (Has xs) at ∙ above_all x xs (sorted_head edge_cmp x xs one)) ∙ sym (ap (Has ys) at ∙ above_all x ys (sorted_head edge_cmp x ys other))
  by false is = sym (ap (λ b. b || Has xs edge) is) ∙ same edge ∙ ap (λ b. b || Has ys edge) is

one_head : (x y : Edge) (xs ys : List Edge) → IsRising (x ∷ xs) → IsRising (y ∷ ys) → SameEdges (x ∷ xs) (y ∷ ys) → (x ≡ y → xs ≡ ys)
    → x ∷ xs ≡ y ∷ ys
one_head x y xs ys one other same rest = by (edge_cmp x y) refl where
  by : (r : Ordering) → edge_cmp x y ≡ r → x ∷ xs ≡ y ∷ ys
  by Less less = absurd (heads x y xs ys other same less)
  by Equal tie = let is : x ≡ y = same_from_tie y x tie in λ i. is i ∷ rest is i
  by Greater more = absurd (heads y x ys xs one (λ edge. sym (same edge)) (turned x y Greater more))

not_empty : (first : Edge) (rest : List Edge) → Has [] first ≡ Has (first ∷ rest) first → ⊥
unfolding allows
not_empty first rest same = false≢true (same ∙ or_left _ _ (itself first))

pub same_rising : (xs ys : List Edge) → IsRising xs → IsRising ys → SameEdges xs ys → xs ≡ ys
same_rising [] [] one other same = refl
same_rising [] (y ∷ ys) one other same = absurd (not_empty y ys (same y))
same_rising (x ∷ xs) [] one other same = absurd (not_empty x xs (sym (same x)))
same_rising (x ∷ xs) (y ∷ ys) one other same =
    one_head x y xs ys one other same
    (λ is. same_rising xs ys (sorted_tail edge_cmp x xs one) (sorted_tail edge_cmp y ys other)
    (tails x xs ys one (subst (λ e. IsRising (e ∷ ys)) (sym is) other) (subst (λ e. SameEdges (x ∷ xs) (e ∷ ys)) (sym is) same)))

-- an edge above the last is added at the end

pub rising_appended : (edges : List Edge) (edge : Edge) → IsRising edges → IsAboveLast edges edge → IsRising (edges ++ edge ∷ [])
rising_appended edges edge rising above = sorted_from_all_adjacent edge_total (edges ++ edge ∷ []) edge (λ k more.
    let count = length_push edges edge in
    let here = get_or_append_left edges (edge ∷ []) edge k (omega (arith, count)) in
    elim (cases_lt (k + 1) (length edges)) [
      | inl inside ↦
          let next = get_or_append_left edges (edge ∷ []) edge (k + 1) inside in
          (λ i. edge_cmp (here i) (next i)) ∙ Less-from_sorted edge_cmp edges k (k + 1) edge rising (omega arith) inside
      | inr past ↦
          let at : k ≡ length edges - 1 = omega (arith, count) in
          let end : k + 1 ≡ length edges = omega (arith, count) in
          let next = ap (λ n. get_or (edges ++ edge ∷ []) n edge) end ∙ get_or-append_seam edges edge [] edge in
          let ends = slice_get-get_or edges (length edges - 1) edge (omega (arith, count)) in
          (λ i. edge_cmp (here i) (next i)) ∙ ap (λ n. edge_cmp (get_or edges n edge) edge) at
          ∙ subst (λ last. IfSome last (λ (e : Edge). edge_cmp e edge ≡ Less)) ends above
    ])

allows_appended : (edges : List Edge) (edge : Edge) (from : ℕ) (kind : Kind) (to : ℕ)
    → allows (edges ++ edge ∷ []) from kind to ≡ (is_edge from kind to edge || allows edges from kind to)
unfolding allows
allows_appended edges edge from kind to =
    list_any-append (is_edge from kind to) edges (edge ∷ []) ∙ ap (λ b. allows edges from kind to || b) (or-false (is_edge from kind to edge))
    ∙ or_comm (allows edges from kind to) (is_edge from kind to edge)

-- an edge above the last is not in the list
pub not_above : (edges : List Edge) (edge : Edge) → IsRising edges → Has edges edge ≡ true → IsAboveLast edges edge → ⊥
not_above edges edge rising has above = by (last_edge edges) refl where
  by : (last : Option Edge) → last_edge edges ≡ last → ⊥
  by None ends = none_there edges edge ends has
  by (Some last) ends =
      none_above_last edges edge last rising ends has
      (turned last edge Less (subst (λ end. IfSome end (λ (e : Edge). edge_cmp e edge ≡ Less)) ends above))

pub pushed : (old new : List Edge) (edge : Edge) → IsRising old → IsRising new → IsAdded old new edge → IsAboveLast old edge → new ≡ old ++ edge ∷ []
pushed old new edge before rising added above =
    same_rising new (old ++ edge ∷ []) rising (rising_appended old edge before above)
    (λ other. added other.from other.kind other.to ∙ sym (allows_appended old edge other.from other.kind other.to))

-- the edges that pass a test, with one edge more
pub one_more : (test : Edge → Bool) (labels n : ℕ) (edge : Edge) (passes : Bool) (before after : List Edge) → edge ≡ edge_at labels n → test edge ≡ passes
    → before ≡ filter test (map (edge_at labels) (range_with_len 0 n)) → after ≡ before ++ cond passes (edge ∷ []) []
    → after ≡ filter test (map (edge_at labels) (range_with_len 0 (n + 1)))
one_more test labels n edge passes before after is tested so_far grown =
    grown ∙ (λ i. so_far i ++ cond (sym tested i) (edge ∷ []) []) ∙ ap (λ e. filter test (map (edge_at labels) (range_with_len 0 n)) ++ cond (test e) (e ∷ []) []) is
    ∙ sym (filter_of_map_range_with_len_more test (edge_at labels) 0 n n (omega arith))

-- the edges that a policy allows, of all between the labels that it joins, are its own
pub listed : (edges : List Edge) → IsRising edges → (n : ℕ) → JoinsBelow n edges → (count : ℕ) → count ≡ edge_count n
    → filter (λ edge. allows edges edge.from edge.kind edge.to) (map (edge_at n) (range_with_len 0 count)) ≡ edges
unfolding allows
listed edges rising n labels count is = ap (filter (Has edges)) (all_of n count is) ∙ same_rising mine edges below rising members where
  mine : List Edge
  mine = filter (Has edges) (all_edges n)

  below : IsRising mine
  below = IsStrictlySortedBy-filter edge_cmp (Has edges) (all_edges n) (all_rising n)

  can : (edge : Edge) (b : Bool) → Has edges edge ≡ b → (b && is_possible n edge.from edge.kind edge.to) ≡ b
  can edge true has = let ends = labels edge.from edge.kind edge.to has in possible n edge.from edge.kind edge.to ends.0 ends.1
  can edge false has = refl

  members : SameEdges mine edges
  members edge =
      any-filter_same (is_edge edge.from edge.kind edge.to) (Has edges) (Has edges edge) (λ other is. ap (Has edges) (same_edge edge other is)) (all_edges n)
      ∙ can edge (Has edges edge) refl
