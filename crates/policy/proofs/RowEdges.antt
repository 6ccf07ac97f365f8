-- The edges that rows stand for: they rise, and are those whose bits are set.
use Rattle.std.specs.{declared.cmp.Ordering.TheVariants.{Equal, Greater, Less}, List.{filter, list_any, range_with_len}, Ordering.nat_cmp}
use Rattle.std.{specs.Ordering.ordering_then, proofs.Common.{[], ℕ, ◌%◌, ◌&&◌, ◌*◌, ◌++◌, ◌+◌, ◌/◌, ◌<◌, ◌==◌, ◌||◌, ◌∙◌, ◌∷◌, ◌≡◌, ◌≤◌}}
use Rattle.std.proofs.Common.{◌⊎◌, Bool, List, ap, arith, cond, false, get_or, inl, inr, length, map, refl, replicate, set, suc, sym, true}
use Rattle.std.proofs.{Common.zero, Math.{Bool.or-false, Nat.{div-add-mod, div-lt_iff_lt-mul, mul-le-mul_left}}, lemmas.Bool.and_from}
use Rattle.std.proofs.lemmas.Bool.{and_parts, cases_eq, cases_order, eq-eqb, eqb-false, eqb-true, false_from_ne_true, le-ltb, lt-ltb}
use Rattle.std.proofs.lemmas.{Bool.{or_cases, or_left, or_right}, List.{get_or-set_other, get_or-set_same, Folds.Any-from_list_any}}
use Rattle.std.proofs.lemmas.List.{Folds.list_any_at, FromFn.{get_or-map-range_with_len, length-map-range_with_len}}
use Rattle.std.proofs.lemmas.{List.Kept.IsStrictlySortedBy-filter, Map.{Keys.sorted_from_all_adjacent, Views.any-filter_same}}
use Rattle.std.proofs.lemmas.{Nat.{div-mul-add, mod-mul-add, mul-add-lt, same_from_place}, Option.slice_get-get_or}
use Rattle.base.specs.{declared.{edge.Edge.Edge, kind.Kind.{Kind, TheVariants.Control}, labels.Labels.Labels}, Kinds.kind_number}
use Rattle.base.specs.declared.label.TheConstants.Label as Label
use Rattle.base.{specs.Labels.{is_in, no_labels}, proofs.{KindNames.number_below, LabelParts.in_no_labels}}
use Rattle.policy.specs.{Policy.{IsRising, JoinsBelow, JoinsLabels, allows, edge_cmp, is_edge}, Rows.{RowsJoin, all_edges, edge_at}}
use Rattle.policy.{specs.Rows.{edge_count, edges_of_rows, kind_count, row_count, row_number, row_of}, proofs.KindNumbers.all_kinds}
use Rattle.policy.proofs.{KindNumbers.number_stands, Order.edge_total}
use mathlib.Core.Bool.{false≢true}

pub nat_less : (a b : ℕ) → a < b → nat_cmp a b ≡ Less
nat_less a b lt = ap (λ t. cond t Less (cond (a == b) Equal Greater)) (lt-ltb a b lt)

pub nat_same : (a b : ℕ) → a ≡ b → nat_cmp a b ≡ Equal
nat_same a b same =
    ap (λ t. cond t Less (cond (a == b) Equal Greater)) (le-ltb a b (omega arith)) ∙ ap (λ t. cond t Equal Greater) (eq-eqb a b same)

pub numbered : (n : ℕ) → n < kind_count → kind_number (get_or all_kinds n Control) ≡ n
numbered n below = number_stands n (get_or all_kinds n Control) (slice_get-get_or all_kinds n Control below)

-- a number in three parts
pub by_parts : (a b c x y z : ℕ) → (a < x) ⊎ ((a ≡ x) × ((b < y) ⊎ ((b ≡ y) × (c < z))))
    → ordering_then (nat_cmp a x) (ordering_then (nat_cmp b y) (nat_cmp c z)) ≡ Less
by_parts a b c x y z (inl first) = ap (λ r. ordering_then r (ordering_then (nat_cmp b y) (nat_cmp c z))) (nat_less a x first)
by_parts a b c x y z (inr (same, inl second)) =
    ap (λ r. ordering_then r (ordering_then (nat_cmp b y) (nat_cmp c z))) (nat_same a x same)
    ∙ ap (λ r. ordering_then r (nat_cmp c z)) (nat_less b y second)
by_parts a b c x y z (inr (same, inr (also, third))) =
    ap (λ r. ordering_then r (ordering_then (nat_cmp b y) (nat_cmp c z))) (nat_same a x same)
    ∙ ap (λ r. ordering_then r (nat_cmp c z)) (nat_same b y also) ∙ nat_less c z third

-- a number in two parts, of which the second is below n
pub split_rises : (n i j : ℕ) → 0 < n → i < j → (i / n < j / n) ⊎ ((i / n ≡ j / n) × (i % n < j % n))
split_rises n i j some lt =
    let one = div-add-mod i n in
    let other = div-add-mod j n in
    elim (cases_order (i / n) (j / n)) [
      | inl same ↦
          let whole : n * (i / n) ≡ n * (j / n) = ap (λ q. n * q) same in
          let less : i % n < j % n = omega (arith, one, other, whole, lt) in
          inr (same, less)
      | inr (inl less) ↦ inl less
      | inr (inr more) ↦
          let fewer : j / n + 1 ≤ i / n = omega arith in
          let whole = mul-le-mul_left n fewer in
          absurd (omega (arith, one, other, whole, lt))
    ]

parts_rise : (n i j : ℕ) → 0 < n → i < j
    → (i / n / kind_count < j / n / kind_count)
    ⊎ ((i / n / kind_count ≡ j / n / kind_count)
    × ((i / n % kind_count < j / n % kind_count) ⊎ ((i / n % kind_count ≡ j / n % kind_count) × (i % n < j % n))))
parts_rise n i j some lt = elim (split_rises n i j some lt) [
  | inl rows ↦ elim (split_rises kind_count (i / n) (j / n) (omega arith) rows) [
    | inl less ↦ inl less
    | inr (same, less) ↦ inr (same, inl less)
  ]
  | inr (row, less) ↦ inr (ap (λ r. r / kind_count) row, inr (ap (λ r. r % kind_count) row, less))
]

-- edges rise with their numbers
pub edge_rises : (n i j : ℕ) → 0 < n → i < j → edge_cmp (edge_at n i) (edge_at n j) ≡ Less
unfolding edge_at
edge_rises n i j some lt =
    let kinds : kind_number (get_or all_kinds (i / n % kind_count) Control) ≡ i / n % kind_count = numbered (i / n % kind_count) (omega arith) in
    let others : kind_number (get_or all_kinds (j / n % kind_count) Control) ≡ j / n % kind_count = numbered (j / n % kind_count) (omega arith) in
    (λ k.
    ordering_then (nat_cmp (i / n / kind_count) (j / n / kind_count)) (ordering_then (nat_cmp (kinds k) (others k)) (nat_cmp (i % n) (j % n))))
    ∙ by_parts (i / n / kind_count) (i / n % kind_count) (i % n) (j / n / kind_count) (j / n % kind_count) (j % n) (parts_rise n i j some lt)

pub count_is : (n : ℕ) → edge_count n ≡ n * (n * kind_count)
unfolding edge_count
count_is n = refl

-- the parts of a number at which an edge stands
pub parts_within : (n number : ℕ) → number < edge_count n → (0 < n) × (number / n < n * kind_count) × (number % n < n)
parts_within n number below = (some, row, omega (arith, some)) where
  some : 0 < n
  some = at n number (omega (arith, below, count_is n)) where
    at : (m k : ℕ) → k < m * (m * kind_count) → 0 < m
    at zero k h = absurd (omega (arith, h))
    at (suc m) k h = omega arith

  row : number / n < n * kind_count
  row = (div-lt_iff_lt-mul {k = n} {x = number} {y = n * kind_count} some).1 (omega (arith, below, count_is n))

range_rises : (n count : ℕ) → count ≡ edge_count n → IsRising (map (edge_at n) (range_with_len 0 count))
range_rises n count is_all = sorted_from_all_adjacent edge_total (map (edge_at n) (range_with_len 0 count)) (edge_at n 0) (λ k more.
    let size : length (map (edge_at n) (range_with_len 0 count)) ≡ count = length-map-range_with_len (edge_at n) 0 count in
    let some = parts_within n (k + 1) (omega arith) in
    let here = get_or-map-range_with_len (edge_at n) 0 count k k (edge_at n 0) (omega arith) (omega arith) in
    let next = get_or-map-range_with_len (edge_at n) 0 count (k + 1) (k + 1) (edge_at n 0) (omega arith) (omega arith) in
    (λ i. edge_cmp (here i) (next i)) ∙ edge_rises n k (k + 1) some.0 (omega arith))

pub all_rising : (n : ℕ) → IsRising (all_edges n)
unfolding all_edges
all_rising n = range_rises n (edge_count n) refl

pub edges_rising : (rows : List Labels) → IsRising (edges_of_rows rows)
unfolding edges_of_rows
edges_rising rows =
    IsStrictlySortedBy-filter edge_cmp (λ edge. is_in (row_of rows edge.from edge.kind) edge.to) (all_edges Label.COUNT) (all_rising Label.COUNT)

-- an edge has the parts by which it is found
pub same_parts : (edge : Edge) (from : ℕ) (kind : Kind) (to : ℕ) → is_edge from kind to edge ≡ true
    → (edge.from ≡ from) × (kind_number edge.kind ≡ kind_number kind) × (edge.to ≡ to)
same_parts edge from kind to is =
    let parts = and_parts (edge.from == from) _ is in
    let ends = and_parts (kind_number edge.kind == kind_number kind) (edge.to == to) parts.1 in
    (eqb-true edge.from from parts.0, eqb-true (kind_number edge.kind) (kind_number kind) ends.0, eqb-true edge.to to ends.1)

pub of_parts : (edge : Edge) (from : ℕ) (kind : Kind) (to : ℕ) → edge.from ≡ from → kind_number edge.kind ≡ kind_number kind → edge.to ≡ to
    → is_edge from kind to edge ≡ true
of_parts edge from kind to starts is ends =
    and_from (edge.from == from) _ (eq-eqb _ _ starts)
    (and_from (kind_number edge.kind == kind_number kind) _ (eq-eqb _ _ is) (eq-eqb _ _ ends))

-- whether an edge is possible between this many labels
abbrev pub is_possible : ℕ → ℕ → Kind → ℕ → Bool
is_possible n from kind to = list_any (is_edge from kind to) (all_edges n)

-- the edges that rows stand for are those whose bits are set
pub allows-rows : (rows : List Labels) (from : ℕ) (kind : Kind) (to : ℕ)
    → allows (edges_of_rows rows) from kind to ≡ (is_in (row_of rows from kind) to && is_possible Label.COUNT from kind to)
unfolding allows edges_of_rows
allows-rows rows from kind to =
    any-filter_same (is_edge from kind to) (λ edge. is_in (row_of rows edge.from edge.kind) edge.to) (is_in (row_of rows from kind) to)
    (λ edge is.
    let parts = same_parts edge from kind to is in
    λ i. is_in (get_or rows (parts.0 i * kind_count + parts.1 i) no_labels) (parts.2 i))
    (all_edges Label.COUNT)

pub all_of : (n count : ℕ) → count ≡ edge_count n → map (edge_at n) (range_with_len 0 count) ≡ all_edges n
unfolding all_edges
all_of n count is = ap (λ k. map (edge_at n) (range_with_len 0 k)) is

-- the number of an edge, and the edge at a number

abbrev pub edge_number : ℕ → ℕ → Kind → ℕ → ℕ
edge_number n from kind to = (from * kind_count + kind_number kind) * n + to

pub number_within : (n from : ℕ) (kind : Kind) (to : ℕ) → from < n → to < n → edge_number n from kind to < edge_count n
number_within n from kind to low high =
    let of_kind = number_below kind in
    let within = mul-add-lt (from * kind_count + kind_number kind) n to (n * kind_count) (omega arith) high in
    omega (arith, within, count_is n)

pub stands_at : (n from : ℕ) (kind : Kind) (to : ℕ) → to < n
    → (edge_number n from kind to / n / kind_count ≡ from)
    × (edge_number n from kind to / n % kind_count ≡ kind_number kind)
    × (edge_number n from kind to % n ≡ to)
stands_at n from kind to high =
    let of_kind = number_below kind in
    let row = div-mul-add (from * kind_count + kind_number kind) n to high in (
      ap (λ r. r / kind_count) row ∙ div-mul-add from kind_count (kind_number kind) of_kind,
      ap (λ r. r % kind_count) row ∙ mod-mul-add from kind_count (kind_number kind) of_kind,
      mod-mul-add (from * kind_count + kind_number kind) n to high,
    )

-- every edge between labels that there are is possible
pub possible : (n from : ℕ) (kind : Kind) (to : ℕ) → from < n → to < n → is_possible n from kind to ≡ true
unfolding all_edges edge_at
possible n from kind to low high =
    let number = edge_number n from kind to in
    let within = number_within n from kind to low high in
    let parts = stands_at n from kind to high in
    let stands = get_or-map-range_with_len (edge_at n) 0 (edge_count n) number number (edge_at n 0) within (omega arith) in
    let kinds : kind_number (get_or all_kinds (number / n % kind_count) Control) ≡ kind_number kind =
    numbered (number / n % kind_count) (omega arith) ∙ parts.1 in
    list_any_at (is_edge from kind to) (all_edges n) number (edge_at n 0) (omega (arith, within, length-map-range_with_len (edge_at n) 0 (edge_count n)))
    (ap (is_edge from kind to) stands ∙ of_parts (edge_at n number) from kind to parts.0 kinds parts.2)

-- no other edge is possible
joins : (n count from : ℕ) (kind : Kind) (to : ℕ) → count ≡ edge_count n
    → list_any (is_edge from kind to) (map (edge_at n) (range_with_len 0 count)) ≡ true → (from < n) × (to < n)
unfolding edge_at
joins n count from kind to is_all is =
    let some = Any-from_list_any (is_edge from kind to) (map (edge_at n) (range_with_len 0 count)) is in
    let size : length (map (edge_at n) (range_with_len 0 count)) ≡ count = length-map-range_with_len (edge_at n) 0 count in
    let stands = get_or-map-range_with_len (edge_at n) 0 count some.0 some.0 some.1 (omega (arith, some.2)) (omega arith) in
    let parts = same_parts (edge_at n some.0) from kind to (ap (is_edge from kind to) (sym stands ∙ some.3) ∙ some.4) in
    let within = parts_within n some.0 (omega (arith, some.2, size, is_all)) in
    (omega (arith, within.1, parts.0), omega (arith, within.2, parts.2))

pub possible_joins : (n from : ℕ) (kind : Kind) (to : ℕ) → is_possible n from kind to ≡ true → (from < n) × (to < n)
unfolding all_edges
possible_joins n from kind to is = joins n (edge_count n) from kind to refl is

pub edges_join : (rows : List Labels) → JoinsLabels (edges_of_rows rows)
edges_join rows from kind to is =
    possible_joins Label.COUNT from kind to (and_parts (is_in (row_of rows from kind) to) _ (sym (allows-rows rows from kind to) ∙ is)).1

-- edges join the labels that the rows do
pub edges_join_below : (n : ℕ) (rows : List Labels) → RowsJoin n rows → JoinsBelow n (edges_of_rows rows)
edges_join_below n rows labels from kind to is =
    labels from kind to (and_parts (is_in (row_of rows from kind) to) _ (sym (allows-rows rows from kind to) ∙ is)).0

-- the row of a label has the labels to which it has edges
pub row_allows : (rows : List Labels) (span : ℕ) → span ≤ Label.COUNT → RowsJoin span rows → (from : ℕ) (kind : Kind) (to : ℕ)
    → is_in (row_of rows from kind) to ≡ allows (edges_of_rows rows) from kind to
row_allows rows span few labels from kind to = by (is_in (row_of rows from kind) to) refl where
  by : (bit : Bool) → is_in (row_of rows from kind) to ≡ bit → is_in (row_of rows from kind) to ≡ allows (edges_of_rows rows) from kind to
  by true is =
      let ends = labels from kind to is in
      let can = possible Label.COUNT from kind to (omega (arith, ends.0, few)) (omega (arith, ends.1, few)) in
      is ∙ sym (allows-rows rows from kind to ∙ (λ i. is i && can i))
  by false is = is ∙ sym (allows-rows rows from kind to ∙ ap (λ b. b && is_possible Label.COUNT from kind to) is)

-- no edges stand in no rows
pub no_rows : edges_of_rows [] ≡ []
unfolding edges_of_rows
no_rows = none (all_edges Label.COUNT) where
  none : (edges : List Edge) → filter (λ edge. is_in (row_of [] edge.from edge.kind) edge.to) edges ≡ []
  none [] = refl
  none (edge ∷ rest) =
      ap (λ b. cond b (edge ∷ filter (λ other. is_in (row_of [] other.from other.kind) other.to) rest) (filter (λ other. is_in (row_of [] other.from other.kind) other.to) rest))
      (in_no_labels edge.to)
      ∙ none rest

pub no_bits : RowsJoin 0 []
no_bits from kind to is = absurd (false≢true (sym (in_no_labels to) ∙ is))

-- the rows after an edge is added

-- rows that are filled up with rows of no label
pub filled : (rows : List Labels) (count n : ℕ) (none : Labels) (to : ℕ) → is_in none to ≡ false
    → is_in (get_or (rows ++ replicate count none) n no_labels) to ≡ is_in (get_or rows n no_labels) to
filled [] zero n none to is = refl
filled [] (suc count) zero none to is = is ∙ sym (in_no_labels to)
filled [] (suc count) (suc n) none to is = filled [] count n none to is
filled (row ∷ rows) count zero none to is = refl
filled (row ∷ rows) count (suc n) none to is = filled rows count n none to is

pub row_set : (rows grown : List Labels) (edge : Edge) (row : Labels) → length grown ≡ row_count → edge.from < Label.COUNT
    → ((n to : ℕ) → is_in (get_or grown n no_labels) to ≡ is_in (get_or rows n no_labels) to)
    → ((to : ℕ) → is_in row to ≡ (is_in (row_of grown edge.from edge.kind) to || (to == edge.to))) → (from : ℕ) (kind : Kind) (to : ℕ)
    → is_in (row_of (set grown (row_number edge.from edge.kind) row) from kind) to
    ≡ (is_edge from kind to edge || is_in (row_of rows from kind) to)
row_set rows grown edge row count low same is from kind to = by (cases_eq (row_number from kind) (row_number edge.from edge.kind)) where
  goal : Bool
  goal = is_in (row_of (set grown (row_number edge.from edge.kind) row) from kind) to

  here : row_number from kind ≡ row_number edge.from edge.kind → goal ≡ (is_in (row_of rows from kind) to || (to == edge.to))
  here at =
      let of_kind = number_below edge.kind in
      ap (λ n. is_in (get_or (set grown (row_number edge.from edge.kind) row) n no_labels) to) at
      ∙ ap (λ r. is_in r to) (get_or-set_same grown (row_number edge.from edge.kind) row no_labels (omega arith))
      ∙ is to
      ∙ ap (λ n. is_in (get_or grown n no_labels) to || (to == edge.to)) (sym at)
      ∙ ap (λ b. b || (to == edge.to)) (same (row_number from kind) to)

  parts : row_number from kind ≡ row_number edge.from edge.kind → (from ≡ edge.from) × (kind_number kind ≡ kind_number edge.kind)
  parts at = same_from_place from (kind_number kind) edge.from (kind_number edge.kind) kind_count (number_below kind) (number_below edge.kind) at

  at_end : row_number from kind ≡ row_number edge.from edge.kind → (b : Bool) → (to == edge.to) ≡ b
      → goal ≡ (is_edge from kind to edge || is_in (row_of rows from kind) to)
  at_end at true ends =
      here at ∙ or_right _ (to == edge.to) ends
      ∙ sym (or_left (is_edge from kind to edge) _ (of_parts edge from kind to (sym (parts at).0) (sym (parts at).1) (sym (eqb-true to edge.to ends))))
  at_end at false apart =
      here at ∙ ap (λ b. is_in (row_of rows from kind) to || b) apart ∙ or-false _
      ∙ sym (ap (λ b. b || is_in (row_of rows from kind) to)
      (false_from_ne_true (is_edge from kind to edge) (λ e. eqb-false to edge.to apart (sym (same_parts edge from kind to e).2))))

  by : (row_number from kind ≡ row_number edge.from edge.kind) ⊎ (row_number from kind ≡ row_number edge.from edge.kind → ⊥)
      → goal ≡ (is_edge from kind to edge || is_in (row_of rows from kind) to)
  by (inl at) = at_end at (to == edge.to) refl
  by (inr other) =
      ap (λ r. is_in r to) (get_or-set_other grown (row_number edge.from edge.kind) (row_number from kind) row no_labels other)
      ∙ same (row_number from kind) to
      ∙ sym (ap (λ b. b || is_in (row_of rows from kind) to)
      (false_from_ne_true (is_edge from kind to edge)
      (λ e. let same_place = same_parts edge from kind to e in other (λ i. sym same_place.0 i * kind_count + sym same_place.1 i))))

-- the edges that are allowed after one is added
pub edges_added : (old new : List Labels) (span greater : ℕ) (edge : Edge) → span ≤ greater → greater ≤ Label.COUNT → edge.from < greater → edge.to < greater
    → ((from : ℕ) (kind : Kind) (to : ℕ)
    → is_in (row_of new from kind) to ≡ (is_edge from kind to edge || is_in (row_of old from kind) to)) → RowsJoin span old
    → record {
      labels : RowsJoin greater new;
      added : (from : ℕ) (kind : Kind) (to : ℕ)
          → allows (edges_of_rows new) from kind to ≡ (is_edge from kind to edge || allows (edges_of_rows old) from kind to);
    }
edges_added old new span greater edge more few low high bits before = record {
  labels = labels;
  added = λ from kind to.
      sym (row_allows new greater few labels from kind to) ∙ bits from kind to
      ∙ ap (λ b. is_edge from kind to edge || b) (row_allows old span (omega (arith, more, few)) before from kind to);
} where
  labels : RowsJoin greater new
  labels from kind to is = elim (or_cases _ _ (sym (bits from kind to) ∙ is)) [
    | inl e ↦ let parts = same_parts edge from kind to e in (omega (arith, parts.0, low), omega (arith, parts.2, high))
    | inr was ↦ let ends = before from kind to was in (omega (arith, ends.0, more), omega (arith, ends.1, more))
  ]
