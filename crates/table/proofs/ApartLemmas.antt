-- Ranges of addresses that rise and don't meet: which of them another range meets, and where a range that meets none is inserted.
use Rattle.std.{specs.List.{insert, list_any, Sorted.{IsNonDecreasingBy, IsPartitionPoint}}, proofs.Common.{ℕ, ◌&&◌, ◌+◌, ◌-◌, ◌<◌, ◌∙◌}}
use Rattle.std.proofs.Common.{◌≡◌, ◌≤◌, Bool, List, ap, arith, false, get_or, inl, inr, length, nat_lt, refl, sym, true}
use Rattle.std.proofs.lemmas.{Bool.{cases_lt, cases_order, false≢true, Decides.nat_tests}, List.{get_or_default, Edits.get_or-insert_above}}
use Rattle.std.proofs.lemmas.List.{Edits.{get_or-insert_at, get_or-insert_below, length-insert}, Folds.{list_any_at, list_any_none}}
use Rattle.table.specs.{declared.extent.Extent.Extent, Placement.{AreApart, touches}}

pub starts_rise : (extents : List Extent) → AreApart extents → IsNonDecreasingBy (λ extent. extent.start) extents
starts_rise extents apart i j d le within = elim (cases_order i j) [
  | inl same ↦ rw same (omega arith)
  | inr (inl before) ↦ omega (arith, apart.upward i d (omega arith), apart.rising i j d before within)
  | inr (inr after) ↦ absurd (omega arith)
]

short : (start end from to : ℕ) → start < to → (nat_lt start to && nat_lt from end) ≡ false → end ≤ from
short start end from to below apart = grind (arith, nat_tests)

outside_low : (start end from to : ℕ) → end ≤ from → (nat_lt start to && nat_lt from end) ≡ false
outside_low start end from to low = grind (arith, nat_tests)

outside_high : (start end from to : ℕ) → to ≤ start → (nat_lt start to && nat_lt from end) ≡ false
outside_high start end from to high = grind (arith, nat_tests)

module _ (extents : List Extent) (extent : Extent) (at : ℕ) (apart : AreApart extents) (bound : at ≤ length extents)
    (parted : IsPartitionPoint (λ other. other.start < extent.end) (λ other. extent.end ≤ other.start) extents at) where
  above : (k : ℕ) (d : Extent) → at ≤ k → k < length extents → touches (get_or extents k d) extent ≡ false
  above k d from within =
      outside_high (get_or extents k d).start (get_or extents k d).end extent.start extent.end (parted.1 k d from within)

  -- if the last range that starts below ends below, all before it do
  below : (k : ℕ) (d : Extent) → k < at → touches (get_or extents (at - 1) d) extent ≡ false
      → touches (get_or extents k d) extent ≡ false
  below k d before none =
      let last = get_or extents (at - 1) d in
      let low : last.end ≤ extent.start =
      short last.start last.end extent.start extent.end (parted.0 (at - 1) d (omega arith) (omega arith)) none in
      elim (cases_order k (at - 1)) [
        | inl same ↦ rw same none
        | inr (inl earlier) ↦
            outside_low (get_or extents k d).start (get_or extents k d).end extent.start extent.end
            (omega (arith, apart.rising k (at - 1) d earlier (omega arith), apart.upward (at - 1) d (omega arith), low))
        | inr (inr later) ↦ absurd (omega arith)
      ]

  pub none_below : at ≡ 0 → list_any (λ other. touches other extent) extents ≡ false
  none_below zero = list_any_none (λ other. touches other extent) extents (λ k d within. above k d (omega arith) within)

  pub last_below : (d : Extent) → 0 < at → list_any (λ other. touches other extent) extents ≡ touches (get_or extents (at - 1) d) extent
  last_below d some = by (touches (get_or extents (at - 1) d) extent) refl where
    by : (met : Bool) → touches (get_or extents (at - 1) d) extent ≡ met
        → list_any (λ other. touches other extent) extents ≡ touches (get_or extents (at - 1) d) extent
    by true is = list_any_at (λ other. touches other extent) extents (at - 1) d (omega arith) is ∙ sym is
    by false is =
        list_any_none (λ other. touches other extent) extents (λ k other within. elim (cases_lt k at) [
          | inl before ↦
              below k other before (ap (λ last. touches last extent) (get_or_default extents (at - 1) other d (omega arith)) ∙ is)
          | inr from ↦ above k other from within
        ])
        ∙ sym is

  module _ (upward : extent.start ≤ extent.end) (free : list_any (λ other. touches other extent) extents ≡ false) where
    untouched : (k : ℕ) (d : Extent) → k < length extents → touches (get_or extents k d) extent ≡ false
    untouched k d within = by (touches (get_or extents k d) extent) refl where
      by : (met : Bool) → touches (get_or extents k d) extent ≡ met → touches (get_or extents k d) extent ≡ false
      by false is = is
      by true is = absurd (false≢true (sym free ∙ list_any_at (λ other. touches other extent) extents k d within is))

    reaches : (k : ℕ) (d : Extent) → k < at → (get_or extents k d).end ≤ extent.start
    reaches k d before =
        short (get_or extents k d).start (get_or extents k d).end extent.start extent.end (parted.0 k d (omega arith) before)
        (untouched k d (omega arith))

    at_below : (k : ℕ) (d : Extent) → k < at → get_or (insert extents at extent) k d ≡ get_or extents k d
    at_below k d before = get_or-insert_below extents at extent d k before bound

    at_itself : (k : ℕ) (d : Extent) → k ≡ at → get_or (insert extents at extent) k d ≡ extent
    at_itself k d same = ap (λ i. get_or (insert extents at extent) i d) same ∙ get_or-insert_at extents at extent d bound

    at_above : (k : ℕ) (d : Extent) → at < k → get_or (insert extents at extent) k d ≡ get_or extents (k - 1) d
    at_above k d after =
        ap (λ i. get_or (insert extents at extent) i d) (omega arith) ∙ get_or-insert_above extents at extent d (k - 1) (omega arith) bound

    -- ranges stay apart with one that meets none of them
    pub apart_with : AreApart (insert extents at extent)
    apart_with = record {
      upward = λ k d within. upward_at k d (omega (arith, within, length-insert extents at extent bound));
      rising = λ i j d before within. rising_at i j d before (omega (arith, within, length-insert extents at extent bound));
    } where
      upward_at : (k : ℕ) (d : Extent) → k < length extents + 1
          → (get_or (insert extents at extent) k d).start ≤ (get_or (insert extents at extent) k d).end
      upward_at k d within = elim (cases_order k at) [
        | inl same ↦ rw (at_itself k d same) upward
        | inr (inl before) ↦ rw (at_below k d before) (apart.upward k d (omega arith))
        | inr (inr after) ↦ rw (at_above k d after) (apart.upward (k - 1) d (omega arith))
      ]

      rising_at : (i j : ℕ) (d : Extent) → i < j → j < length extents + 1
          → (get_or (insert extents at extent) i d).end ≤ (get_or (insert extents at extent) j d).start
      rising_at i j d before within = elim (cases_order i at) [
        | inl here ↦ rw (at_itself i d here, at_above j d (omega arith)) (parted.1 (j - 1) d (omega arith) (omega arith))
        | inr (inr after) ↦
            rw (at_above i d after, at_above j d (omega arith)) (apart.rising (i - 1) (j - 1) d (omega arith) (omega arith))
        | inr (inl low) ↦ elim (cases_order j at) [
          | inl there ↦ rw (at_below i d low, at_itself j d there) (reaches i d low)
          | inr (inl lower) ↦ rw (at_below i d low, at_below j d lower) (apart.rising i j d before (omega arith))
          | inr (inr past) ↦ rw (at_below i d low, at_above j d past) (apart.rising i (j - 1) d (omega arith) (omega arith))
        ]
      ]
