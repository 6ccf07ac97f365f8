-- Two lists of rows of one system, which say the same.
use Rattle.std.{specs.{List.AllByRecursion, Option.is_some, Prelude.not}, proofs.Common.{[], ℕ, ◌&&◌, ◌==◌, ◌↔◌, ◌∙◌, ◌∷◌}}
use Rattle.std.proofs.Common.{◌≡◌, Bool, List, None, Option, Some, ap, cond, false, if◌then◌else◌, map, refl, subst, sym, true}
use Rattle.{std.proofs.lemmas.List.Elements.recursion_from_All, base.specs.Labels.is_in, machine.specs.Layout.Layout}
use Rattle.reach.specs.{Extents.{Limits, MayChangeIn, MayShrinkIn, limits_of}, Reach.TableReach}
use Rattle.summary.specs.{declared.rows.Row.Row, Letters.{HasLetter, by_answer, by_call, by_other, by_signal}}
use Rattle.summary.specs.{Regions.takes_from, Rows.{AreRows, IsRowOf}, Sharing.{SharesMemory, reads_of}}
use Rattle.diff.specs.declared.change.{Standing.Standing as stands, Verb.{Verb, Verb as verb}}
use Rattle.diff.specs.Side.{SideOf, cell, is_here, marks_between, marks_of, no_marks, region_at, row_at}
use Rattle.diff.{specs.Side.{row_in, standing, use_between, use_in, uses}, proofs.Outside.none_from}

-- two tests of one condition
same_test : (P : ℕ → Type 0) (a b : ℕ) → a ≡ b → (x y : Bool) → (x ≡ true) ↔ P a → (y ≡ true) ↔ P b → x ≡ y
same_test P a b same true y one other = sym (other.1 (subst P same (one.0 refl)))
same_test P a b same false true one other = one.1 (subst P (sym same) (other.0 refl))
same_test P a b same false false one other = refl

module _ (t : Layout) (limits : Limits) where
  abbrev IsRow : Row → Type 0
  IsRow = IsRowOf t limits

  -- two rows of one label
  module _ (row other : Row) (same : row.label ≡ other.label) (is : IsRow row) (also : IsRow other) (l : ℕ) where
    by : (P : ℕ → Type 0) (x y : Bool) → (x ≡ true) ↔ P row.label → (y ≡ true) ↔ P other.label → x ≡ y
    by P = same_test P row.label other.label same

    changes : is_in row.changes l ≡ is_in other.changes l
    changes = by (λ a. MayChangeIn limits a l) (is_in row.changes l) (is_in other.changes l) (is.changes l) (also.changes l)

    takes : takes_from row l ≡ takes_from other l
    takes =
        let shrinks = by (λ a. MayShrinkIn limits a l) (is_in row.shrinks l) (is_in other.shrinks l) (is.shrinks l) (also.shrinks l) in
        λ i. shrinks i && not (changes i)

    same_marks_of : marks_of row l ≡ marks_of other l
    same_marks_of =
        let calls = by (λ a. HasLetter by_call limits a l) (is_in row.calls l) (is_in other.calls l) (is.calls l) (also.calls l) in
        let answers = by (λ a. HasLetter by_answer limits a l) (is_in row.answers l) (is_in other.answers l) (is.answers l) (also.answers l) in
        let signals = by (λ a. HasLetter by_signal limits a l) (is_in row.signals l) (is_in other.signals l) (is.signals l) (also.signals l) in
        let others = by (λ a. HasLetter by_other limits a l) (is_in row.others l) (is_in other.others l) (is.others l) (also.others l) in
        let shares = by (λ a. SharesMemory t limits.test a l) (is_in row.shares l) (is_in other.shares l) (is.shares l) (also.shares l) in
        λ i. record {
          changes = changes i;
          calls = calls i;
          answers = answers i;
          signals = signals i;
          others = others i;
          takes = takes i;
          shares = shares i;
        }

    same_use_in : (how : Verb) → use_in how row l ≡ use_in how other l
    same_use_in verb.Changes = changes
    same_use_in verb.Takes = takes
    same_use_in verb.Reads = is.reads l ∙ ap (λ a. reads_of limits.test a l) same ∙ sym (also.reads l)

  -- two rows that may be missing
  abbrev AreAlike : Option Row → Option Row → Type 0
  AreAlike None None = Unit {0}
  AreAlike (Some row) (Some other) = (row.label ≡ other.label) × IsRow row × IsRow other
  AreAlike _ _ = ⊥

  found_alike : (rows others : List Row) → map (λ row. row.label) rows ≡ map (λ row. row.label) others
      → AllByRecursion IsRow rows → AllByRecursion IsRow others → (a : ℕ) → AreAlike (row_in rows a) (row_in others a)
  found_alike [] [] same all also a = tt
  found_alike [] (other ∷ others) same all also a = cc
  found_alike (row ∷ rows) [] same all also a = cc
  found_alike (row ∷ rows) (other ∷ others) same all also a =
      let head : row.label ≡ other.label = cc in
      let tail : map (λ row. row.label) rows ≡ map (λ row. row.label) others = cc in
      let rest = found_alike rows others tail all.1 also.1 a in
      subst (λ b. AreAlike (row_in (row ∷ rows) a) (cond b (Some other) (row_in others a))) (ap (λ l. l == a) head) (here (row.label == a) head rest)
    where
      here : (b : Bool) → row.label ≡ other.label → AreAlike (row_in rows a) (row_in others a)
          → AreAlike (cond b (Some row) (row_in rows a)) (cond b (Some other) (row_in others a))
      here true head rest = (head, all.0, also.0)
      here false head rest = rest

  alike_if : (b : Bool) (row other : Option Row) → AreAlike row other → AreAlike (if b then row else None) (if b then other else None)
  alike_if true row other alike = alike
  alike_if false row other alike = tt

  both_there : (row other : Option Row) → AreAlike row other → is_some row ≡ is_some other
  both_there None None alike = refl
  both_there (Some row) (Some other) alike = refl
  both_there None (Some other) alike = absurd alike
  both_there (Some row) None alike = absurd alike

  same_between : (row other to also : Option Row) → AreAlike row other → AreAlike to also → marks_between row to ≡ marks_between other also
  same_between None None to also alike ends = none_from to ∙ sym (none_from also)
  same_between (Some row) (Some other) None None alike ends = refl
  same_between (Some row) (Some other) (Some to) (Some also) alike ends =
      λ i. if alike.0 i == ends.0 i then no_marks else same_marks_of row other alike.0 alike.1 alike.2 (ends.0 i) i
  same_between (Some row) (Some other) None (Some also) alike ends = absurd ends
  same_between (Some row) (Some other) (Some to) None alike ends = absurd ends
  same_between None (Some other) to also alike ends = absurd alike
  same_between (Some row) None to also alike ends = absurd alike

  same_use : (how : Verb) (row other : Option Row) (region : Option ℕ) → AreAlike row other
      → use_between how row region ≡ use_between how other region
  same_use how None None region alike = refl
  same_use how (Some row) (Some other) None alike = refl
  same_use how (Some row) (Some other) (Some l) alike = same_use_in row other alike.0 alike.1 alike.2 l how
  same_use how None (Some other) region alike = absurd alike
  same_use how (Some row) None region alike = absurd alike

-- two sides of one system
module _ (reach : TableReach) (rows others : List Row) (are : AreRows reach rows) (also : AreRows reach others) where
  abbrev one : SideOf
  one = record { reach = reach; rows = rows }

  abbrev other : SideOf
  other = record { reach = reach; rows = others }

  abbrev Alike : Option Row → Option Row → Type 0
  Alike = AreAlike reach.table (limits_of reach)

  found : (a : ℕ) → Alike (row_in rows a) (row_in others a)
  found =
      found_alike reach.table (limits_of reach) rows others (are.labels ∙ sym also.labels)
      (recursion_from_All (IsRowOf reach.table (limits_of reach)) rows are.each)
      (recursion_from_All (IsRowOf reach.table (limits_of reach)) others also.each)

  at : (a : ℕ) → Alike (row_at one (Some a)) (row_at other (Some a))
  at a = alike_if reach.table (limits_of reach) (is_here one a) (row_in rows a) (row_in others a) (found a)

  same_region : (a : ℕ) → region_at one (Some a) ≡ region_at other (Some a)
  same_region a =
      ap (λ b. if is_here one a && not b then Some a else None)
      (both_there reach.table (limits_of reach) (row_in rows a) (row_in others a) (found a))

  pub same_standing_at : (a : ℕ) → standing one (Some a) ≡ standing other (Some a)
  same_standing_at a =
      let program = both_there reach.table (limits_of reach) (row_at one (Some a)) (row_at other (Some a)) (at a) in
      λ i. if program i then stands.Program else (if is_some (same_region a i) then stands.Label else stands.Absent)

  pub same_cell_at : (a b : ℕ) → cell one (Some a) (Some b) ≡ cell other (Some a) (Some b)
  same_cell_at a b =
      same_between reach.table (limits_of reach) (row_at one (Some a)) (row_at other (Some a)) (row_at one (Some b)) (row_at other (Some b))
      (at a) (at b)

  pub same_use_at : (how : Verb) (a b : ℕ) → uses one how (Some a) (Some b) ≡ uses other how (Some a) (Some b)
  same_use_at how a b =
      same_use reach.table (limits_of reach) how (row_at one (Some a)) (row_at other (Some a)) (region_at one (Some b)) (at a)
      ∙ ap (use_between how (row_at other (Some a))) (same_region b)
