-- Labels that a system lacks: such a label is nothing there, and has no cell and no use; each label that it has stands there.
use Rattle.std.{specs.Option.{is_none, is_some}, proofs.Common.{ℕ, ◌&&◌, ◌∙◌, ◌≡◌, Bool, None, Option, Some, ap, false, if◌then◌else◌}}
use Rattle.{std.proofs.Common.{refl, true}, summary.specs.declared.rows.Row.Row}
use Rattle.diff.specs.{declared.change.{Standing.{Standing, Standing as stands}, Verb.Verb}, Changes.adds_standing}
use Rattle.diff.specs.Side.{SideOf, cell, is_here, marks_between, no_marks, region_at, row_at, row_in, standing, use_between, uses}

no_row : (side : SideOf) (a : ℕ) → is_here side a ≡ false → row_at side (Some a) ≡ None
no_row side a is = ap (λ b. if b then row_in side.rows a else None) is

no_region : (side : SideOf) (a : ℕ) → is_here side a ≡ false → region_at side (Some a) ≡ None
no_region side a is = ap (λ b. if b && is_none (row_in side.rows a) then Some a else None) is

-- cells and uses

pub none_from : (row : Option Row) → marks_between None row ≡ no_marks
none_from None = refl
none_from (Some row) = refl

none_to : (row : Option Row) → marks_between row None ≡ no_marks
none_to None = refl
none_to (Some row) = refl

unused : (how : Verb) (row : Option Row) → use_between how row None ≡ false
unused how None = refl
unused how (Some row) = refl

by_none : (how : Verb) (region : Option ℕ) → use_between how None region ≡ false
by_none how None = refl
by_none how (Some label) = refl

module _ (side : SideOf) (from to : ℕ) where
  pub no_cell_from : is_here side from ≡ false → cell side (Some from) (Some to) ≡ no_marks
  no_cell_from is = ap (λ row. marks_between row (row_at side (Some to))) (no_row side from is) ∙ none_from (row_at side (Some to))

  pub no_cell_to : is_here side to ≡ false → cell side (Some from) (Some to) ≡ no_marks
  no_cell_to is = ap (marks_between (row_at side (Some from))) (no_row side to is) ∙ none_to (row_at side (Some from))

  pub no_use_from : (how : Verb) → is_here side from ≡ false → uses side how (Some from) (Some to) ≡ false
  no_use_from how is =
      ap (λ row. use_between how row (region_at side (Some to))) (no_row side from is) ∙ by_none how (region_at side (Some to))

  pub no_use_to : (how : Verb) → is_here side to ≡ false → uses side how (Some from) (Some to) ≡ false
  no_use_to how is = ap (use_between how (row_at side (Some from))) (no_region side to is) ∙ unused how (row_at side (Some from))

-- what a label is

abbrev stands_by : Bool → ℕ → Option Row → Standing
stands_by here a row =
    if is_some (if here then row else None) then stands.Program
    else (if is_some (if here && is_none row then Some a else None) then stands.Label else stands.Absent)

pub adds_absent : (one : Standing) → adds_standing one stands.Absent ≡ false
adds_absent stands.Absent = refl
adds_absent stands.Label = refl
adds_absent stands.Program = refl

pub is_absent : (side : SideOf) (a : ℕ) → is_here side a ≡ false → standing side (Some a) ≡ stands.Absent
is_absent side a is = ap (λ here. stands_by here a (row_in side.rows a)) is

-- a label is new if the old system lacks it
pub is_new : (side : SideOf) (a : ℕ) → is_here side a ≡ true → adds_standing stands.Absent (standing side (Some a)) ≡ true
is_new side a is =
    ap (λ here. adds_standing stands.Absent (stands_by here a (row_in side.rows a))) is ∙ by (row_in side.rows a)
  where
    by : (row : Option Row) → adds_standing stands.Absent (stands_by true a row) ≡ true
    by None = refl
    by (Some row) = refl
