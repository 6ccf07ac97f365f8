-- Rows of labels: for each label, whose objects it may affect and on whose it depends; and whose row has a label of a set (confine's own).
use Rattle.std.specs.Prelude.{ℕ, ◌<◌, ◌↔◌, ◌≡◌, List, get_or, length, true}
use Rattle.base.specs.{declared.labels.Labels.Labels, Labels.{is_in, no_labels}}
use Rattle.{reach.specs.Extents.Limits, flows.specs.Flowing.{DependsOn, MayAffect}}
use Rattle.base.specs.declared.label.TheConstants.Label as Label

-- the row of a label
abbrev pub row_at : List Labels → ℕ → Labels
row_at rows label = get_or rows label no_labels

-- a row for each label has the labels to which it is related so
pub record RelateSo (Related : ℕ → ℕ → Type 0) (rows : List Labels) : Type 0 where
  pub count : length rows ≡ Label.COUNT
  pub each : (a : ℕ) → a < Label.COUNT → (l : ℕ) → (is_in (row_at rows a) l ≡ true) ↔ Related a l

-- the rows of what each label affects, and of what it depends on
pub record AreFlowRows (limits : Limits) (affected needed : List Labels) : Type 0 where
  pub affects : RelateSo (MayAffect limits) affected
  pub depends : RelateSo (DependsOn limits) needed

-- a label's row has a label of the set
pub record MeetsSet (rows : List Labels) (set : Labels) (label : ℕ) : Type 0 where
  pub there : label < length rows
  pub at : ℕ
  pub has : is_in (row_at rows label) at ≡ true
  pub among : is_in set at ≡ true
