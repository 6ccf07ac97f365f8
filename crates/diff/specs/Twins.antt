-- The labels of two tables that have the same name, as a map of all numbers (confine's own).
use Rattle.std.specs.Prelude.{ℕ, ◌+◌, ◌<◌, ◌≡◌, None, Option, Some, length}
use Rattle.{machine.specs.Layout.Layout, diff.specs.Names.twin_of}

-- a number that may be missing, or else another
abbrev pub number_or : ℕ → Option ℕ → ℕ
number_or other None = other
number_or other (Some number) = number

-- the twin of a label of the first table is the label of the second that has its name. If there is none, it is a number past the labels of
-- the second, and so for numbers that are no labels of the first
abbrev pub twin_by_name : Layout → Layout → ℕ → ℕ
twin_by_name t u label = number_or (length u.labels + label) (twin_of t u label)

-- each label of the first table has a label of that name in the second
abbrev pub AreAllNamed : Layout → Layout → Type 0
AreAllNamed t u = (a : ℕ) → a < length t.labels → (b : ℕ) × (twin_of t u a ≡ Some b)
