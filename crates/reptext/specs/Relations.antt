-- The relations of labels in the report of an acceptance, and tests that decide them (confine's own).
use Rattle.std.specs.Prelude.{ℕ, ◌<◌, ◌↔◌, ◌≡◌, Bool, List, get_or, length, true}
use Rattle.base.specs.{declared.labels.Labels.Labels, Labels.{is_in, no_labels}}
use Rattle.{machine.specs.Layout.Layout, policy.specs.{Cut.IsCut, Domain.EdgeTest, Full.IsFull}}
use Rattle.reptext.specs.declared.relations.Relation.{Relation, TheVariants.{Cut, Full}}

abbrev pub relates : Relation → EdgeTest → ℕ → ℕ → Type 0
relates Cut allowed = IsCut allowed
relates Full allowed = IsFull allowed

-- a test decides a relation for the labels of a table
abbrev pub Decides : Layout → (ℕ → ℕ → Bool) → (ℕ → ℕ → Type 0) → Type 0
Decides t test R = (a : ℕ) → a < length t.labels → (l : ℕ) → (test a l ≡ true) ↔ R a l

-- whether a label is in the set of another, where each label has a set
abbrev pub relation_of : List Labels → ℕ → ℕ → Bool
relation_of sets a l = is_in (get_or sets a no_labels) l
