-- The labels of two systems, by their names (confine's own).
use Rattle.std.specs.{List.flat_map, Prelude.{[], ℕ, ◌++◌, ◌∷◌, List, Option, Some, if◌then◌else◌, is_none, option_and_then, slice_get}}
use Rattle.{machine.specs.Layout.Layout, table.specs.Names.label_named}
use Rattle.{summary.specs.Labelled.labels_of, diff.specs.declared.names.Named.Named}

-- the label of another table that has the name of a label of this one
abbrev pub twin_of : Layout → Layout → ℕ → Option ℕ
twin_of t other label = option_and_then (label_named other) (slice_get t.labels label)

-- a label of the new system
abbrev pub named_in_new : Layout → Layout → ℕ → Named
named_in_new old new label = record { old = twin_of new old label; new = Some label }

-- a label of the old system
abbrev pub named_in_old : Layout → Layout → ℕ → Named
named_in_old old new label = record { old = Some label; new = twin_of old new label }

-- the names of both: those of the new system in its order, and then those that only the old one has

abbrev pub new_name : Layout → Layout → ℕ → List Named
new_name old new label = named_in_new old new label ∷ []

abbrev pub old_name : Layout → Layout → ℕ → List Named
old_name old new label = if is_none (twin_of old new label) then named_in_old old new label ∷ [] else []

abbrev pub names_of : Layout → Layout → List Named
names_of old new = flat_map (new_name old new) (labels_of new) ++ flat_map (old_name old new) (labels_of old)
