-- Sets of labels.
use Rattle.std.specs.{Int.bit_at, List.{filter, range_with_len}, Prelude.{[], ℕ, ◌%◌, ◌/◌, ◌==◌, ◌∷◌, Bool, List, slice_index_or}}
use Rattle.base.specs.declared.labels.{Labels.Labels, part.Part.Part}
use Rattle.base.specs.declared.label.TheConstants.Label as Label

-- whether a number below 64 is in a part of a set
abbrev pub is_in_part : Part → ℕ → Bool
is_in_part part number = bit_at part.word number == 1

-- the part that has no number
abbrev pub no_part : Part
no_part = record { word = 0 }

-- whether a label is in a set, whose first part is of the labels 0 to 63, and so on
unfoldable pub is_in : Labels → ℕ → Bool
is_in labels label = is_in_part (slice_index_or labels.parts (label / 64) no_part) (label % 64)

-- the set of no label
abbrev pub no_labels : Labels
no_labels = record { parts = no_part ∷ no_part ∷ no_part ∷ no_part ∷ [] }

-- the labels of a set, rising
unfoldable pub members_of : Labels → List ℕ
members_of labels = filter (is_in labels) (range_with_len 0 Label.COUNT)
