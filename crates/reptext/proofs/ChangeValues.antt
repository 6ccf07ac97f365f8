-- That the changes from one system to another, as JSON, have no number with a fraction.
use Rattle.std.proofs.Common.{[], ◌∷◌, ◌≡◌, List, false, map, refl}
use Rattle.{serde_json.specs.{View.items_of, Written.{has_float, items_have_float}}, machine.specs.Layout.Layout}
use Rattle.{diff.specs.declared.change.Change.{Change, Change as change}, reptext.specs.Differences.{change_data, changes_data}}

one : (old new : Layout) (told : Change) → has_float (change_data old new told) ≡ false
one old new (change.Standing named was is) = refl
one old new (change.Cell from to was is) = refl
one old new (change.Use sign from verb to) = refl
one old new (change.Role sign role named) = refl
one old new (change.Edge sign from kind to) = refl

all : (old new : Layout) (changed : List Change) → items_have_float (items_of (map (change_data old new) changed)) ≡ false
all old new [] = refl
all old new (first ∷ more) = rw (one old new first) (all old new more)

pub changes_have_no_float : (old new : Layout) (changed : List Change) → has_float (changes_data old new changed) ≡ false
changes_have_no_float old new changed = rw (all old new changed) refl
