-- The objects of a capability table with their names, and where each object lies (confine's own).
use Rattle.std.specs.Prelude.{[], ℕ, ◌+◌, ◌∷◌, List}
use Rattle.machine.specs.{declared.{layout.Initial.Initial, object.Object.Object}, Objects.{address_of, end_of}}
use Rattle.table.specs.declared.extent.Extent.{Extent}

pub record Inventory : Type 0 where
  pub names : List (List ℕ)
  pub objects : List Initial

abbrev pub extent_of : ℕ → Object → Extent
extent_of number object = record { start = address_of object; end = end_of object; number = number }

-- the extents of objects, numbered from here on
unfoldable pub extents_from : ℕ → List Initial → List Extent
extents_from number [] = []
extents_from number (initial ∷ objects) = extent_of number initial.object ∷ extents_from (number + 1) objects
