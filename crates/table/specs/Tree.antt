-- The derivation tree of a capability table: which capabilities may be parent and child, and which are original (seL4 manual, "Capability
-- Derivation Tree").
use Rattle.std.specs.{Int.RustNames.bit_and, Option.option_and_then, Prelude.{ℕ, ◌&&◌, ◌==◌, ◌||◌, ◌≡◌, ◌⊎◌, Bool, List}}
use Rattle.{std.specs.Prelude.{None, Option, Some, false, map, not, position, true}, base.specs.declared.ids.SlotRef.SlotRef}
use Rattle.machine.specs.declared.cap.{Cap.Cap, Detail.{Detail, Detail as d}}
use Rattle.machine.specs.declared.layout.{Filled.Filled, Pair.Pair, Version.Version as version}
use Rattle.machine.specs.{Capabilities.badge_of, Layout.{Layout, empty_layout, initial_cap, initial_parent}, Machine.same_id}

-- a capability's rights, as bits; a kind without rights has none
abbrev pub rights_of : Detail → ℕ
rights_of (d.Endpoint end) = end.rights.0
rights_of (d.Notification end) = end.rights.0
rights_of (d.Frame rights) = rights.0
rights_of _ = 0

abbrev pub is_for_untyped : Detail → Bool
is_for_untyped d.Untyped = true
is_for_untyped _ = false

-- the table of only these capabilities and pairs
abbrev pub tree_of : List Filled → List Pair → Layout
tree_of caps pairs = record (empty_layout version.One) { caps = caps; pairs = pairs }

-- the capability in the parent of a slot, if there are both
unfoldable pub source_of : Layout → SlotRef → Option Cap
source_of t slot = option_and_then (initial_cap t) (initial_parent t slot)

-- whether a capability with this source is original; a copy has the source's badge
abbrev pub is_original_from : Option Cap → Detail → Bool
is_original_from None detail = true
is_original_from (Some source) detail = not (badge_of detail == badge_of source.detail)

-- whether a capability is original in this slot
unfoldable pub is_original : Layout → SlotRef → Detail → Bool
is_original t slot detail = is_original_from (source_of t slot) detail

abbrev pub with_mark : Layout → Filled → Filled
with_mark t filled = record filled { cap = record filled.cap { original = is_original t filled.slot filled.cap.detail } }

-- the table whose capabilities are all marked as its pairs say
abbrev pub with_originals : Layout → Layout
with_originals t = record t { caps = map (with_mark t) t.caps }

-- a pair of the tree: both slots are filled, for one object. The one above is original, and has no badge or the badge of the one below. The
-- one below has no right that the one above lacks. Neither is for untyped memory, which has one capability at most: a capability that is
-- its own parent isn't original.
pub record IsPairOf (t : Layout) (pair : Pair) : Type 0 where
  pub above : Cap
  pub below : Cap
  pub parent : initial_cap t pair.parent ≡ Some above
  pub child : initial_cap t pair.child ≡ Some below
  pub object : above.object ≡ below.object
  pub original : above.original ≡ true
  pub badge : (badge_of above.detail ≡ 0) ⊎ (badge_of above.detail ≡ badge_of below.detail)
  pub rights : bit_and (rights_of above.detail) (rights_of below.detail) ≡ rights_of below.detail

-- whether two capabilities may be a pair of the tree
abbrev pub are_kin : Option Cap → Option Cap → Bool
are_kin (Some above) (Some below) =
    same_id above.object below.object && above.original
    && (badge_of above.detail == 0 || badge_of above.detail == badge_of below.detail)
    && bit_and (rights_of above.detail) (rights_of below.detail) == rights_of below.detail
are_kin _ _ = false

unfoldable pub is_kin : Layout → Pair → Bool
is_kin t pair = are_kin (initial_cap t pair.parent) (initial_cap t pair.child)

-- the number of the first pair that may not be one
unfoldable pub tree_fault : Layout → Option ℕ
tree_fault t = position (λ pair. not (is_kin t pair)) t.pairs
