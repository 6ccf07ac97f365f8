-- The place of objects in memory: alignment, and which objects overlap (compare the seL4 manual, "Memory Allocation").
use Rattle.std.specs.{List.{All, AllPairs}, Prelude.{ℕ, ◌%◌, ◌&&◌, ◌<◌, ◌==◌, ◌^◌, ◌≤◌, Bool, List, None, Option, Some, nat_le, nat_lt}}
use Rattle.{std.specs.Prelude.true, machine.specs.{declared.object.Object.Object, Objects.{address_of, end_of, size_bits}}}
use Rattle.table.specs.declared.extent.Extent.{Extent}

-- an object has a byte at an address
abbrev pub Lies : Object → ℕ → Type 0
Lies object address = (address_of object ≤ address) × (address < end_of object)

-- no address is in both objects
abbrev pub IsApart : Object → Object → Type 0
IsApart one other = (address : ℕ) → Lies one address → Lies other address → ⊥

-- whether some address is in both objects
abbrev pub meets : Object → Object → Bool
meets one other = nat_lt (address_of one) (end_of other) && nat_lt (address_of other) (end_of one)

-- whether an object's address is a multiple of its size; one that takes no memory has no address
abbrev pub is_aligned : Object → Bool
is_aligned object = at_multiple (size_bits object) where
  at_multiple : Option ℕ → Bool
  at_multiple None = true
  at_multiple (Some bits) = address_of object % 2 ^ bits == 0

-- whether some address is in both extents
abbrev pub touches : Extent → Extent → Bool
touches one other = nat_lt one.start other.end && nat_lt other.start one.end

-- whether an address is in an extent
abbrev pub holds : ℕ → Extent → Bool
holds address extent = nat_le extent.start address && nat_lt address extent.end

-- rising ranges of addresses, each of which ends before the next starts
pub record AreApart (extents : List Extent) : Type 0 where
  pub upward : All (λ extent. extent.start ≤ extent.end) extents
  pub rising : AllPairs (λ one other. one.end ≤ other.start) extents
