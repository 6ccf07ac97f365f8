-- Places of entries: a place for each number in use, and the entries at the places.
use Rattle.std.specs.HashMap as hash
use Rattle.std.specs.Prelude.{[], ℕ, ◌++◌, ◌∷◌, ◌≡◌, ◌≢◌, ◌≤◌, IsSome, List, None, Option, Some, map, nat_eq, option_and_then, slice_get}
use Rattle.{std.proofs.Common.suc, slab.specs.Slab.Slab, base.specs.declared.ids.ObjId.ObjId, machine.specs.Finite.tabulate}
use Rattle.objects.specs.{declared.{entry.Entry.Entry, numbers.Places.Places, store.Store.TheInside.Inside}, Entries.Entries}
use Rattle.slab.specs.Slab as slab

-- the table's answer for a number, or the hash map's if the table is not for that number
abbrev pub from_either : Option (Option ℕ) → Option ℕ → Option ℕ
from_either None late = late
from_either (Some place) late = place

-- the place of each number in use
abbrev pub places_in : Places → ℕ → Option ℕ
places_in places number = from_either (slice_get places.early number) (hash.get nat_eq places.late number)

-- successive numbers, as many as a list is long
abbrev pub numbers_from : {X : Type 0} → ℕ → List X → List ℕ
numbers_from number [] = []
numbers_from number (x ∷ xs) = number ∷ numbers_from (suc number) xs

-- the numbers that may be in use
abbrev pub numbers_in : Places → List ℕ
numbers_in places = numbers_from 0 places.early ++ hash.keys places.late

-- the entry at an object's place
abbrev pub placed : (ℕ → Option ℕ) → Slab Entry → ObjId → Option Entry
placed places entries id = option_and_then (slab.get entries) (places id.0)

-- the entries by number
unfoldable pub entries_by_number : Inside → Entries
entries_by_number s =
    tabulate (placed (places_in s.places) s.entries) (map (λ number. record { 0 = number }) (numbers_in s.places))

-- each number in use has a place of its own, and an entry is there
pub record IsPlaced (s : Inside) : Type 0 where
  pub apart :
      (a b place : ℕ) → places_in s.places a ≡ Some place → places_in s.places b ≡ Some place → a ≡ b
  pub held : (a place : ℕ) → places_in s.places a ≡ Some place → IsSome (slab.get s.entries place)

-- the entries with the one at a place changed, if it has one
abbrev pub changed_at : Slab Entry → (Entry → Entry) → ℕ → Option Entry → Slab Entry
changed_at entries change place None = entries
changed_at entries change place (Some entry) = slab.with_value entries place (change entry)

abbrev pub changed : Slab Entry → (Entry → Entry) → Option ℕ → Slab Entry
changed entries change None = entries
changed entries change (Some place) = changed_at entries change place (slab.get entries place)

-- the entries with the one at an object's place changed, if it has one
abbrev pub with_placed : (ℕ → Option ℕ) → Slab Entry → ObjId → (Entry → Entry) → Slab Entry
with_placed places entries id change = changed entries change (places id.0)

-- the entry is added under the number, at a place that was empty
pub record AddsEntry (places places' : ℕ → Option ℕ) (entries entries' : Slab Entry) (number : ℕ) (entry : Entry) : Type 0 where
  pub place : ℕ
  pub vacant : slab.get entries place ≡ None
  pub placed : places' number ≡ Some place
  pub stays : (other : ℕ) → other ≢ number → places' other ≡ places other
  pub added : slab.Updates entries entries' place (Some entry)

-- the number has no place; every other number has the place that it had, and each place but the number's its entry
pub record RemovesEntry (places places' : ℕ → Option ℕ) (entries entries' : Slab Entry) (number : ℕ) : Type 0 where
  pub gone : places' number ≡ None
  pub stays : (other : ℕ) → other ≢ number → places' other ≡ places other
  pub kept : (place : ℕ) → places number ≢ Some place → slab.get entries' place ≡ slab.get entries place

-- each number has the place that it had, and each place its entry
pub record SameEntries (places places' : ℕ → Option ℕ) (entries entries' : Slab Entry) : Type 0 where
  pub placed : (number : ℕ) → places' number ≡ places number
  pub kept : (place : ℕ) → slab.get entries' place ≡ slab.get entries place

-- this many entries can be added without memory
abbrev pub HasRoom : Places → Slab Entry → ℕ → Type 0
HasRoom places entries count = (count ≤ hash.spare places.late) × slab.HasRoomFor entries count
