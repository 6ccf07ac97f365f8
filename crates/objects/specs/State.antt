-- The machine that contracts see of a `State`, and what is true of each state.
use Rattle.std.specs.FinMap as finite
use Rattle.std.specs.{List.{flat_map, range_with_len}, Prelude.{[], ℕ, ◌<◌, ◌≡◌, ◌≤◌, IsSome, List, None, Option, Some, length, map}}
use Rattle.std.specs.Prelude.{option_map, vec_capacity}
use Rattle.base.specs.declared.{ids.{ObjId.ObjId, SlotRef.SlotRef}, limits.TheConstants.OBJECT_NUMBERS}
use Rattle.machine.specs.{Counts.caps_to, Finite.tabulate, Machine.Machine, Objects.slot_count}
use Rattle.objects.specs.{declared.{entry.Entry.Entry, state.State.TheInside.Inside}, Counts.{AreOfNumbers, counts_in}, Entries.caps_in}
use Rattle.objects.specs.{Entries.{entry_of, slot_at}, Family.{AreKin, cap_in, parent_in}, Links.{AreQueued, queue_in}}
use Rattle.objects.specs.{Pairs.AreFilledOrGoing, Radices.HasRadix}

abbrev pub slots_of : ObjId → Option Entry → List SlotRef
slots_of id None = []
slots_of id (Some entry) = map (λ index. record { holder = id; index = index }) (range_with_len 0 (length entry.slots))

-- a machine by the entry of each object, of which this is a list
abbrev pub machine_from : (ObjId → Option Entry) → List ObjId → ℕ → List ObjId → Machine
machine_from entry ids next going =
    let slots : List SlotRef = flat_map (λ id. slots_of id (entry id)) ids in
    record {
      objects = tabulate (λ id. option_map (λ e. e.object) (entry id)) ids;
      queues = tabulate (λ id. queue_in next entry (entry id)) ids;
      words = tabulate (λ id. option_map (λ e. e.words) (entry id)) ids;
      caps = tabulate (λ slot. cap_in (slot_at entry slot)) slots;
      parents = tabulate (λ slot. parent_in (slot_at entry slot)) slots;
      next = next;
      going = going;
    }

unfoldable pub machine_of : Inside → Machine
machine_of s = machine_from (entry_of s.store) (finite.keys s.store) s.next s.going.items

-- an entry has as many slots as its object should, and a CNode has a radix
abbrev pub IsSized : Entry → Type 0
IsSized entry = (length entry.slots ≡ slot_count entry.object) × HasRadix entry.object

-- each number in use is below the next one, its object has as many slots as it should, a CNode has a radix, and the links are those
-- of queues and of a derivation tree
pub record IsConsistent (s : Inside) : Type 0 where
  pub fresh : (id : ObjId) → IsSome (entry_of s.store id) → id.0 < s.next
  pub bounded : s.next ≤ OBJECT_NUMBERS
  pub sized : (id : ObjId) (entry : Entry) → entry_of s.store id ≡ Some entry → IsSized entry
  pub queued : AreQueued (entry_of s.store) s.next
  pub kin : AreKin (entry_of s.store)

-- the counts are those of the present objects
pub record IsCounted (s : Inside) : Type 0 where
  pub exact : s.counts ≡ counts_in (machine_of s)
  pub few : AreOfNumbers s.counts s.next

-- each entry has the number of slots that hold a capability for its object, and none holds one for an absent object
abbrev pub IsTallied : Inside → Type 0
IsTallied s = (id : ObjId) → caps_in (entry_of s.store id) ≡ caps_to (machine_of s) id

-- the list of objects that are going has room for all objects
abbrev pub IsRoomy : Inside → Type 0
IsRoomy s = s.counts.objects ≤ vec_capacity s.going

-- what is true of each state
pub record IsSound (s : Inside) : Type 0 where
  pub consistent : IsConsistent s
  pub counted : IsCounted s
  pub tallied : IsTallied s
  pub roomy : IsRoomy s
  pub paired : AreFilledOrGoing (machine_of s)
