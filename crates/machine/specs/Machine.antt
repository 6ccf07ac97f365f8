-- The kernel's state as contracts see it: its objects, the queue of each, the words of frames, the capabilities in slots, the
-- derivation tree, and the number of the next object; with the look-ups and the changes that the definitions above are made of.
use Rattle.std.specs.{declared.cmp.Ordering.Ordering, Coded.{Coded, code_by, coded_list, coded_ℕ, coded×}, FinMap.FinMap}
use Rattle.std.specs.{Ordering.{eq_by_cmp, nat_cmp, on, then_cmp}, Prelude.{[], ℕ, ◌+◌, Bool, List, None, Option, Some}}
use Rattle.{std.specs.Prelude.{false, nat_lt, refl, replicate}, base.specs.declared.ids.{ObjId.ObjId, SlotRef.SlotRef}}
use Rattle.machine.specs.{declared.{cap.Cap.Cap, object.Object.Object}, Objects.{slot_count, word_count}}
use Rattle.std.specs.FinMap as map

-- objects are ordered by number
abbrev pub id_cmp : ObjId → ObjId → Ordering
id_cmp = on (λ id. id.0) nat_cmp

-- slots are ordered by holder, then by index
abbrev pub slot_cmp : SlotRef → SlotRef → Ordering
slot_cmp = then_cmp (on (λ slot. slot.holder) id_cmp) (on (λ slot. slot.index) nat_cmp)

abbrev pub same_id : ObjId → ObjId → Bool
same_id = eq_by_cmp id_cmp

abbrev pub same_slot : SlotRef → SlotRef → Bool
same_slot = eq_by_cmp slot_cmp

-- each present object has a queue of the threads that wait at it, the first first, and the words of its memory, which frames have
pub record Machine : Type 0 where
  pub objects : FinMap id_cmp Object
  pub queues : FinMap id_cmp (List ObjId)
  pub words : FinMap id_cmp (List ℕ)
  pub caps : FinMap slot_cmp Cap
  -- from a child to its parent
  pub parents : FinMap slot_cmp SlotRef
  pub next : ℕ
  -- the objects that have lost their last capability in a removal under way, as they were found; at other times none
  pub going : List ObjId

-- a machine is stored as the tuple of its parts
abbrev pub machine_code : Coded ObjId → Coded SlotRef → Coded Object → Coded Cap → Coded Machine
machine_code id slot object cap =
    code_by
    (FinMap id_cmp Object
    × (FinMap id_cmp (List ObjId)
    × (FinMap id_cmp (List ℕ)
    × (FinMap slot_cmp Cap × (FinMap slot_cmp SlotRef × (ℕ × List ObjId))))))
    (coded× (map.code id object)
    (coded× (map.code id (coded_list id))
    (coded× (map.code id (coded_list coded_ℕ))
    (coded× (map.code slot cap)
    (coded× (map.code slot slot) (coded× coded_ℕ (coded_list id)))))))
    (λ m. (m.objects, (m.queues, (m.words, (m.caps, (m.parents, (m.next, m.going)))))))
    (λ p.
    record {
      objects = p.0;
      queues = p.1.0;
      words = p.1.1.0;
      caps = p.1.1.1.0;
      parents = p.1.1.1.1.0;
      next = p.1.1.1.1.1.0;
      going = p.1.1.1.1.1.1;
    })
    (λ _. refl)

unfoldable pub empty_machine : Machine
empty_machine =
    record {
      objects = map.empty;
      queues = map.empty;
      words = map.empty;
      caps = map.empty;
      parents = map.empty;
      next = 0;
      going = [];
    }

unfoldable pub object_of : Machine → ObjId → Option Object
object_of m id = map.get m.objects id

-- the threads that wait at an object, if it is present
unfoldable pub queue_of : Machine → ObjId → Option (List ObjId)
queue_of m id = map.get m.queues id

-- the words of an object, if it is present
unfoldable pub words_of : Machine → ObjId → Option (List ℕ)
words_of m id = map.get m.words id

unfoldable pub cap_of : Machine → SlotRef → Option Cap
cap_of m slot = map.get m.caps slot

unfoldable pub parent_of : Machine → SlotRef → Option SlotRef
parent_of m slot = map.get m.parents slot

-- whether the machine has the slot, filled or not
abbrev pub has_slot : Machine → SlotRef → Bool
has_slot m slot = within (object_of m slot.holder) where
  within : Option Object → Bool
  within None = false
  within (Some object) = nat_lt slot.index (slot_count object)

unfoldable pub with_object : Machine → ObjId → Object → Machine
with_object m id object = record m { objects = map.insert m.objects id object }

unfoldable pub with_queue : Machine → ObjId → List ObjId → Machine
with_queue m id threads = record m { queues = map.insert m.queues id threads }

unfoldable pub with_cap : Machine → SlotRef → Cap → Machine
with_cap m slot cap = record m { caps = map.insert m.caps slot cap }

unfoldable pub without_cap : Machine → SlotRef → Machine
without_cap m slot = record m { caps = map.remove m.caps slot }

unfoldable pub with_parent : Machine → SlotRef → SlotRef → Machine
with_parent m slot parent = record m { parents = map.insert m.parents slot parent }

unfoldable pub without_parent : Machine → SlotRef → Machine
without_parent m slot = record m { parents = map.remove m.parents slot }

-- a new object under the next number: nobody waits at it, and its words are zero
unfoldable pub with_new : Machine → Object → Machine
with_new m object =
    let id : ObjId = record { 0 = m.next } in
    record {
      objects = map.insert m.objects id object;
      queues = map.insert m.queues id [];
      words = map.insert m.words id (replicate (word_count object) 0);
      caps = m.caps;
      parents = m.parents;
      next = m.next + 1;
      going = m.going;
    }
