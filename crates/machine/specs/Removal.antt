-- Removal of capabilities: those that go with them, the objects that lose their last capability, the objects that stay, and the
-- derivation tree (seL4 manual, "Deletion, Revocation, and Recycling").
use Rattle.std.specs.{FinMap.{keys, values}, Prelude.{[], ℕ, Bool, List, None, Option, filter, if◌then◌else◌, option_map}}
use Rattle.base.specs.declared.ids.{ObjId.ObjId, SlotRef.SlotRef}
use Rattle.machine.specs.{declared.{cap.Cap.Cap, object.Object.Object}, Finalising.{finalised, staying_in}, Finite.tabulate, Gone.gone_of}
use Rattle.machine.specs.{Gone.loses_all, Machine.{Machine, cap_of, object_of, parent_of, queue_of, words_of}, Orphans.without_nodes}

-- each look-up after some slots go and some objects vanish

abbrev pub object_after : Machine → (ObjId → Bool) → ObjId → Option Object
object_after m vanished id = if vanished id then None else option_map (finalised m vanished) (object_of m id)

abbrev pub queue_after : Machine → (ObjId → Bool) → ObjId → Option (List ObjId)
queue_after m vanished id = if vanished id then None else option_map (staying_in m vanished) (queue_of m id)

abbrev pub words_after : Machine → (ObjId → Bool) → ObjId → Option (List ℕ)
words_after m vanished id = if vanished id then None else words_of m id

abbrev pub cap_after : Machine → (SlotRef → Bool) → SlotRef → Option Cap
cap_after m gone slot = if gone slot then None else cap_of m slot

-- the parents that go leave the tree
abbrev pub parent_after : Machine → (SlotRef → Bool) → SlotRef → Option SlotRef
parent_after m gone slot = if gone slot then None else without_nodes (parent_of m) (filter gone (values m.parents)) slot

unfoldable pub without_slots : Machine → (SlotRef → Bool) → (ObjId → Bool) → Machine
without_slots m gone vanished =
    record {
      objects = tabulate (object_after m vanished) (keys m.objects);
      queues = tabulate (queue_after m vanished) (keys m.queues);
      words = tabulate (words_after m vanished) (keys m.words);
      caps = tabulate (cap_after m gone) (keys m.caps);
      parents = tabulate (parent_after m gone) (keys m.parents);
      next = m.next;
      going = [];
    }

abbrev pub vanishes : Machine → (SlotRef → Bool) → ObjId → Bool
vanishes m chosen = loses_all m (gone_of m chosen)

unfoldable pub removed : Machine → (SlotRef → Bool) → Machine
removed m chosen = without_slots m (gone_of m chosen) (vanishes m chosen)
