-- Objects made at once: all are added, then each slot gets its capability, then the untyped memory its watermark.
use Rattle.std.specs.{List.fold, Prelude.{[], ℕ, ◌+◌, ◌∷◌, List, length, suc, zero}}
use Rattle.base.specs.declared.ids.SlotRef.{SlotRef}
use Rattle.machine.specs.{declared.object.{MemoryKind.MemoryKind, Object.{Object, Object as o}, Untyped.Untyped}, Machine.Machine}
use Rattle.machine.specs.{Machine.{with_cap, with_new, with_object, with_parent}, Memory.{Source, all_taken, new_cap, new_object, new_size}}
use Rattle.machine.specs.Memory.{placed, taken}

-- `count` new objects of a kind, one after another in the memory
abbrev pub new_objects : ℕ → MemoryKind → ℕ → Untyped → List Object
new_objects zero kind bits memory = []
new_objects (suc count) kind bits memory =
    new_object kind bits (placed (new_size kind bits) memory) ∷ new_objects count kind bits (taken (new_size kind bits) memory)

-- each slot holds the capability of the object with the next number, as a child of the parent
abbrev pub with_caps : Machine → ℕ → MemoryKind → List SlotRef → SlotRef → Machine
with_caps m number kind [] parent = m
with_caps m number kind (slot ∷ slots) parent =
    with_caps (with_parent (with_cap m slot (new_cap number kind)) slot parent) (number + 1) kind slots parent

abbrev pub with_batch : Machine → Source → MemoryKind → ℕ → List SlotRef → Machine
with_batch m source kind bits slots =
    with_object
    (with_caps (fold with_new m (new_objects (length slots) kind bits source.memory)) m.next kind slots source.slot)
    source.id (o.Untyped (all_taken (length slots) (new_size kind bits) source.memory))
