-- Entries of objects, what they say, and the entries after a change to one.
use Rattle.std.specs.{FinMap.FinMap, Prelude.{[], ℕ, ◌+◌, ◌∷◌, List, None, Option, Some, option_and_then, option_map}}
use Rattle.{std.specs.Prelude.{replicate, slice_get, slice_set}, base.specs.declared.ids.{ObjId.ObjId, SlotRef.SlotRef}}
use Rattle.machine.specs.{declared.object.Object.Object, Finite.put_some, Machine.id_cmp, Objects.{slot_count, word_count}}
use Rattle.objects.specs.{declared.{entry.Entry.Entry, links.{Ends.Ends, Standing.Standing}, slots.Slot.Slot}, Edits.edited}
use Rattle.std.specs.FinMap as map

-- the entries of the objects, by number
abbrev pub Entries : Type 0
Entries = FinMap id_cmp Entry

abbrev pub entry_of : Entries → ObjId → Option Entry
entry_of entries id = map.get entries id

-- the entries after a change to that of one object, if it is present
abbrev pub with_entry : Entries → ObjId → (Entry → Entry) → Entries
with_entry entries id change = put_some entries id (option_map change (entry_of entries id))

-- the changes to an entry

abbrev pub change_slot_in : ℕ → (Slot → Slot) → Entry → Entry
change_slot_in index change entry = record entry { slots = edited change entry.slots index }

abbrev pub replace_in : Object → Entry → Entry
replace_in object entry = record entry { object = object }

abbrev pub set_ends_in : Ends → Entry → Entry
set_ends_in ends entry = record entry { ends = ends }

abbrev pub set_standing_in : Standing → Entry → Entry
set_standing_in standing entry = record entry { standing = standing }

abbrev pub set_word_in : ℕ → ℕ → Entry → Entry
set_word_in index word entry = record entry { words = slice_set entry.words index word }

abbrev pub set_caps_in : ℕ → Entry → Entry
set_caps_in caps entry = record entry { caps = caps }

-- a slot that holds nothing and is in no pair of the derivation tree
abbrev pub empty_slot : Slot
empty_slot = record { cap = None; links = record { parent = None; first = None; next = None; previous = None } }

-- the entry of a new object: its slots are empty, nobody waits at it, its words are zero, and it has no capabilities
abbrev pub new_entry : Object → Entry
new_entry object =
    record {
      object = object;
      slots = replicate (slot_count object) empty_slot;
      ends = record { first = None; last = None };
      standing = record { at = None; previous = None; next = None };
      words = replicate (word_count object) 0;
      caps = 0;
    }

-- the entries with more, under successive numbers
abbrev pub with_more : Entries → ℕ → List Entry → Entries
with_more entries number [] = entries
with_more entries number (entry ∷ more) = with_more (map.insert entries (record { 0 = number }) entry) (number + 1) more

-- the number of capabilities for an object by its entry; 0 if the entry is absent
abbrev pub caps_in : Option Entry → ℕ
caps_in None = 0
caps_in (Some entry) = entry.caps

abbrev pub slot_at : (ObjId → Option Entry) → SlotRef → Option Slot
slot_at entry at = option_and_then (λ e. slice_get e.slots at.index) (entry at.holder)
