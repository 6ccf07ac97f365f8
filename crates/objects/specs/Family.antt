-- The derivation tree in the slots of entries: when the slots' links are those of a forest, and the entries after a slot has come under a
-- parent or has left its own (confine's own).
use Rattle.std.specs.Prelude.{None, Option, Some, option_and_then}
use Rattle.{base.specs.declared.ids.{ObjId.ObjId, SlotRef.SlotRef}, machine.specs.declared.cap.Cap.Cap}
use Rattle.objects.specs.declared.{entry.Entry.Entry, links.TreeLinks.TreeLinks, slots.Slot.Slot}
use Rattle.objects.specs.{Entries.{Entries, change_slot_in, entry_of, slot_at, with_entry}, Forest.{IsForest, Links}}

abbrev pub cap_in : Option Slot → Option Cap
cap_in slot = option_and_then (λ s. s.cap) slot

abbrev pub parent_in : Option Slot → Option SlotRef
parent_in slot = option_and_then (λ s. s.links.parent) slot

-- the links of a slot; one that is absent has none
abbrev pub links_of : Option Slot → TreeLinks
links_of None = record { parent = None; first = None; next = None; previous = None }
links_of (Some slot) = slot.links

abbrev pub links_at : (ObjId → Option Entry) → SlotRef → TreeLinks
links_at entry at = links_of (slot_at entry at)

abbrev pub by_links : (SlotRef → TreeLinks) → Links SlotRef
by_links links =
    record {
      parent = λ q. (links q).parent;
      first = λ q. (links q).first;
      next = λ q. (links q).next;
      previous = λ q. (links q).previous;
    }

-- the links that slots have are those of a forest
abbrev pub AreKin : (ObjId → Option Entry) → Type 0
AreKin entry = IsForest (by_links (links_at entry))

-- the entries with a slot changed, if it is there
abbrev pub with_slot : Entries → SlotRef → (Slot → Slot) → Entries
with_slot entries at change = with_entry entries at.holder (change_slot_in at.index change)

-- the entries with the links of a slot changed, if one is named
abbrev pub with_links : Entries → Option SlotRef → (TreeLinks → TreeLinks) → Entries
with_links entries None change = entries
with_links entries (Some at) change = with_slot entries at (λ slot. record slot { links = change slot.links })

-- a slot comes under a parent that has this first child, before that
abbrev pub before_head : Entries → SlotRef → SlotRef → Option SlotRef → Entries
before_head entries slot parent head =
    with_links
    (with_links (with_links entries head (λ l. record l { previous = Some slot })) (Some slot)
    (λ l. record l { parent = Some parent; next = head; previous = None }))
    (Some parent) (λ l. record l { first = Some slot })

abbrev pub attached : Entries → SlotRef → SlotRef → Entries
attached entries slot parent =
    before_head entries slot parent (links_at (entry_of entries) parent).first

-- the slot whose first child has these links
abbrev pub head_of : TreeLinks → Option SlotRef → Option SlotRef
head_of links None = links.parent
head_of links (Some previous) = None

-- a slot that has these links leaves its parent: the siblings before and after it are neighbours
abbrev pub leaving : Entries → SlotRef → TreeLinks → Entries
leaving entries slot links =
    with_links
    (with_links
    (with_links
    (with_links entries (head_of links links.previous) (λ l. record l { first = links.next }))
    links.previous (λ l. record l { next = links.next }))
    links.next (λ l. record l { previous = links.previous }))
    (Some slot) (λ l. record l { parent = None; next = None; previous = None })

-- a root has no parent to leave
abbrev pub leaving_from : Entries → SlotRef → TreeLinks → Option SlotRef → Entries
leaving_from entries slot links None = entries
leaving_from entries slot links (Some parent) = leaving entries slot links

abbrev pub detached : Entries → SlotRef → Entries
detached entries slot =
    let links : TreeLinks = links_at (entry_of entries) slot in leaving_from entries slot links links.parent
