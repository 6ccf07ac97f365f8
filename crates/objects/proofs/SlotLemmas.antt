-- The slots in entries after the capability or the links of one slot have changed.
use Rattle.std.{specs.Prelude.{IsSome, None, Option, Some, option_map, slice_get}, proofs.Common.{[], ℕ, ◌<◌, ◌∙◌, ◌∷◌, ◌≡◌, ◌≢◌, ◌⊎◌}}
use Rattle.std.proofs.{Common.{List, ap, arith, inl, inr, length, refl, subst, suc, sym, zero}, lemmas.Bool.{cases_eq, false≢true}}
use Rattle.base.specs.declared.ids.{ObjId.ObjId, SlotRef.SlotRef}
use Rattle.objects.specs.{declared.{entry.Entry.Entry, links.TreeLinks.TreeLinks, slots.Slot.Slot}, Entries.{Entries, change_slot_in}}
use Rattle.objects.specs.{Entries.{entry_of, slot_at}, Family.{cap_in, links_at, links_of, with_links, with_slot}}
use Rattle.objects.proofs.{ChangeLemmas.{bulk, part_kept, slot_here, slot_other}, EditLemmas.length_edited, EntryLemmas.entry_of-with_entry}
use Rattle.objects.proofs.{Forests.cases_link, QueueLemmas.cases_id}

pub cases_slot : (a b : SlotRef) → (a ≡ b) ⊎ (a ≢ b)
cases_slot a b =
    elim (cases_id a.holder b.holder) [
      | inl holder ↦ elim (cases_eq a.index b.index) [
        | inl index ↦ inl (λ i. record { holder = holder i; index = index i })
        | inr differs ↦ inr (λ same. differs (ap (λ (s : SlotRef). s.index) same))
      ]
      | inr differs ↦ inr (λ same. differs (ap (λ (s : SlotRef). s.holder) same))
    ]

-- a slot with a link is there
pub linked_there :
    (o : Option Slot) (link : TreeLinks → Option SlotRef) (x : SlotRef)
    → link (record { parent = None; first = None; next = None; previous = None }) ≡ None → link (links_of o) ≡ Some x → IsSome o
linked_there None link x none is = cc
linked_there (Some slot) link x none is = refl

-- a slot with a capability is there
pub filled_there : (o : Option Slot) → IsSome (cap_in o) → IsSome o
filled_there None some = absurd (false≢true some)
filled_there (Some slot) some = refl

-- a slot whose index is below the number of slots is there
pub within_there : (slots : List Slot) (index : ℕ) → index < length slots → IsSome (slice_get slots index)
within_there [] index within = absurd (omega arith)
within_there (slot ∷ slots) zero within = refl
within_there (slot ∷ slots) (suc index) within = within_there slots index (omega arith)

pub there_within : (slots : List Slot) (index : ℕ) → IsSome (slice_get slots index) → index < length slots
there_within [] index some = absurd (false≢true some)
there_within (slot ∷ slots) zero some = omega arith
there_within (slot ∷ slots) (suc index) some = let less = there_within slots index some in omega (arith, less)

-- nothing but slots has changed, and there are as many as before
pub record SlotsAlone (old new : Entries) : Type 0 where
  pub same : (q : ObjId) → option_map bulk (entry_of new q) ≡ option_map bulk (entry_of old q)

pub alone_twice :
    (one two three : Entries) → SlotsAlone one two → SlotsAlone two three
    → SlotsAlone one three
alone_twice one two three first second =
    record { same = λ q. second.same q ∙ first.same q }

-- one slot has changed
pub record ChangesSlot (old new : Entries) (at : SlotRef) (change : Slot → Slot) : Type 0 where
  pub here : slot_at (entry_of new) at ≡ option_map change (slot_at (entry_of old) at)
  pub other : (q : SlotRef) → q ≢ at → slot_at (entry_of new) q ≡ slot_at (entry_of old) q
  pub alone : SlotsAlone old new

pub changes_slot :
    (entries : Entries) (at : SlotRef) (change : Slot → Slot)
    → ChangesSlot entries (with_slot entries at change) at change
changes_slot entries at change =
    let edit : Entry → Entry = change_slot_in at.index change in
    let changed = entry_of-with_entry entries at.holder edit in
    record {
      here = slot_here _ _ at change changed;
      other = slot_other _ _ at change changed;
      alone = record {
        same = part_kept _ _ at.holder edit changed bulk
            (λ e. λ i. (e.object, length_edited change e.slots at.index i, e.ends, e.standing, e.words));
      };
    }

-- the links of one slot, if one is named, have changed
pub record SetsLinks (old new : Entries) (at : Option SlotRef) (change : TreeLinks → TreeLinks) : Type 0 where
  pub here : (q : SlotRef) → at ≡ Some q → links_at (entry_of new) q ≡ change (links_at (entry_of old) q)
  pub other : (q : SlotRef) → at ≢ Some q → links_at (entry_of new) q ≡ links_at (entry_of old) q
  pub caps : (q : SlotRef) → cap_in (slot_at (entry_of new) q) ≡ cap_in (slot_at (entry_of old) q)
  pub there : (q : SlotRef) → IsSome (slot_at (entry_of old) q) → IsSome (slot_at (entry_of new) q)
  pub alone : SlotsAlone old new

mapped_there : (change : Slot → Slot) (o : Option Slot) → IsSome o → IsSome (option_map change o)
mapped_there change None some = some
mapped_there change (Some slot) some = refl

abbrev relinked : (TreeLinks → TreeLinks) → Slot → Slot
relinked change slot = record slot { links = change slot.links }

mapped_links :
    (change : TreeLinks → TreeLinks) (o : Option Slot) → IsSome o
    → links_of (option_map (relinked change) o) ≡ change (links_of o)
mapped_links change None some = absurd (false≢true some)
mapped_links change (Some slot) some = refl

mapped_cap :
    (change : TreeLinks → TreeLinks) (o : Option Slot)
    → cap_in (option_map (relinked change) o) ≡ cap_in o
mapped_cap change None = refl
mapped_cap change (Some slot) = refl

pub sets_links :
    (entries : Entries) (at : Option SlotRef) (change : TreeLinks → TreeLinks)
    → ((q : SlotRef) → at ≡ Some q → IsSome (slot_at (entry_of entries) q))
    → SetsLinks entries (with_links entries at change) at change
sets_links entries None change there =
    record {
      here = λ q is. cc;
      other = λ q differs. refl;
      caps = λ q. refl;
      there = λ q some. some;
      alone = record { same = λ q. refl };
    }
sets_links entries (Some at) change there =
    let edit : Slot → Slot = relinked change in
    let changes = changes_slot entries at edit in
    record {
      here = λ q is.
          let one : at ≡ q = cc in
          ap (λ k. links_at (entry_of (with_slot entries at edit)) k) (sym one)
          ∙ ap links_of changes.here ∙ mapped_links change (slot_at (entry_of entries) at) (there at refl)
          ∙ ap (λ k. change (links_at (entry_of entries) k)) one;
      other = λ q differs. ap links_of (changes.other q (λ same. differs (ap Some (sym same))));
      caps = λ q. elim (cases_slot q at) [
        | inl same ↦
            subst (λ k. cap_in (slot_at (entry_of (with_slot entries at edit)) k) ≡ cap_in (slot_at (entry_of entries) k))
            (sym same) (ap cap_in changes.here ∙ mapped_cap change (slot_at (entry_of entries) at))
        | inr differs ↦ ap cap_in (changes.other q differs)
      ];
      there = λ q some. elim (cases_slot q at) [
        | inl same ↦
            subst (λ k. IsSome (slot_at (entry_of (with_slot entries at edit)) k)) (sym same)
            (subst IsSome (sym changes.here)
            (mapped_there edit (slot_at (entry_of entries) at) (there at refl)))
        | inr differs ↦ subst IsSome (sym (changes.other q differs)) some
      ];
      alone = changes.alone;
    }

-- a link that a change keeps
pub link_kept :
    (old new : Entries) (at : Option SlotRef) (change : TreeLinks → TreeLinks)
    → SetsLinks old new at change → (link : TreeLinks → Option SlotRef) → ((l : TreeLinks) → link (change l) ≡ link l)
    → (q : SlotRef) → link (links_at (entry_of new) q) ≡ link (links_at (entry_of old) q)
link_kept old new at change sets link keeps q =
    elim (cases_link cases_slot at q) [
      | inl is ↦ ap link (sets.here q is) ∙ keeps (links_at (entry_of old) q)
      | inr differs ↦ ap link (sets.other q differs)
    ]
