-- The number of capabilities that each entry counts: changes of entries that leave it as it is, and the change of one such number.
use Rattle.std.{specs.{Option.option_or, Prelude.{IsSome, None, Option, Some, option_map}}, proofs.Common.{ℕ, ◌∙◌, ◌≡◌, Bool, ap, cond}}
use Rattle.std.proofs.{Common.{false, refl, subst, sym, true}, lemmas.Bool.false≢true}
use Rattle.base.specs.declared.ids.{ObjId.ObjId, SlotRef.SlotRef}
use Rattle.machine.{specs.Machine.same_id, proofs.{FiniteLemmas.same_from_tie, LookUps.{id_apart, id_total}}}
use Rattle.objects.specs.declared.{entry.Entry.Entry, links.{Ends.Ends, Standing.Standing, TreeLinks.TreeLinks}, slots.Slot.Slot}
use Rattle.objects.specs.Entries.{Entries, caps_in, change_slot_in, entry_of, set_caps_in, set_ends_in, set_standing_in, with_entry}
use Rattle.objects.specs.{Family.{attached, detached, head_of, leaving, leaving_from, links_at, with_links, with_slot}, Links.end_after}
use Rattle.objects.{specs.Links.{pushed, quitted, relinked, standing_of, with_standing}, proofs.EntryLemmas.entry_of-with_entry}

abbrev pub CapsKept : Entries → Entries → Type 0
CapsKept old new = (q : ObjId) → caps_in (entry_of new q) ≡ caps_in (entry_of old q)

pub caps-with_entry :
    (entries : Entries) (id : ObjId) (change : Entry → Entry) → ((e : Entry) → (change e).caps ≡ e.caps)
    → CapsKept entries (with_entry entries id change)
caps-with_entry entries id change keeps q =
    ap caps_in (entry_of-with_entry entries id change q) ∙ by_tie (same_id q id) (entry_of entries q)
  where
    by_tie : (tie : Bool) (o : Option Entry) → caps_in (cond tie (option_map change o) o) ≡ caps_in o
    by_tie false o = refl
    by_tie true None = refl
    by_tie true (Some e) = keeps e

-- slots and the derivation tree

pub caps-with_slot : (entries : Entries) (at : SlotRef) (change : Slot → Slot) → CapsKept entries (with_slot entries at change)
caps-with_slot entries at change q = caps-with_entry entries at.holder (change_slot_in at.index change) (λ e. refl) q

caps-with_links :
    (entries : Entries) (at : Option SlotRef) (change : TreeLinks → TreeLinks) → CapsKept entries (with_links entries at change)
caps-with_links entries None change q = refl
caps-with_links entries (Some at) change q = caps-with_slot entries at (λ slot. record slot { links = change slot.links }) q

pub caps-attached : (entries : Entries) (slot parent : SlotRef) → CapsKept entries (attached entries slot parent)
caps-attached entries slot parent q =
    let head : Option SlotRef = (links_at (entry_of entries) parent).first in
    let before : TreeLinks → TreeLinks = λ l. record l { previous = Some slot } in
    let under : TreeLinks → TreeLinks = λ l. record l { parent = Some parent; next = head; previous = None } in
    let one : Entries = with_links entries head before in
    let two : Entries = with_links one (Some slot) under in
    caps-with_links two (Some parent) (λ l. record l { first = Some slot }) q ∙ caps-with_links one (Some slot) under q
    ∙ caps-with_links entries head before q

caps-leaving : (entries : Entries) (slot : SlotRef) (links : TreeLinks) → CapsKept entries (leaving entries slot links)
caps-leaving entries slot links q =
    let headed : TreeLinks → TreeLinks = λ l. record l { first = links.next } in
    let followed : TreeLinks → TreeLinks = λ l. record l { next = links.next } in
    let led : TreeLinks → TreeLinks = λ l. record l { previous = links.previous } in
    let one : Entries = with_links entries (head_of links links.previous) headed in
    let two : Entries = with_links one links.previous followed in
    let three : Entries = with_links two links.next led in
    caps-with_links three (Some slot) (λ l. record l { parent = None; next = None; previous = None }) q
    ∙ caps-with_links two links.next led q ∙ caps-with_links one links.previous followed q
    ∙ caps-with_links entries (head_of links links.previous) headed q

pub caps-detached : (entries : Entries) (slot : SlotRef) → CapsKept entries (detached entries slot)
caps-detached entries slot q = by_parent (links_at (entry_of entries) slot).parent where
  by_parent :
      (o : Option SlotRef)
      → caps_in (entry_of (leaving_from entries slot (links_at (entry_of entries) slot) o) q) ≡ caps_in (entry_of entries q)
  by_parent None = refl
  by_parent (Some parent) = caps-leaving entries slot (links_at (entry_of entries) slot) q

-- queues

caps-with_standing :
    (entries : Entries) (thread : Option ObjId) (change : Standing → Standing)
    → CapsKept entries (with_standing entries thread change)
caps-with_standing entries None change q = refl
caps-with_standing entries (Some thread) change q =
    caps-with_entry entries thread (set_standing_in (change (standing_of (entry_of entries thread)))) (λ e. refl) q

caps-relinked :
    (entries : Entries) (neighbour : Option ObjId) (change : Standing → Standing) (thread : ObjId) (standing : Standing) (id : ObjId)
    (ends : Ends) → CapsKept entries (relinked entries neighbour change thread standing id ends)
caps-relinked entries neighbour change thread standing id ends q =
    let one : Entries = with_standing entries neighbour change in
    let two : Entries = with_entry one thread (set_standing_in standing) in
    caps-with_entry two id (set_ends_in ends) (λ e. refl) q ∙ caps-with_entry one thread (set_standing_in standing) (λ e. refl) q
    ∙ caps-with_standing entries neighbour change q

pub caps-pushed : (entries : Entries) (id thread : ObjId) (ends : Option Ends) → CapsKept entries (pushed entries id thread ends)
caps-pushed entries id thread None q = refl
caps-pushed entries id thread (Some ends) q =
    caps-relinked entries ends.last (λ s. record s { next = Some thread }) thread
    (record { at = Some id; previous = ends.last; next = None }) id
    (record { first = option_or ends.first (Some thread); last = Some thread }) q

pub caps-quitted : (entries : Entries) (id thread : ObjId) (ends : Option Ends) → CapsKept entries (quitted entries id thread ends)
caps-quitted entries id thread None q = refl
caps-quitted entries id thread (Some ends) q =
    let standing : Standing = standing_of (entry_of entries thread) in
    let one : Entries = with_standing entries standing.previous (λ s. record s { next = standing.next }) in
    caps-relinked one standing.next (λ s. record s { previous = standing.previous }) thread
    (record { at = None; previous = None; next = None }) id
    (record {
      first = end_after standing.previous standing.next ends.first;
      last = end_after standing.next standing.previous ends.last;
    }) q
    ∙ caps-with_standing entries standing.previous (λ s. record s { next = standing.next }) q

-- the number for one present object is set
pub caps-set :
    (entries : Entries) (id : ObjId) (caps : ℕ) → IsSome (entry_of entries id) → (q : ObjId)
    → caps_in (entry_of (with_entry entries id (set_caps_in caps)) q) ≡ cond (same_id q id) caps (caps_in (entry_of entries q))
caps-set entries id caps there q =
    ap caps_in (entry_of-with_entry entries id (set_caps_in caps) q) ∙ by_tie (same_id q id) refl
  where
    set : (o : Option Entry) → IsSome o → caps_in (option_map (set_caps_in caps) o) ≡ caps
    set None some = absurd (false≢true some)
    set (Some e) some = refl

    by_tie :
        (tie : Bool) → same_id q id ≡ tie
        → caps_in (cond tie (option_map (set_caps_in caps) (entry_of entries q)) (entry_of entries q))
        ≡ cond tie caps (caps_in (entry_of entries q))
    by_tie false e = refl
    by_tie true e =
        set (entry_of entries q)
        (subst (λ k. IsSome (entry_of entries k)) (sym (same_from_tie id_total id_apart q id e)) there)
