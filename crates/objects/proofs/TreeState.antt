-- Changes of slots and of the derivation tree keep a state consistent: a slot is filled or emptied, comes under a parent or leaves its own.
use Rattle.std.specs.FinMap as map
use Rattle.std.specs.Prelude.{IfNone, IfSome, IsSome, IsTrue, None, Option, Some, option_and_then, option_map, slice_get}
use Rattle.std.proofs.Common.{◌<◌, ◌∙◌, ◌≡◌, ◌≢◌, ap, arith, cond, inl, inr, length, refl, subst, sym}
use Rattle.{std.proofs.lemmas.{Bool.{false≢true, lt-ltb}, Option.same_Some}, base.specs.declared.ids.{ObjId.ObjId, SlotRef.SlotRef}}
use Rattle.machine.specs.{declared.cap.Cap.Cap, Machine.{Machine, cap_of, has_slot, object_of, parent_of}}
use Rattle.machine.specs.Machine.{queue_of, same_slot, with_cap, with_parent, without_cap, without_parent, words_of}
use Rattle.machine.{specs.{Objects.slot_count, Tree.IsRanked, WellFormed.Descends}, proofs.FiniteLemmas.{by_key, cond_here}}
use Rattle.machine.proofs.LookUps.{cap_of-with_cap, cap_of-with_parent, parent_of-with_parent, same_machine, slot_apart, slot_total}
use Rattle.machine.proofs.{SlotChanges.SameObjects, TreeRanks.ranked_acyclic}
use Rattle.objects.specs.{declared.{entry.Entry.Entry, slots.Slot.Slot, state.State.TheInside.Inside}, Entries.{Entries, entry_of, slot_at}}
use Rattle.objects.specs.Family.{AreKin, attached, by_links, cap_in, detached, leaving, leaving_from, links_at, links_of, parent_in}
use Rattle.objects.specs.{Family.with_slot, Radices.HasRadix, State.{IsConsistent, IsSized, machine_of}}
use Rattle.objects.proofs.{ChangeLemmas.{bulk, links_kept, part_read, tells-slots}, ConsistentLemmas.found_slot}
use Rattle.objects.proofs.Families.{attached_alone, attached_caps, attached_kin, child_there, detached_alone}
use Rattle.objects.proofs.{Families.{detached_caps, detached_kin, joins, leaves, parent_there, same_kin}, Forests.childless}
use Rattle.objects.proofs.SlotLemmas.{ChangesSlot, SlotsAlone, cases_slot, changes_slot, filled_there, there_within, within_there}
use Rattle.objects.proofs.StateLemmas.{going-machine_of, next-machine_of, object_at, present_kept, same_from_tells, tells-machine_of}

abbrev with_entries : Inside → Entries → Inside
with_entries s entries = record s { store = entries }

-- a change of slots alone
IsConsistent-slots :
    (s : Inside) → IsConsistent s → (entries : Entries) → SlotsAlone s.store entries
    → AreKin (entry_of entries) → IsConsistent (with_entries s entries)
IsConsistent-slots s consistent entries alone kin =
    record {
      fresh = λ q some. consistent.fresh q (present_kept bulk _ _ (sym (alone.same q)) some);
      bounded = consistent.bounded;
      sized = λ q entry is. by_entry q entry is (entry_of s.store q) refl;
      queued =
          links_kept _ _
          (λ q. part_read bulk (λ b. (b.2, b.3)) (entry_of s.store q) (entry_of entries q) (alone.same q))
          s.next consistent.queued;
      kin = kin;
    }
  where
    by_entry :
        (q : ObjId) (entry : Entry) → entry_of entries q ≡ Some entry → (o : Option Entry)
        → entry_of s.store q ≡ o → IsSized entry
    by_entry q entry is None was =
        let none : Some (bulk entry) ≡ None =
        ap (option_map bulk) (sym is) ∙ alone.same q ∙ ap (option_map bulk) was in cc
    by_entry q entry is (Some e) was =
        let same : bulk e ≡ bulk entry =
        same_Some (bulk e) (bulk entry) (ap (option_map bulk) (sym was) ∙ sym (alone.same q) ∙ ap (option_map bulk) is) in
        subst (λ b. (b.1 ≡ slot_count b.0) × HasRadix b.0) same (consistent.sized q e was)

slots_give :
    (s : Inside) (entries : Entries) (next : Machine) → SlotsAlone s.store entries
    → SameObjects (machine_of s) next → ((q : SlotRef) → cap_of next q ≡ cap_in (slot_at (entry_of entries) q))
    → ((q : SlotRef) → parent_of next q ≡ parent_in (slot_at (entry_of entries) q))
    → machine_of (with_entries s entries) ≡ next
slots_give s entries next alone objects caps parents =
    let s' : Inside = with_entries s entries in
    same_from_tells _ _ _ (entry_of entries) (tells-machine_of s')
    (tells-slots s.next (machine_of s) (entry_of s.store) (entry_of entries) (tells-machine_of s) next objects
    alone.same caps parents)
    (next-machine_of s' ∙ sym (objects.number ∙ next-machine_of s))
    (going-machine_of s' ∙ sym (objects.going ∙ going-machine_of s))

parent_linked : (o : Option Slot) → parent_in o ≡ (links_of o).parent
parent_linked None = refl
parent_linked (Some slot) = refl

module _ (s : Inside) (consistent : IsConsistent s) where
  abbrev entry : ObjId → Option Entry
  entry = entry_of s.store

  cap_is : (q : SlotRef) → cap_of (machine_of s) q ≡ cap_in (slot_at entry q)
  cap_is = (tells-machine_of s).caps

  pub parent_is : (q : SlotRef) → parent_of (machine_of s) q ≡ (links_at entry q).parent
  parent_is q = (tells-machine_of s).parents q ∙ parent_linked (slot_at entry q)

  -- the machine has the slots that entries have

  slot_there : (slot : SlotRef) → IsTrue (has_slot (machine_of s) slot) → IsSome (slot_at entry slot)
  slot_there slot has =
      let found = found_slot s consistent slot has in
      subst (λ o. IsSome (option_and_then (λ e. slice_get e.slots slot.index) o)) (sym found.1)
      (within_there (found.0).slots slot.index found.2)

  there_slot : (slot : SlotRef) → IsSome (slot_at entry slot) → IsTrue (has_slot (machine_of s) slot)
  there_slot slot some = by_entry (entry slot.holder) refl some where
    by_entry :
        (o : Option Entry) → entry slot.holder ≡ o → IsSome (option_and_then (λ e. slice_get e.slots slot.index) o)
        → IsTrue (has_slot (machine_of s) slot)
    by_entry None is some = absurd (false≢true some)
    by_entry (Some e) is some =
        let within : slot.index < length e.slots = there_within e.slots slot.index some in
        let sized : length e.slots ≡ slot_count e.object = (consistent.sized slot.holder e is).0 in
        rw ((tells-machine_of s).objects slot.holder ∙ ap object_at is) (lt-ltb slot.index (slot_count e.object) (omega arith))

  pub filled_slots : (slot : SlotRef) (held : Cap) → cap_of (machine_of s) slot ≡ Some held → IsTrue (has_slot (machine_of s) slot)
  filled_slots slot held filled =
      there_slot slot (filled_there (slot_at entry slot) (subst IsSome (cap_is slot) (rw filled refl)))

  -- a capability is put into a slot or taken out

  module _ (at : SlotRef) (filling : Option Cap) where
    abbrev set : Slot → Slot
    set slot = record slot { cap = filling }

    abbrev entries : Entries
    entries = with_slot s.store at set

    changes : ChangesSlot s.store entries at set
    changes = changes_slot s.store at set

    set_links : (o : Option Slot) → links_of (option_map set o) ≡ links_of o
    set_links None = refl
    set_links (Some slot) = refl

    kept_links : (q : SlotRef) → links_at (entry_of entries) q ≡ links_at entry q
    kept_links q =
        elim (cases_slot q at) [
          | inl same ↦
              subst (λ k. links_at (entry_of entries) k ≡ links_at entry k) (sym same)
              (ap links_of changes.here ∙ set_links (slot_at entry at))
          | inr apart ↦ ap links_of (changes.other q apart)
        ]

    kept_parents : (q : SlotRef) → parent_in (slot_at (entry_of entries) q) ≡ parent_in (slot_at entry q)
    kept_parents q =
        parent_linked (slot_at (entry_of entries) q) ∙ ap (λ l. l.parent) (kept_links q) ∙ sym (parent_linked (slot_at entry q))

    set_cap : (o : Option Slot) → IsSome o → cap_in (option_map set o) ≡ filling
    set_cap None some = absurd (false≢true some)
    set_cap (Some slot) some = refl

    set_gives :
        (next : Machine) → SameObjects (machine_of s) next
        → ((q : SlotRef) → cap_of next q ≡ cap_in (slot_at (entry_of entries) q))
        → ((q : SlotRef) → parent_of next q ≡ parent_of (machine_of s) q) → machine_of (with_entries s entries) ≡ next
    set_gives next objects caps parents =
        slots_give s entries next changes.alone objects caps
        (λ q. parents q ∙ (tells-machine_of s).parents q ∙ sym (kept_parents q))

    pub IsConsistent-cap_set : IsConsistent (with_entries s entries)
    IsConsistent-cap_set =
        IsConsistent-slots s consistent entries changes.alone (same_kin _ _ kept_links consistent.kin)

  put_same : (slot : SlotRef) (held : Cap) → SameObjects (machine_of s) (with_cap (machine_of s) slot held)
  unfolding object_of queue_of words_of with_cap
  put_same slot held = record { objects = λ q. refl; queues = λ q. refl; words = λ q. refl; number = refl; going = refl }

  put_parents : (slot : SlotRef) (held : Cap) (q : SlotRef) → parent_of (with_cap (machine_of s) slot held) q ≡ parent_of (machine_of s) q
  unfolding parent_of with_cap
  put_parents slot held q = refl

  pub put_cap_gives :
      (slot : SlotRef) (held : Cap) → IsTrue (has_slot (machine_of s) slot)
      → machine_of (with_entries s (with_slot s.store slot (λ old. record old { cap = Some held })))
      ≡ with_cap (machine_of s) slot held
  put_cap_gives slot held has =
      set_gives slot (Some held) (with_cap (machine_of s) slot held) (put_same slot held)
      (λ q.
      cap_of-with_cap (machine_of s) slot held q
      ∙ sym
      (by_key slot_total slot_apart q slot _ _ _
      (λ same.
      ap (λ k. cap_in (slot_at (entry_of (entries slot (Some held))) k)) same
      ∙ ap cap_in (changes slot (Some held)).here ∙ set_cap slot (Some held) (slot_at entry slot) (slot_there slot has))
      (λ apart. ap cap_in ((changes slot (Some held)).other q apart) ∙ sym (cap_is q))))
      (put_parents slot held)

  take_same : (slot : SlotRef) → SameObjects (machine_of s) (without_cap (machine_of s) slot)
  unfolding object_of queue_of words_of without_cap
  take_same slot = record { objects = λ q. refl; queues = λ q. refl; words = λ q. refl; number = refl; going = refl }

  take_parents : (slot q : SlotRef) → parent_of (without_cap (machine_of s) slot) q ≡ parent_of (machine_of s) q
  unfolding parent_of without_cap
  take_parents slot q = refl

  take_caps : (slot q : SlotRef) → cap_of (without_cap (machine_of s) slot) q ≡ cond (same_slot q slot) None (cap_of (machine_of s) q)
  unfolding cap_of without_cap
  take_caps slot q = map.get-remove slot_total (machine_of s).caps slot q

  pub take_cap_gives :
      (slot : SlotRef)
      → machine_of (with_entries s (with_slot s.store slot (λ old. record old { cap = None })))
      ≡ without_cap (machine_of s) slot
  take_cap_gives slot =
      set_gives slot None (without_cap (machine_of s) slot) (take_same slot)
      (λ q.
      take_caps slot q
      ∙ sym
      (by_key slot_total slot_apart q slot _ _ _
      (λ same.
      ap (λ k. cap_in (slot_at (entry_of (entries slot None)) k)) same ∙ ap cap_in (changes slot None).here
      ∙ emptied (slot_at entry slot))
      (λ apart. ap cap_in ((changes slot None).other q apart) ∙ sym (cap_is q))))
      (take_parents slot)
    where
      emptied : (o : Option Slot) → cap_in (option_map (set slot None) o) ≡ None
      emptied None = refl
      emptied (Some slot) = refl

  -- what the tree keeps

  pub pair_below : (c p : SlotRef) → parent_of (machine_of s) c ≡ Some p → IsTrue (has_slot (machine_of s) c)
  pair_below c p is = there_slot c (child_there entry c p (sym (parent_is c) ∙ is))

  pub pair_above : (c p : SlotRef) → parent_of (machine_of s) c ≡ Some p → IsTrue (has_slot (machine_of s) p)
  pair_above c p is = there_slot p (parent_there entry consistent.kin c p (sym (parent_is c) ∙ is))

  pub is_ranked : IsRanked (machine_of s)
  is_ranked = (consistent.kin.depth, λ c p is. consistent.kin.deeper c p (sym (parent_is c) ∙ is))

  pub is_acyclic : (slot : SlotRef) → ¬ (Descends (machine_of s) slot slot)
  is_acyclic = ranked_acyclic (machine_of s) is_ranked

  pub child_found :
      (slot : SlotRef) → IfSome (links_at entry slot).first (λ child. parent_of (machine_of s) child ≡ Some slot)
  child_found slot = by_first (links_at entry slot).first refl where
    by_first :
        (o : Option SlotRef) → (links_at entry slot).first ≡ o → IfSome o (λ child. parent_of (machine_of s) child ≡ Some slot)
    by_first None is = tt
    by_first (Some child) is = parent_is child ∙ (consistent.kin.headed slot child is).0

  pub child_missing :
      (slot : SlotRef) → IfNone (links_at entry slot).first ((child : SlotRef) → parent_of (machine_of s) child ≢ Some slot)
  child_missing slot = by_first (links_at entry slot).first refl where
    by_first :
        (o : Option SlotRef) → (links_at entry slot).first ≡ o
        → IfNone o ((child : SlotRef) → parent_of (machine_of s) child ≢ Some slot)
    by_first None is =
        λ child above. childless (by_links (links_at entry)) consistent.kin slot is child (sym (parent_is child) ∙ above)
    by_first (Some child) is = tt

  -- a slot comes under a parent

  module _ (slot parent : SlotRef) (below : IsTrue (has_slot (machine_of s) slot)) (above : IsTrue (has_slot (machine_of s) parent))
      (root : parent_of (machine_of s) slot ≡ None) (ranked : IsRanked (with_parent (machine_of s) slot parent)) where
    low : IsSome (slot_at entry slot)
    low = slot_there slot below

    high : IsSome (slot_at entry parent)
    high = slot_there parent above

    rootless : (links_at entry slot).parent ≡ None
    rootless = sym (parent_is slot) ∙ root

    differs : slot ≢ parent
    differs same =
        let here : parent_of (with_parent (machine_of s) slot parent) slot ≡ Some parent =
        parent_of-with_parent (machine_of s) slot parent slot ∙ cond_here slot_total slot_apart slot _ _ in
        let less : ranked.0 parent < ranked.0 slot = ranked.1 slot parent here in
        let equal : ranked.0 slot ≡ ranked.0 parent = ap ranked.0 same in omega arith

    abbrev under : Entries
    under = attached s.store slot parent

    attach_links : (q : SlotRef) → parent_of (with_parent (machine_of s) slot parent) q ≡ (links_at (entry_of under) q).parent
    attach_links q =
        parent_of-with_parent (machine_of s) slot parent q
        ∙ sym
        (let joined = joins s.store consistent.kin slot parent low high rootless differs in
        by_key slot_total slot_apart q slot _ _ _ (λ same. ap (λ k. (links_at (entry_of under) k).parent) same ∙ joined.parent_here)
        (λ apart. joined.parent_other q apart ∙ sym (parent_is q)))

    pub IsConsistent-attached : IsConsistent (with_entries s under)
    IsConsistent-attached =
        IsConsistent-slots s consistent under
        (attached_alone s.store consistent.kin slot parent low high rootless differs)
        (attached_kin s.store consistent.kin slot parent low high rootless differs ranked.0
        (λ c p is. ranked.1 c p (attach_links c ∙ is)))

    attach_same : SameObjects (machine_of s) (with_parent (machine_of s) slot parent)
    unfolding object_of queue_of words_of with_parent
    attach_same = record { objects = λ q. refl; queues = λ q. refl; words = λ q. refl; number = refl; going = refl }

    pub attach_gives : machine_of (with_entries s under) ≡ with_parent (machine_of s) slot parent
    attach_gives =
        slots_give s under (with_parent (machine_of s) slot parent)
        (attached_alone s.store consistent.kin slot parent low high rootless differs) attach_same
        (λ q.
        cap_of-with_parent (machine_of s) slot parent q ∙ cap_is q
        ∙ sym (attached_caps s.store consistent.kin slot parent low high rootless differs q))
        (λ q. attach_links q ∙ sym (parent_linked (slot_at (entry_of under) q)))

  -- a slot leaves its parent

  module _ (slot : SlotRef) where
    abbrev away : Entries
    away = leaving s.store slot (links_at entry slot)

    detach_same : SameObjects (machine_of s) (without_parent (machine_of s) slot)
    unfolding object_of queue_of words_of without_parent
    detach_same = record { objects = λ q. refl; queues = λ q. refl; words = λ q. refl; number = refl; going = refl }

    detach_caps : (q : SlotRef) → cap_of (without_parent (machine_of s) slot) q ≡ cap_of (machine_of s) q
    unfolding cap_of without_parent
    detach_caps q = refl

    detach_parents :
        (q : SlotRef) → parent_of (without_parent (machine_of s) slot) q ≡ cond (same_slot q slot) None (parent_of (machine_of s) q)
    unfolding parent_of without_parent
    detach_parents q = map.get-remove slot_total (machine_of s).parents slot q

    module _ (parent : SlotRef) (above : parent_of (machine_of s) slot ≡ Some parent) where
      linked : (links_at entry slot).parent ≡ Some parent
      linked = sym (parent_is slot) ∙ above

      gone : (q : SlotRef) → (links_at (entry_of away) q).parent ≡ cond (same_slot q slot) None (links_at entry q).parent
      gone q =
          let left = leaves s.store consistent.kin slot parent linked in
          by_key slot_total slot_apart q slot _ _ _ (λ same. ap (λ k. (links_at (entry_of away) k).parent) same ∙ left.parent_here)
          (λ apart. left.parent_other q apart)

      child_consistent : IsConsistent (with_entries s away)
      child_consistent =
          IsConsistent-slots s consistent away (detached_alone s.store consistent.kin slot parent linked)
          (detached_kin s.store consistent.kin slot parent linked)

      child_gives : machine_of (with_entries s away) ≡ without_parent (machine_of s) slot
      child_gives =
          slots_give s away (without_parent (machine_of s) slot)
          (detached_alone s.store consistent.kin slot parent linked) detach_same
          (λ q.
          detach_caps q ∙ cap_is q
          ∙ sym (detached_caps s.store consistent.kin slot parent linked q))
          (λ q.
          detach_parents q ∙ ap (cond (same_slot q slot) None) (parent_is q) ∙ sym (gone q)
          ∙ sym (parent_linked (slot_at (entry_of away) q)))

    pub IsConsistent-detached : IsConsistent (with_entries s (detached s.store slot))
    IsConsistent-detached = by_parent (links_at entry slot).parent refl where
      by_parent :
          (o : Option SlotRef) → (links_at entry slot).parent ≡ o
          → IsConsistent (with_entries s (leaving_from s.store slot (links_at entry slot) o))
      by_parent None is = consistent
      by_parent (Some parent) is = child_consistent parent (parent_is slot ∙ is)

    pub detach_gives : machine_of (with_entries s (detached s.store slot)) ≡ without_parent (machine_of s) slot
    detach_gives = by_parent (links_at entry slot).parent refl where
      by_parent :
          (o : Option SlotRef) → (links_at entry slot).parent ≡ o
          → machine_of (with_entries s (leaving_from s.store slot (links_at entry slot) o))
          ≡ without_parent (machine_of s) slot
      by_parent None is =
          same_machine (machine_of s) (without_parent (machine_of s) slot) (λ q. sym (detach_same.objects q))
          (λ q. sym (detach_same.queues q)) (λ q. sym (detach_same.words q)) (λ q. sym (detach_caps q))
          (λ q.
          by_key slot_total slot_apart q slot _ _ _ (λ same. ap (parent_of (machine_of s)) same ∙ parent_is slot ∙ is) (λ apart. refl)
          ∙ sym (detach_parents q))
          (sym detach_same.number) (sym detach_same.going)
      by_parent (Some parent) is = child_gives parent (parent_is slot ∙ is)
