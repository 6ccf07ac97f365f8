-- The rest after a removal: objects alike, capabilities as they were, and the ways up the derivation tree.
use Rattle.std.{specs.Prelude.{ℕ, None, Option, Some, option_map}, proofs.Common.{◌<◌, ◌∙◌, ◌≡◌, ◌⊎◌, Bool, ap, arith, cond, false, inl}}
use Rattle.std.proofs.{Common.{inr, refl, subst, sym, true}, lemmas.{Bool.false≢true, Option.{none-some, same_Some}}}
use Rattle.base.specs.declared.ids.{ObjId.ObjId, SlotRef.SlotRef}
use Rattle.machine.specs.declared.{cap.Cap.Cap, object.{Object.{Object, Object as o}, Untyped.Untyped}, thread.Inbox.Inbox}
use Rattle.machine.specs.declared.thread.Inbox.TheVariants as inbox
use Rattle.machine.specs.{declared.thread.{RunState.RunState, Tcb.Tcb}, Finalising.{aborted, finalised, halted, is_aborted, is_halted}}
use Rattle.machine.specs.declared.thread.RunState.TheVariants as state
use Rattle.machine.specs.{Finalising.{link_after, unbound}, Gone.{gone_of, has_slots}, Machine.{Machine, cap_of, object_of, parent_of}}
use Rattle.machine.specs.{Objects.slot_count, Orphans.{Nearest, climbs, no_ancestor, survives}, Removal.{removed, vanishes}}
use Rattle.machine.{specs.WellFormed.{Descends, child, further}, proofs.GoneLemmas.{gone_least, losing_decided, one_stays}}
use Rattle.machine.proofs.{Likeness.{IsLike, like_itself}, OrphanLemmas.climbed, RemovalLooks.{cap_of-removed, gone_has_no_parent}}
use Rattle.machine.proofs.RemovalLooks.{nearest_survives, object_of-removed}

like_tcb :
    (tcb : Tcb) (run : RunState) (learnt : Inbox) (bound : Option ObjId)
    → IsLike (o.Tcb (record { address = tcb.address; state = run; inbox = learnt; context = bound })) (o.Tcb tcb)
like_tcb tcb run learnt bound =
    record {
      kind = refl;
      slots = refl;
      words = refl;
      address = refl;
      end = refl;
      ranged = λ h. h;
      lies = λ memory h. h;
    }

-- a finalised object is alike
pub like_finalised : (m : Machine) (vanished : ObjId → Bool) (object : Object) → IsLike (finalised m vanished object) object
like_finalised m vanished (o.Tcb tcb) = by_ways (is_halted vanished tcb.state) (is_aborted vanished tcb.state) where
  by_ways :
      (halts aborts : Bool)
      → IsLike (o.Tcb (unbound vanished (cond halts (halted tcb) (cond aborts (aborted tcb) tcb)))) (o.Tcb tcb)
  by_ways true aborts = like_tcb tcb state.Inactive tcb.inbox (link_after vanished tcb.context)
  by_ways false true = like_tcb tcb state.Ready inbox.Aborted (link_after vanished tcb.context)
  by_ways false false = like_tcb tcb tcb.state tcb.inbox (link_after vanished tcb.context)
like_finalised m vanished (o.Reply holding) =
    record { kind = refl; slots = refl; words = refl; address = refl; end = refl; ranged = λ h. h; lies = λ memory h. h }
like_finalised m vanished (o.Context context) =
    record { kind = refl; slots = refl; words = refl; address = refl; end = refl; ranged = λ h. h; lies = λ memory h. h }
like_finalised m vanished object = like_itself object

-- untyped memory is as it was
pub untyped_was :
    (m : Machine) (vanished : ObjId → Bool) (object : Object) (memory : Untyped)
    → finalised m vanished object ≡ o.Untyped memory → object ≡ o.Untyped memory
untyped_was m vanished (o.Tcb tcb) memory e = cc
untyped_was m vanished (o.Reply holding) memory e = cc
untyped_was m vanished (o.Context context) memory e = cc
untyped_was m vanished _ memory e = e

-- a way that ends, ends at a slot that stays
way_ends :
    (parent : SlotRef → Option SlotRef) (gone : SlotRef → Bool) {from : Option SlotRef} {to : SlotRef}
    → Nearest parent gone from (Some to) → gone to ≡ false
way_ends parent gone (survives is) = is
way_ends parent gone (climbs is rest) = way_ends parent gone rest

-- it ends at once if the first stays
at_once :
    (parent : SlotRef → Option SlotRef) (gone : SlotRef → Bool) (slot : SlotRef) {from to : Option SlotRef}
    → Nearest parent gone from to → from ≡ Some slot → gone slot ≡ false → to ≡ Some slot
at_once parent gone slot no_ancestor e stays = absurd (none-some slot e)
at_once parent gone slot (survives is) e stays = e
at_once parent gone slot (climbs {slot = first} is rest) e stays =
    absurd (false≢true (sym (ap gone (same_Some first slot e) ∙ stays) ∙ is))

pub further_on : (m : Machine) {low mid high : SlotRef} → Descends m low mid → Descends m mid high → Descends m low high
further_on m (child is) rest = further is rest
further_on m (further is d) rest = further is (further_on m d rest)

slots_held : (found : Option Object) (object : Object) (index : ℕ) → found ≡ Some object → index < slot_count object → has_slots found ≡ true
slots_held found object index e less = ap has_slots e ∙ by_kind object less where
  by_kind : (object : Object) → index < slot_count object → has_slots (Some object) ≡ true
  by_kind (o.CNode node) less = refl
  by_kind (o.Tcb tcb) less = refl
  by_kind _ less = absurd (omega (arith, less))

module _ (m : Machine) (chosen : SlotRef → Bool) where
  abbrev gone : SlotRef → Bool
  gone = gone_of m chosen

  abbrev vanished : ObjId → Bool
  vanished = vanishes m chosen

  abbrev after : Machine
  after = removed m chosen

  pub object_was :
      (id : ObjId) (object : Object) → object_of (removed m chosen) id ≡ Some object
      → (old : Object) × (object_of m id ≡ Some old) × (vanishes m chosen id ≡ false) × (finalised m (vanishes m chosen) old ≡ object)
  object_was id object e = by_cases (vanished id) (object_of m id) refl refl (sym (object_of-removed m chosen id) ∙ e) where
    by_cases :
        (b : Bool) (found : Option Object) → vanished id ≡ b → object_of m id ≡ found
        → cond b None (option_map (finalised m vanished) found) ≡ Some object
        → (old : Object) × (object_of m id ≡ Some old) × (vanished id ≡ false) × (finalised m vanished old ≡ object)
    by_cases true found v is same = absurd (none-some object same)
    by_cases false None v is same = absurd (none-some object same)
    by_cases false (Some old) v is same = (old, is, v, same_Some (finalised m vanished old) object same)

  pub cap_was :
      (slot : SlotRef) (held : Cap) → cap_of (removed m chosen) slot ≡ Some held
      → (gone_of m chosen slot ≡ false) × (cap_of m slot ≡ Some held)
  cap_was slot held e = by_gone (gone slot) refl (sym (cap_of-removed m chosen slot) ∙ e) where
    by_gone : (b : Bool) → gone slot ≡ b → cond b None (cap_of m slot) ≡ Some held → (gone slot ≡ false) × (cap_of m slot ≡ Some held)
    by_gone true is same = absurd (none-some held same)
    by_gone false is same = (is, same)

  pub cap_now :
      (slot : SlotRef) (held : Cap) → gone_of m chosen slot ≡ false → cap_of m slot ≡ Some held
      → cap_of (removed m chosen) slot ≡ Some held
  cap_now slot held stays e = cap_of-removed m chosen slot ∙ ap (λ b. cond b None (cap_of m slot)) stays ∙ e

  -- the object of a capability that stays does too
  pub object_stays :
      (slot : SlotRef) (held : Cap) → gone_of m chosen slot ≡ false → cap_of m slot ≡ Some held
      → vanishes m chosen held.object ≡ false
  object_stays slot held stays e = by_vanished (vanished held.object) refl where
    by_vanished : (b : Bool) → vanished held.object ≡ b → b ≡ false
    by_vanished false v = refl
    by_vanished true v = sym (((losing_decided m gone held.object).0 v).all slot held e refl) ∙ stays

  -- the holder of a slot that stays does too
  pub holder_stays :
      (slot : SlotRef) (object : Object) → gone_of m chosen slot ≡ false → object_of m slot.holder ≡ Some object
      → slot.index < slot_count object → vanishes m chosen slot.holder ≡ false
  holder_stays slot object stays e less = by_vanished (vanished slot.holder) refl where
    by_vanished : (b : Bool) → vanished slot.holder ≡ b → b ≡ false
    by_vanished false v = refl
    by_vanished true v =
        sym
        ((gone_least m chosen).closed.closes slot (slots_held (object_of m slot.holder) object slot.index e less)
        ((losing_decided m gone slot.holder).0 v))
        ∙ stays

  -- an object that had a capability and stays has one
  pub cap_stays :
      (slot : SlotRef) (held : Cap) → cap_of m slot ≡ Some held → vanishes m chosen held.object ≡ false
      → (at : SlotRef) × (now : Cap) × (cap_of (removed m chosen) at ≡ Some now) × (now.object ≡ held.object)
  cap_stays slot held e stays =
      let one = one_stays m gone slot held e stays in (one.0, one.1, cap_now one.0 one.1 one.4 one.2, one.3)

  module _ (acyclic : (slot : SlotRef) → ¬ (Descends m slot slot)) where
    pub parent_was :
        (slot parent : SlotRef) → parent_of (removed m chosen) slot ≡ Some parent
        → (gone_of m chosen slot ≡ false) × Descends m slot parent × (gone_of m chosen parent ≡ false)
    parent_was slot parent e = by_gone (gone slot) refl where
      by_gone : (b : Bool) → gone slot ≡ b → (gone slot ≡ false) × Descends m slot parent × (gone parent ≡ false)
      by_gone true goes = absurd (none-some parent (sym (gone_has_no_parent m chosen slot goes) ∙ e))
      by_gone false stays =
          let way : Nearest (parent_of m) gone (parent_of m slot) (Some parent) =
          subst (λ (to : Option SlotRef). Nearest (parent_of m) gone (parent_of m slot) to) e
          (nearest_survives m chosen acyclic slot stays) in
          (stays, climbed m gone slot way refl, way_ends (parent_of m) gone way)

    pub descends_was : {slot above : SlotRef} → Descends (removed m chosen) slot above → Descends m slot above
    descends_was (child is) = (parent_was _ _ is).1
    descends_was (further is rest) = further_on m (parent_was _ _ is).1 (descends_was rest)

    module _ (above : SlotRef) (remains : gone above ≡ false) where
      abbrev Ends : Option SlotRef → Type 0
      Ends to = (p : SlotRef) × (to ≡ Some p) × ((p ≡ above) ⊎ Descends after p above)

      from_end : (slot : SlotRef) → Ends (parent_of after slot) → Descends after slot above
      from_end slot ends = by_end ends.2 where
        by_end : (ends.0 ≡ above) ⊎ Descends after ends.0 above → Descends after slot above
        by_end (inl is) = child (ends.1 ∙ ap Some is)
        by_end (inr d) = further ends.1 d

      -- on the way from a slot that descended, one is met that descends, or the one above
      on_the_way :
          {slot : SlotRef} → Descends m slot above → (from to : Option SlotRef) → Nearest (parent_of m) gone from to → from ≡ Some slot
          → Ends to
      on_the_way {slot} (child is) from to way e = by_way way e where
        by_way : {from to : Option SlotRef} → Nearest (parent_of m) gone from to → from ≡ Some slot → Ends to
        by_way no_ancestor e = absurd (none-some slot e)
        by_way (survives {slot = first} stays) e =
            let same : first ≡ slot = same_Some first slot e in (
              first,
              refl,
              inr (child (at_once (parent_of m) gone above (nearest_survives m chosen acyclic first stays)
                  (ap (parent_of m) same ∙ is) remains)),
            )
        by_way (climbs {slot = first} goes rest) e =
            let same : first ≡ slot = same_Some first slot e in
            (above, at_once (parent_of m) gone above rest (ap (parent_of m) same ∙ is) remains, inl refl)
      on_the_way {slot} (further {parent = parent} is d) from to way e = by_way way e (on_the_way d) where
        by_way :
            {from to : Option SlotRef} → Nearest (parent_of m) gone from to → from ≡ Some slot
            → ((low high : Option SlotRef) → Nearest (parent_of m) gone low high → low ≡ Some parent → Ends high) → Ends to
        by_way no_ancestor e later = absurd (none-some slot e)
        by_way (survives {slot = first} stays) e later =
            let same : first ≡ slot = same_Some first slot e in (
              first,
              refl,
              inr (from_end first (later (parent_of m first) (parent_of after first)
                  (nearest_survives m chosen acyclic first stays) (ap (parent_of m) same ∙ is))),
            )
        by_way (climbs {slot = first} {to = high} goes rest) e later =
            let same : first ≡ slot = same_Some first slot e in later (parent_of m first) high rest (ap (parent_of m) same ∙ is)

      pub descends_now : (slot : SlotRef) → gone_of m chosen slot ≡ false → Descends m slot above → Descends (removed m chosen) slot above
      descends_now slot stays d =
          let ends : Ends (Some slot) = on_the_way d (Some slot) (Some slot) (survives stays) refl in
          by_end ends (same_Some slot ends.0 ends.1) ends.2 where
            by_end : (ends : Ends (Some slot)) → slot ≡ ends.0 → (ends.0 ≡ above) ⊎ Descends after ends.0 above → Descends after slot above
            by_end ends same (inl is) = absurd (acyclic slot (subst (λ (s : SlotRef). Descends m slot s) (sym (same ∙ is)) d))
            by_end ends same (inr rest) = subst (λ (s : SlotRef). Descends after s above) (sym same) rest
