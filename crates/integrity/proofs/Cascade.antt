-- Capabilities that go with those that a label may remove are for objects within the reach of a label that it controls: through a CNode
-- that label may use what the CNode holds, and of a thread the remover controls the label, which reaches the thread's space.
use Rattle.std.proofs.Common.{ℕ, ◌<◌, ◌∙◌, ◌≡◌, ◌≢◌, ◌⊎◌, Bool, Some, ap, arith, false, inl, inr, option_map, refl, subst, sym, true}
use Rattle.std.proofs.lemmas.Option.{same_Some}
use Rattle.base.specs.{declared.{ids.{ObjId.ObjId, SlotRef.SlotRef}, kind.Kind.{Kind, Kind as authority}}, Kinds.is_structural}
use Rattle.machine.specs.declared.{cap.{Cap.Cap, Detail.{Detail, Detail as d}}, object.Object.{Object, Object as o}}
use Rattle.machine.specs.{declared.object.ObjectKind.{ObjectKind, ObjectKind as kind}, Authority.{label_of, HasAuthority.{by_cap, by_root}}}
use Rattle.machine.specs.{Capabilities.{gives, kind_of_detail}, Gone.{IsGone, given, gone_of, with_last}, Layout.Layout, Machine.Machine}
use Rattle.machine.specs.{Machine.{cap_of, object_of}, Objects.{kind_of_object, slot_count}, Removal.vanishes, WellFormed.kind_of}
use Rattle.machine.proofs.GoneLemmas.{gone_decided, losing_decided}
use Rattle.policy.specs.{Change.{ActorTest, WayToChange, WayToChange.modifies}, Domain.{EdgeTest, IsInDomain}, NarrowTake.WayToShrink, Sharp.UsesRise}
use Rattle.policy.specs.NarrowTake.{is_removed, TakesByControl.removes, WayToShrink.{controls, unbinds}}
use Rattle.integrity.{specs.{Invariant.IsSound, Removals.{MayReach, MayRemove, use_of}}, proofs.{Held.held_of, Reach.target_label}}
use Rattle.integrity.specs.Keeping.{IsSharp}

-- each capability gives the use of its object's kind
pub gives_use : (detail : Detail) → gives detail (use_of (kind_of_detail detail)) ≡ true
gives_use d.Untyped = refl
gives_use (d.CNode guard) = refl
gives_use d.Tcb = refl
gives_use (d.Endpoint end) = refl
gives_use (d.Notification end) = refl
gives_use d.Reply = refl
gives_use d.Context = refl
gives_use (d.Frame rights) = refl
gives_use d.Control = refl

pub of_use : (k : ObjectKind) → is_structural (use_of k) ≡ false
of_use kind.Untyped = refl
of_use kind.CNode = refl
of_use kind.Tcb = refl
of_use kind.Endpoint = refl
of_use kind.Notification = refl
of_use kind.Reply = refl
of_use kind.Context = refl
of_use kind.Frame = refl
of_use kind.Control = refl

-- a label may do what a label that it controls may do
pub rises :
    (allowed : EdgeTest) → UsesRise allowed → (a b : ℕ) → allowed a authority.Control b ≡ true
    → (k : Kind) → is_structural k ≡ false → (to : ℕ) → allowed b k to ≡ true → allowed a k to ≡ true
rises allowed rise a b control k plain to = rise a b k (record { domain = inr control; of_use = plain }) to

-- a CNode or a thread

abbrev pub HasSlots : Machine → ObjId → Type 0
HasSlots m id = (kind_of m id ≡ Some kind.CNode) ⊎ (kind_of m id ≡ Some kind.Tcb)

pub counted_kinds :
    (m : Machine) (id : ObjId) (object : Object) (index : ℕ) → object_of m id ≡ Some object → index < slot_count object
    → HasSlots m id
counted_kinds m id (o.CNode node) index at less = inl (ap (option_map kind_of_object) at)
counted_kinds m id (o.Tcb tcb) index at less = inr (ap (option_map kind_of_object) at)
counted_kinds m id _ index at less = absurd (omega (arith, less))

-- the label a controls a label that reaches an object
pub record IsInReach (t : Layout) (allowed : EdgeTest) (a : ℕ) (m : Machine) (id : ObjId) : Type 0 where
  pub controlled : ℕ
  pub control : allowed a authority.Control controlled ≡ true
  pub label : ℕ
  pub labelled : label_of t m id ≡ Some label
  pub of_kind : ObjectKind
  pub is : kind_of m id ≡ Some of_kind
  pub reach : MayReach allowed controlled of_kind label

-- a label has a way to change a label's objects, or to make them smaller
abbrev pub WayToAlter : EdgeTest → ActorTest → ℕ → ℕ → Type 0
WayToAlter allowed acts a label = WayToChange allowed acts a label ⊎ WayToShrink allowed acts a label

module _
    (t : Layout) (allowed : EdgeTest) (a : ℕ) (m : Machine) (chosen : SlotRef → Bool) (sound : IsSound t allowed m)
    (closed : IsSharp t allowed) (may : MayRemove t allowed a m chosen) where
  abbrev Reached : ObjId → Type 0
  Reached id = IsInReach t allowed a m id

  -- from an object to what one of its slots holds
  module _ (slot : SlotRef) (held : Cap) (filled : cap_of m slot ≡ Some held) (over : Reached slot.holder) where
    to : (label : ℕ) × (label_of t m held.object ≡ Some label)
    to = target_label t allowed m (held_of t allowed m sound) slot held filled

    over_is : (k : ObjectKind) → kind_of m slot.holder ≡ Some k → over.of_kind ≡ k
    over_is k is = same_Some over.of_kind k (sym over.is ∙ is)

    -- the controlled label may use what a CNode holds
    from_node : kind_of m slot.holder ≡ Some kind.CNode → allowed over.controlled (use_of (kind_of_detail held.detail)) to.0 ≡ true
    from_node node =
        closed.uses_rise over.controlled over.label used (record { domain = domain over.reach; of_use = plain }) to.0
        (sound.confined over.label used to.0 (by_cap slot held filled node (gives_use held.detail) over.labelled to.1))
      where
        used : Kind
        used = use_of (kind_of_detail held.detail)

        plain : is_structural used ≡ false
        plain = of_use (kind_of_detail held.detail)

        domain : MayReach allowed over.controlled over.of_kind over.label → IsInDomain allowed over.controlled over.label
        domain (inl has) = inr (ap (λ k. allowed over.controlled (use_of k) over.label) (sym (over_is kind.CNode node)) ∙ has)
        domain (inr space) = inl space.1

    -- a thread is controlled
    thread_control :
        kind_of m slot.holder ≡ Some kind.Tcb → MayReach allowed over.controlled over.of_kind over.label
        → allowed a authority.Control over.label ≡ true
    thread_control thread (inl has) =
        rises allowed closed.uses_rise a over.controlled over.control authority.Control refl over.label
        (ap (λ k. allowed over.controlled (use_of k) over.label) (sym (over_is kind.Tcb thread)) ∙ has)
    thread_control thread (inr space) = let two : kind.CNode ≡ kind.Tcb = sym space.0 ∙ over_is kind.Tcb thread in cc

    -- an object with slots hands the reach on to what they hold
    hands_on : HasSlots m slot.holder → Reached held.object
    hands_on (inl node) = record {
      controlled = over.controlled;
      control = over.control;
      label = to.0;
      labelled = to.1;
      of_kind = kind_of_detail held.detail;
      is = sound.well_formed.slots.object slot held filled;
      reach = inl (from_node node);
    }
    hands_on (inr thread) = record {
      controlled = over.label;
      control = thread_control thread over.reach;
      label = to.0;
      labelled = to.1;
      of_kind = kind_of_detail held.detail;
      is = sound.well_formed.slots.object slot held filled;
      reach =
          inr (
            sound.well_formed.slots.root slot held filled thread,
            sound.confined over.label authority.Space to.0 (by_root slot held filled thread over.labelled to.1),
          );
    }

  -- the object of each capability that goes
  gone_reached : {slot : SlotRef} → IsGone m chosen slot → (held : Cap) → cap_of m slot ≡ Some held → Reached held.object
  gone_reached (given {slot} is) held filled =
      let at = may slot held is filled in
      record {
        controlled = at.controlled;
        control = at.control;
        label = at.label;
        labelled = at.labelled;
        of_kind = kind_of_detail held.detail;
        is = sound.well_formed.slots.object slot held filled;
        reach = at.reach;
      }
  gone_reached (with_last {slot} holder last final there own all) held filled =
      let has = sound.well_formed.slots.holder slot held filled in
      hands_on slot held filled (subst Reached own (gone_reached (all last final there own) final there))
      (counted_kinds m slot.holder has.0 slot.index has.1 has.2)

  -- each object that vanishes
  pub vanished_reached : (id : ObjId) → vanishes m chosen id ≡ true → IsInReach t allowed a m id
  vanished_reached id gone =
      let loses = (losing_decided m (gone_of m chosen) id).0 gone in
      let goes = (gone_decided m chosen loses.last).0 (loses.all loses.last loses.final loses.there loses.its_own) in
      subst Reached loses.its_own (gone_reached goes loses.final loses.there)

  -- the controlled label may use an object that is reached, unless it is a CNode
  pub reached_used :
      (id : ObjId) (k : ObjectKind) (label : ℕ) → kind_of m id ≡ Some k → k ≢ kind.CNode → (at : IsInReach t allowed a m id)
      → label_of t m id ≡ Some label → allowed at.controlled (use_of k) label ≡ true
  reached_used id k label is other at labelled = by_way at.reach where
    one : at.of_kind ≡ k
    one = same_Some at.of_kind k (sym at.is ∙ is)

    by_way : MayReach allowed at.controlled at.of_kind at.label → allowed at.controlled (use_of k) label ≡ true
    by_way (inl has) =
        ap (λ of_kind. allowed at.controlled (use_of of_kind) label) (sym one)
        ∙ ap (allowed at.controlled (use_of at.of_kind)) (same_Some label at.label (sym labelled ∙ at.labelled)) ∙ has
    by_way (inr space) = absurd (other (sym one ∙ space.0))

  -- a may use an object that vanishes, unless it is a CNode
  pub vanished_used :
      (id : ObjId) (k : ObjectKind) (label : ℕ) → kind_of m id ≡ Some k → k ≢ kind.CNode → vanishes m chosen id ≡ true
      → label_of t m id ≡ Some label → allowed a (use_of k) label ≡ true
  vanished_used id k label is other gone labelled =
      let at = vanished_reached id gone in
      rises allowed closed.uses_rise a at.controlled at.control (use_of k) (of_use k) label (reached_used id k label is other at labelled)

  -- an object that is reached may be altered
  pub reached_alters : (acts : ActorTest) (id : ObjId) (at : IsInReach t allowed a m id) → WayToAlter allowed acts a at.label
  reached_alters acts id at = by_kind at.of_kind at.reach where
    by_control : (k : Kind) → is_removed k ≡ true → allowed at.controlled k at.label ≡ true → WayToAlter allowed acts a at.label
    by_control k removing has = inr (controls (removes at.controlled k removing at.control has))

    -- a may do what the controlled label may do
    may_too : (k : Kind) → is_structural k ≡ false → allowed at.controlled k at.label ≡ true → allowed a k at.label ≡ true
    may_too k plain has = rises allowed closed.uses_rise a at.controlled at.control k plain at.label has

    by_kind : (k : ObjectKind) → MayReach allowed at.controlled k at.label → WayToAlter allowed acts a at.label
    by_kind k (inr space) = by_control authority.Space refl space.1
    by_kind kind.Untyped (inl has) = inl (modifies authority.Control refl (may_too authority.Control refl has))
    by_kind kind.CNode (inl has) = inl (modifies authority.Control refl (may_too authority.Control refl has))
    by_kind kind.Tcb (inl has) = inl (modifies authority.Control refl (may_too authority.Control refl has))
    by_kind kind.Endpoint (inl has) = by_control authority.Reset refl has
    by_kind kind.Notification (inl has) = by_control authority.Reset refl has
    by_kind kind.Frame (inl has) = by_control authority.Reset refl has
    by_kind kind.Reply (inl has) = inl (modifies authority.Reply refl (may_too authority.Reply refl has))
    by_kind kind.Context (inl has) = inr (unbinds (may_too authority.Context refl has))
    by_kind kind.Control (inl has) = by_control authority.SchedControl refl has
