-- Retype within a caller's authority: the caller's label controls the untyped memory and the CNode, and so all that is made.
use Rattle.std.{specs.Prelude.if◌then◌else◌, proofs.Common.{[], ℕ, ◌+◌, ◌∙◌, ◌∷◌, ◌≡◌, Bool, List}}
use Rattle.std.proofs.Common.{Some, ap, arith, false, option_map, refl, subst, suc, sym, true, zero}
use Rattle.base.specs.declared.{ids.{ObjId.ObjId, SlotRef.SlotRef}, kind.Kind.Kind as authority}
use Rattle.machine.specs.declared.{call.Event.Event, object.{MemoryKind.MemoryKind, Object.{Object, Object as o}}}
use Rattle.machine.specs.{declared.object.{ObjectKind.ObjectKind as kind, Untyped.Untyped}, Authority.label_of, Capabilities.gives}
use Rattle.machine.specs.{Layout.Layout, Machine.{Machine, object_of, same_id}, Memory.{Source, begun, has_child, new_detail, new_object}}
use Rattle.machine.specs.{Memory.{new_size, placed, taken, with_made}, Objects.kind_of_object, Step.Retype.window, WellFormed.IsWellFormed}
use Rattle.machine.{specs.WellFormed.kind_of, proofs.{LookUps.same_machine, ObjectMade.{MakesObject, following, made_makes, marked}}}
use Rattle.steps.proofs.{MadeFormed.{CanMake, made_formed}, RetypeFormed.{MakesAll, first, new_address, none, retype_makes}}
use Rattle.{steps.proofs.RetypeRow.RetypeDone, policy.specs.Domain.{EdgeTest, IsInDomain}}
use Rattle.integrity.{specs.{Invariant.{IsHeld, IsSound}, Keeping.IsSharp}, proofs.{Held.held_of, Joined.joined_of}}
use Rattle.integrity.proofs.{Keeps.{Keeps, keeps_keeps, unchanged}, MakeKeeps.{MayMake, make_keeps}, ObjectLabels.{kind_there, label_stays}}
use Rattle.integrity.proofs.{ObjectLabels.labelled_there, Reach.{IsControlled, found_in_reach, found_within, shown_controlled}, Walks.shows}

-- a machine that is made by the row's relation is the one that the row computes
makes_is :
    (m next : Machine) (source : Source) (of : MemoryKind) (bits : ℕ) (slot : SlotRef)
    → MakesObject m source (taken (new_size of bits) source.memory).watermark
    (new_object of bits (placed (new_size of bits) source.memory)) (new_detail of) slot next
    → next ≡ with_made m source of bits slot
makes_is m next source of bits slot makes =
    let row = made_makes m source of bits slot in
    same_machine next (with_made m source of bits slot) (λ q. makes.objects q ∙ sym (row.objects q))
    (λ q. makes.queues q ∙ sym (row.queues q)) (λ q. makes.words q ∙ sym (row.words q)) (λ q. makes.caps q ∙ sym (row.caps q))
    (λ q. makes.parents q ∙ sym (row.parents q)) (makes.number ∙ sym row.number)
    (makes.going ∙ sym row.going)

-- slots of one object
AreOf : ObjId → List SlotRef → Type 0
AreOf node [] = Unit {0}
AreOf node (slot ∷ slots) = (slot.holder ≡ node) × AreOf node slots

window_of : (node : ObjId) (offset count : ℕ) → AreOf node (window node offset count)
unfolding AreOf
window_of node offset zero = tt
window_of node offset (suc count) = (refl, window_of node (offset + 1) count)

-- what holds all through a retype: the caller's label has control over the memory's label, it controls the CNode, and the CNode that
-- holds the memory's capability is in its domain
record HasAtHand (t : Layout) (allowed : EdgeTest) (a : ℕ) (node : ObjId) (m : Machine) (source : Source) : Type 0 where
  label : ℕ
  labelled : label_of t m source.id ≡ Some label
  controls : allowed a authority.Control label ≡ true
  taker : IsControlled t allowed m a node
  above : ℕ
  is_node : kind_of m source.slot.holder ≡ Some kind.CNode
  above_labelled : label_of t m source.slot.holder ≡ Some above
  domain : IsInDomain allowed a above

module _ (t : Layout) (allowed : EdgeTest) (began : Machine) (event : Event) (a : ℕ) (closed : IsSharp t allowed) where
  module _ (of : MemoryKind) (bits : ℕ) (node : ObjId) where
    -- an object that is there is there after one was made
    there_after :
        (m next : Machine) (source : Source) (mark : ℕ) (object : Object) (slot : SlotRef)
        → MakesObject m source mark object (new_detail of) slot next → (q : ObjId) (old : Object) → object_of m q ≡ Some old
        → (new : Object) × (object_of next q ≡ Some new)
    there_after m next source mark object slot makes q old was =
        by_ties (same_id q (following m)) (same_id q source.id) refl refl (makes.objects q)
      where
        by_ties :
            (new_one memory : Bool) → same_id q (following m) ≡ new_one → same_id q source.id ≡ memory
            → object_of next q
            ≡ (if new_one then Some object else if memory then Some (o.Untyped (marked source.memory mark)) else object_of m q)
            → (new : Object) × (object_of next q ≡ Some new)
        by_ties true memory is at e = (object, e)
        by_ties false true is at e = (o.Untyped (marked source.memory mark), e)
        by_ties false false is at e = (old, e ∙ was)

    at_hand_after :
        (m next : Machine) (source : Source) (mark : ℕ) (object : Object) (slot : SlotRef) (memory : Untyped)
        → MakesObject m source mark object (new_detail of) slot next → Keeps t allowed began event a m next
        → HasAtHand t allowed a node m source → HasAtHand t allowed a node next (record source { memory = memory })
    at_hand_after m next source mark object slot memory makes keeps hand = record {
      label = hand.label;
      labelled = label_kept source.id hand.label hand.labelled;
      controls = hand.controls;
      taker = record {
        is_node = kind_kept node hand.taker.is_node;
        label = hand.taker.label;
        labelled = label_kept node hand.taker.label hand.taker.labelled;
        controls = hand.taker.controls;
        keeper = hand.taker.keeper;
      };
      above = hand.above;
      is_node = kind_kept source.slot.holder hand.is_node;
      above_labelled = label_kept source.slot.holder hand.above hand.above_labelled;
      domain = hand.domain;
    } where
      label_kept : (q : ObjId) (label : ℕ) → label_of t m q ≡ Some label → label_of t next q ≡ Some label
      label_kept q label is =
          let old = labelled_there t m q label is in
          let new = there_after m next source mark object slot makes q old.0 old.1 in
          label_stays t m next q old.0 new.0 old.1 new.1 (keeps.stays q old.0 new.0 old.1 new.1).1 ∙ is

      kind_kept : (q : ObjId) → kind_of m q ≡ Some kind.CNode → kind_of next q ≡ Some kind.CNode
      kind_kept q is =
          let old = kind_there m q kind.CNode is in
          let new = there_after m next source mark object slot makes q old.0 old.1 in
          ap (option_map kind_of_object) new.1 ∙ ap (λ k. Some k) (keeps.stays q old.0 new.0 old.1 new.1).0
          ∙ sym (ap (option_map kind_of_object) old.1) ∙ is

    may_make :
        (m : Machine) (source : Source) (slot : SlotRef) → HasAtHand t allowed a node m source → slot.holder ≡ node
        → CanMake m source (taken (new_size of bits) source.memory).watermark
        (new_object of bits (placed (new_size of bits) source.memory)) (new_detail of) slot
        → MayMake t allowed a m source of bits slot
    may_make m source slot hand on can =
        let address = new_address of bits (placed (new_size of bits) source.memory) in
        let low = can.low in
        let within = can.within in
        record {
          was = can.was;
          there = can.there;
          label = hand.label;
          labelled = hand.labelled;
          controls = hand.controls;
          low = omega (arith, low, address);
          high = within;
          node = subst (λ (n : ObjId). IsControlled t allowed m a n) (sym on) hand.taker;
          above = hand.above;
          is_node = hand.is_node;
          above_labelled = hand.above_labelled;
          domain = hand.domain;
        }

    all_keep :
        {m next : Machine} {source : Source} {slots : List SlotRef} → IsHeld t allowed m → IsWellFormed m
        → HasAtHand t allowed a node m source → AreOf node slots → MakesAll of bits m source slots next
        → Keeps t allowed began event a m next
    unfolding AreOf
    all_keep {m = m} held formed hand on none = unchanged t allowed began event a m held
    all_keep {next = next} {source = source} held formed hand on (first {m = m} {between = between} {slot = slot} can makes rest) =
        let mark : ℕ = (taken (new_size of bits) source.memory).watermark in
        let object : Object = new_object of bits (placed (new_size of bits) source.memory) in
        let one : Keeps t allowed began event a m between =
        subst (λ (n : Machine). Keeps t allowed began event a m n) (sym (makes_is m between source of bits slot makes))
        (make_keeps t allowed began event a m held (joined_of m formed held.of_table.lent) closed source of bits slot (may_make m source slot hand on.0 can)) in
        keeps_keeps t allowed began event a m between next held one
        (all_keep one.held (made_formed m between source mark object (new_detail of) slot makes can formed)
        (at_hand_after m between source mark object slot (taken (new_size of bits) source.memory) makes one hand) on.1 rest)

module _
    (t : Layout) (allowed : EdgeTest) (event : Event) (a : ℕ) (m : Machine) (sound : IsSound t allowed m) (closed : IsSharp t allowed)
    (caller : ObjId) (labelled : label_of t m caller ≡ Some a) (untyped : ℕ) (of : MemoryKind) (bits to offset count : ℕ)
    (next : Machine) (done : RetypeDone m caller untyped of bits to offset count next) where
  held : IsHeld t allowed m
  held = held_of t allowed m sound

  at_hand : (memory : Untyped) → HasAtHand t allowed a done.node.node m (record done.source { memory = memory })
  at_hand memory =
      let reach =
      found_in_reach t allowed m held closed.uses_rise a caller untyped done.source.slot done.finds.finds.left done.finds.held
      labelled done.finds.finds.ends done.finds.finds.holds in
      let within =
      found_within t allowed m held closed.uses_rise a caller untyped done.source.slot done.finds.finds.left labelled
      done.finds.finds.ends in
      let given : gives done.finds.held.detail authority.Control ≡ true = rw done.finds.untyped refl in
      let taker_within =
      found_within t allowed m held closed.uses_rise a caller to done.takes.at done.takes.left labelled done.takes.ends in
      record {
        label = reach.label;
        labelled = ap (label_of t m) (sym done.finds.object) ∙ reach.labelled;
        controls = reach.edge authority.Control given refl;
        taker =
            shown_controlled t allowed m held closed.uses_rise a done.takes.at done.node.node taker_within
            (shows m done.takes.at done.node done.takes.shows);
        above = within.label;
        is_node = within.is_node;
        above_labelled = within.labelled;
        domain = within.domain;
      }

  begun_is : (memory : Untyped) × (begun m done.source ≡ record done.source { memory = memory })
  begun_is = by_child (has_child m done.source.slot) refl where
    by_child : (tie : Bool) → has_child m done.source.slot ≡ tie → (memory : Untyped) × (begun m done.source ≡ record done.source { memory = memory })
    by_child true is = (done.source.memory, rw is refl)
    by_child false is = (marked done.source.memory done.source.memory.base, rw is refl)

  pub retype_keeps : Keeps t allowed m event a m next
  retype_keeps =
      all_keep t allowed m event a closed of bits done.node.node held sound.well_formed
      (subst (λ (s : Source). HasAtHand t allowed a done.node.node m s) (sym begun_is.1) (at_hand begun_is.0))
      (window_of done.node.node offset count)
      (retype_makes m caller untyped of bits to offset count next sound.well_formed done)
