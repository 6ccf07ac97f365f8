-- That a machine stays well formed when an object is made at the watermark of untyped memory.
use Rattle.std.{specs.Prelude.{AllPairs, Contains, None, Some, option_map, replicate}, proofs.Common.{[], ℕ, ◌<◌, ◌∙◌, ◌≡◌, ◌≢◌, ◌≤◌, ◌⊎◌}}
use Rattle.std.proofs.{Common.{List, ap, arith, inl, inr, length, subst, sym, true}, lemmas.{List.length-replicate, Option.same_Some}}
use Rattle.base.specs.declared.ids.{ObjId.ObjId, SlotRef.SlotRef}
use Rattle.machine.specs.declared.{cap.{Cap.Cap, Detail.Detail}, object.{Object.{Object, Object as o}, ObjectKind.ObjectKind}}
use Rattle.machine.specs.declared.{object.{ObjectKind.ObjectKind as kind, Untyped.Untyped}, thread.{RunState.RunState, Tcb.Tcb}}
use Rattle.machine.specs.{Capabilities.kind_of_detail, Machine.{Machine, cap_of, object_of, parent_of, queue_of, words_of}, Memory.Source}
use Rattle.machine.specs.{Objects.{address_of, end_of, kind_of_object, slot_count, word_count}, WellFormed.{Descends, IsCallingThrough}}
use Rattle.machine.specs.WellFormed.{IsRanged, IsReceivingWith, IsSending, IsThread, IsWellFormed, LiesIn, LinksAgree, Meets, NumbersFit}
use Rattle.machine.{specs.WellFormed.{PartsFit, SlotsFit, WaitsAt, WaitsAtKind, kind_of, Descends.{child, further}}, proofs.Ids.at_itself}
use Rattle.machine.proofs.{Ids.{at_other, one_or_two}, Likeness.{IsLike, IsUnlinked, in_order, lies_marked, lies_within, like_itself}}
use Rattle.machine.proofs.{Likeness.{like_marked, nobody_in, nobody_twice, of_kind, range_within}, ObjectMade.{MakesObject, following}}
use Rattle.machine.proofs.ObjectMade.{marked}
use Rattle.steps.proofs.FilledSlots.{FillsUnder, cap_here, cap_stays, cap_was, child_filled, descent_stays, no_cycle, not_filled, old_cap}
use Rattle.steps.proofs.{FilledSlots.{parent_filled, parent_here, parent_was}, LedSlots.InNode, SameObjects.Kin}

-- an object can be made: the memory exists with a capability, nothing with a higher number lies past the object's address, and the slot is
-- an empty one of a CNode
pub record CanMake (m : Machine) (source : Source) (mark : ℕ) (object : Object) (detail : Detail) (slot : SlotRef) : Type 0 where
  pub was : ℕ
  pub there : object_of m source.id ≡ Some (o.Untyped (marked source.memory was))
  pub held : Cap
  pub holds : cap_of m source.slot ≡ Some held
  pub held_object : held.object ≡ source.id
  pub free :
      (q : ObjId) (other : Object) → object_of m q ≡ Some other → source.id.0 < q.0 → Meets (o.Untyped source.memory) other
      → end_of other ≤ address_of object
  pub low : source.memory.base ≤ address_of object
  pub high : end_of object ≤ mark
  pub within : mark ≤ end_of (o.Untyped source.memory)
  pub unlinked : IsUnlinked object
  pub ranged : IsRanged object
  pub kinds : kind_of_object object ≡ kind_of_detail detail
  pub vacant : cap_of m slot ≡ None
  pub node : InNode m slot

module _ (m next : Machine) (source : Source) (mark : ℕ) (object : Object) (detail : Detail) (slot : SlotRef)
    (makes : MakesObject m source mark object detail slot next) (can : CanMake m source mark object detail slot)
    (formed : IsWellFormed m) where
  abbrev number : ObjId
  number = following m

  abbrev new : Cap
  new = record { object = number; detail = detail; original = true }

  -- each other object has a lower number
  earlier : (q : ObjId) (old : Object) → object_of m q ≡ Some old → q ≢ number
  earlier q old e is =
      let less : q.0 < m.next = formed.numbers.below_next q old e in
      let same : q.0 ≡ m.next = ap (λ (id : ObjId). id.0) is in
      omega (arith, less, same)

  new_there : object_of next number ≡ Some object
  new_there = makes.objects number ∙ at_itself number (Some object) _

  elsewhere : (q : ObjId) → q ≢ number → q ≢ source.id → object_of next q ≡ object_of m q
  elsewhere q fresh apart = makes.objects q ∙ at_other q number (Some object) _ fresh ∙ at_other q source.id _ (object_of m q) apart

  pub memory_there : object_of next source.id ≡ Some (o.Untyped (marked source.memory mark))
  memory_there =
      makes.objects source.id ∙ at_other source.id number (Some object) _ (earlier source.id _ can.there)
      ∙ at_itself source.id _ (object_of m source.id)

  memory_was : (old : Object) → object_of m source.id ≡ Some old → old ≡ o.Untyped (marked source.memory can.was)
  memory_was old e = let same : Some old ≡ Some (o.Untyped (marked source.memory can.was)) = sym e ∙ can.there in cc

  -- each object is still there, but for the watermark
  after : (q : ObjId) (old : Object) → object_of m q ≡ Some old → (now : Object) × (object_of next q ≡ Some now) × IsLike now old
  after q old e = by_id (one_or_two q source.id) where
    by_id : (q ≡ source.id) ⊎ (q ≢ source.id) → (now : Object) × (object_of next q ≡ Some now) × IsLike now old
    by_id (inl here) =
        let is : old ≡ o.Untyped (marked source.memory can.was) = memory_was old (ap (object_of m) (sym here) ∙ e) in (
          o.Untyped (marked source.memory mark),
          ap (object_of next) here ∙ memory_there,
          subst (λ (x : Object). IsLike (o.Untyped (marked source.memory mark)) x) (sym is)
              (like_marked source.memory mark can.was),
        )
    by_id (inr apart) = (old, elsewhere q (earlier q old e) apart ∙ e, like_itself old)

  -- each object is the new one, or was there
  pub before :
      (q : ObjId) (now : Object) → object_of next q ≡ Some now
      → ((q ≡ number) × (now ≡ object)) ⊎ ((old : Object) × (object_of m q ≡ Some old) × IsLike now old)
  before q now e = by_number (one_or_two q number) where
    by_id :
        q ≢ number → (q ≡ source.id) ⊎ (q ≢ source.id)
        → ((q ≡ number) × (now ≡ object)) ⊎ ((old : Object) × (object_of m q ≡ Some old) × IsLike now old)
    by_id fresh (inl here) =
        let same : Some now ≡ Some (o.Untyped (marked source.memory mark)) =
        sym e ∙ ap (object_of next) here ∙ memory_there in
        let is : now ≡ o.Untyped (marked source.memory mark) = cc in
        inr (
          o.Untyped (marked source.memory can.was),
          ap (object_of m) here ∙ can.there,
          subst (λ (x : Object). IsLike x (o.Untyped (marked source.memory can.was))) (sym is)
              (like_marked source.memory mark can.was),
        )
    by_id fresh (inr apart) = inr (now, sym (elsewhere q fresh apart) ∙ e, like_itself now)

    by_number :
        (q ≡ number) ⊎ (q ≢ number)
        → ((q ≡ number) × (now ≡ object)) ⊎ ((old : Object) × (object_of m q ≡ Some old) × IsLike now old)
    by_number (inl is) =
        let same : Some now ≡ Some object = sym e ∙ ap (object_of next) is ∙ new_there in inl (is, cc)
    by_number (inr fresh) = by_id fresh (one_or_two q source.id)

  kind_stays : (q : ObjId) (of : ObjectKind) → kind_of m q ≡ Some of → kind_of next q ≡ Some of
  kind_stays q of e =
      let was = of_kind m q of e in
      let now = after q was.0 was.1 in
      ap (option_map kind_of_object) now.1 ∙ ap (λ k. Some k) (now.2.kind ∙ was.2)

  kind_was : (q : ObjId) (old : Object) (of : ObjectKind) → object_of m q ≡ Some old → kind_of next q ≡ Some of → kind_of m q ≡ Some of
  kind_was q old of there e =
      let now = after q old there in
      ap (option_map kind_of_object) there
      ∙ ap (λ k. Some k) (sym now.2.kind) ∙ sym (ap (option_map kind_of_object) now.1) ∙ e

  -- the slots

  pub fills : FillsUnder m slot (Some source.slot) new next
  fills =
      record {
        fits = formed.slots;
        empty = can.vacant;
        full = λ parent same. (can.held, ap (cap_of m) (sym (same_Some source.slot parent same)) ∙ can.holds);
        caps = makes.caps;
        parents = makes.parents;
      }

  abbrev HasSlot : Machine → SlotRef → Type 0
  HasSlot n q = (holder : Object) × (object_of n q.holder ≡ Some holder) × (q.index < slot_count holder)

  slot_stays : (q : SlotRef) → HasSlot m q → HasSlot next q
  slot_stays q was =
      let now = after q.holder was.0 was.1 in
      (now.0, now.1, subst (λ n. q.index < n) (sym now.2.slots) was.2)

  holder_now : (q : SlotRef) (cap : Cap) → cap_of next q ≡ Some cap → HasSlot next q
  holder_now q cap e = by_case (cap_was fills q cap e) where
    by_case : ((q ≡ slot) × (cap ≡ new)) ⊎ (cap_of m q ≡ Some cap) → HasSlot next q
    by_case (inl is) =
        subst (HasSlot next) (sym is.0) (slot_stays slot (o.CNode can.node.0, can.node.1, can.node.2))
    by_case (inr was) = slot_stays q (formed.slots.holder q cap was)

  object_now : (q : SlotRef) (cap : Cap) → cap_of next q ≡ Some cap → kind_of next cap.object ≡ Some (kind_of_detail cap.detail)
  object_now q cap e = by_case (cap_was fills q cap e) where
    by_case :
        ((q ≡ slot) × (cap ≡ new)) ⊎ (cap_of m q ≡ Some cap) → kind_of next cap.object ≡ Some (kind_of_detail cap.detail)
    by_case (inl is) =
        subst (λ (c : Cap). kind_of next c.object ≡ Some (kind_of_detail c.detail)) (sym is.1)
        (ap (option_map kind_of_object) new_there ∙ ap (λ k. Some k) can.kinds)
    by_case (inr was) = kind_stays cap.object (kind_of_detail cap.detail) (formed.slots.object q cap was)

  root_now :
      (q : SlotRef) (cap : Cap) → cap_of next q ≡ Some cap → kind_of next q.holder ≡ Some kind.Tcb
      → kind_of_detail cap.detail ≡ kind.CNode
  root_now q cap e is_root = by_case (cap_was fills q cap e) where
    by_case : ((q ≡ slot) × (cap ≡ new)) ⊎ (cap_of m q ≡ Some cap) → kind_of_detail cap.detail ≡ kind.CNode
    by_case (inl is) =
        let node : kind_of next slot.holder ≡ Some kind.CNode =
        kind_stays slot.holder kind.CNode (ap (option_map kind_of_object) can.node.1) in
        let two : Some kind.CNode ≡ Some kind.Tcb = sym node ∙ ap (λ (s : SlotRef). kind_of next s.holder) (sym is.0) ∙ is_root in
        cc
    by_case (inr was) =
        let holder = formed.slots.holder q cap was in
        formed.slots.root q cap was (kind_was q.holder holder.0 kind.Tcb holder.1 is_root)

  kin_stays : (low high : ObjId) → Kin m low high → Kin next low high
  kin_stays low high (inl same) = inl same
  kin_stays low high (inr w) = by_id (one_or_two high source.id) where
    now : (made : Object) × (object_of next low ≡ Some made) × IsLike made w.1
    now = after low w.1 w.3

    by_id : (high ≡ source.id) ⊎ (high ≢ source.id) → Kin next low high
    by_id (inl here) =
        let same : o.Untyped w.0 ≡ o.Untyped (marked source.memory can.was) =
        memory_was (o.Untyped w.0) (ap (object_of m) (sym here) ∙ w.2) in
        let is : w.0 ≡ marked source.memory can.was = cc in
        let lies : LiesIn (marked source.memory can.was) now.0 = subst (λ (u : Untyped). LiesIn u now.0) is (now.2.lies w.0 w.4) in
        inr (
          marked source.memory mark,
          now.0,
          ap (object_of next) here ∙ memory_there,
          now.1,
          lies_marked (marked source.memory can.was) mark now.0 lies,
        )
    by_id (inr apart) = inr (w.0, now.0, elsewhere high (earlier high _ w.2) apart ∙ w.2, now.1, now.2.lies w.0 w.4)

  new_lies : LiesIn (marked source.memory mark) object
  new_lies =
      let high : end_of object ≤ end_of (o.Untyped source.memory) = omega (arith, can.high, can.within) in
      lies_within (marked source.memory mark) object can.unlinked can.low high

  kin_now :
      (q parent : SlotRef) (below above : Cap) → parent_of next q ≡ Some parent → cap_of next q ≡ Some below
      → cap_of next parent ≡ Some above → Kin next below.object above.object
  kin_now q parent below above e f g = by_case (parent_was fills q parent e) where
    above_was : cap_of m parent ≡ Some above
    above_was =
        old_cap fills parent above
        (not_filled fills parent (parent_filled fills q parent e)) g

    by_case : ((q ≡ slot) × (Some source.slot ≡ Some parent)) ⊎ (parent_of m q ≡ Some parent) → Kin next below.object above.object
    by_case (inl is) =
        let low : Some below ≡ Some new = sym f ∙ ap (cap_of next) is.0 ∙ cap_here fills in
        let new_below : below ≡ new = cc in
        let high : Some above ≡ Some can.held = sym above_was ∙ ap (cap_of m) (sym (same_Some source.slot parent is.1)) ∙ can.holds in
        let source_above : above ≡ can.held = cc in
        let to : above.object ≡ source.id = ap (λ (c : Cap). c.object) source_above ∙ can.held_object in
        inr (
          marked source.memory mark,
          object,
          ap (object_of next) to ∙ memory_there,
          ap (λ (c : Cap). object_of next c.object) new_below ∙ new_there,
          new_lies,
        )
    by_case (inr was) =
        let below_was : cap_of m q ≡ Some below =
        old_cap fills q below (not_filled fills q (formed.slots.child_filled q parent was)) f in
        kin_stays below.object above.object (formed.slots.kin q parent below above was below_was above_was)

  slots_made : SlotsFit next
  slots_made =
      record {
        holder = holder_now;
        object = object_now;
        root = root_now;
        child_filled = child_filled fills;
        parent_filled = λ q parent e.
            let w = parent_filled fills q parent e in
            (w.0, cap_stays fills parent w.0 w.1);
        acyclic = no_cycle fills;
        kin = kin_now;
      }

  -- queues and words

  queue_stays : (q : ObjId) (threads : List ObjId) → queue_of m q ≡ Some threads → queue_of next q ≡ Some threads
  queue_stays q threads e =
      let w = formed.parts.queue_of_object q threads e in
      makes.queues q ∙ at_other q number (Some []) (queue_of m q) (earlier q w.0 w.1) ∙ e

  queue_was :
      (q : ObjId) (threads : List ObjId) → queue_of next q ≡ Some threads
      → ((q ≡ number) × (threads ≡ [])) ⊎ (queue_of m q ≡ Some threads)
  queue_was q threads e = by_id (one_or_two q number) where
    by_id : (q ≡ number) ⊎ (q ≢ number) → ((q ≡ number) × (threads ≡ [])) ⊎ (queue_of m q ≡ Some threads)
    by_id (inl is) =
        let none : queue_of next number ≡ Some [] = makes.queues number ∙ at_itself number (Some []) (queue_of m number) in
        let same : Some threads ≡ Some [] = sym e ∙ ap (queue_of next) is ∙ none in
        inl (is, cc)
    by_id (inr fresh) = inr (sym (makes.queues q ∙ at_other q number (Some []) (queue_of m q) fresh) ∙ e)

  abbrev HasWords : Machine → ObjId → Object → Type 0
  HasWords n q of = (words : List ℕ) × (words_of n q ≡ Some words) × (length words ≡ word_count of)

  words_now : (q : ObjId) (now : Object) → object_of next q ≡ Some now → HasWords next q now
  words_now q now e = by_case (before q now e) where
    new_words : HasWords next number object
    new_words = (
      replicate (word_count object) 0,
      makes.words number ∙ at_itself number (Some (replicate (word_count object) 0)) (words_of m number),
      length-replicate (word_count object) 0,
    )

    by_case :
        ((q ≡ number) × (now ≡ object)) ⊎ ((old : Object) × (object_of m q ≡ Some old) × IsLike now old) → HasWords next q now
    by_case (inl is) =
        subst (λ (id : ObjId). HasWords next id now) (sym is.0)
        (subst (λ (x : Object). HasWords next number x) (sym is.1) new_words)
    by_case (inr was) =
        let w = formed.parts.words q was.0 was.1 in
        (w.0, makes.words q ∙ at_other q number _ (words_of m q) (earlier q was.0 was.1) ∙ w.1, w.2 ∙ sym was.2.words)

  queue_now : (q : ObjId) (now : Object) → object_of next q ≡ Some now → (threads : List ObjId) × (queue_of next q ≡ Some threads)
  queue_now q now e = by_case (before q now e) where
    by_case :
        ((q ≡ number) × (now ≡ object)) ⊎ ((old : Object) × (object_of m q ≡ Some old) × IsLike now old)
        → (threads : List ObjId) × (queue_of next q ≡ Some threads)
    by_case (inl is) =
        ([], ap (queue_of next) is.0 ∙ makes.queues number ∙ at_itself number (Some []) (queue_of m number))
    by_case (inr was) = let w = formed.parts.queue q was.0 was.1 in (w.0, queue_stays q w.0 w.1)

  queued_object : (q : ObjId) (threads : List ObjId) → queue_of next q ≡ Some threads → (now : Object) × (object_of next q ≡ Some now)
  queued_object q threads e = by_case (queue_was q threads e) where
    by_case :
        ((q ≡ number) × (threads ≡ [])) ⊎ (queue_of m q ≡ Some threads) → (now : Object) × (object_of next q ≡ Some now)
    by_case (inl is) = (object, ap (object_of next) is.0 ∙ new_there)
    by_case (inr was) =
        let w = formed.parts.queue_of_object q threads was in let now = after q w.0 w.1 in (now.0, now.1)

  worded_object : (q : ObjId) (words : List ℕ) → words_of next q ≡ Some words → (now : Object) × (object_of next q ≡ Some now)
  worded_object q words e = by_id (one_or_two q number) where
    by_id : (q ≡ number) ⊎ (q ≢ number) → (now : Object) × (object_of next q ≡ Some now)
    by_id (inl is) = (object, ap (object_of next) is ∙ new_there)
    by_id (inr fresh) =
        let w =
        formed.parts.words_of_object q words (sym (makes.words q ∙ at_other q number _ (words_of m q) fresh) ∙ e) in
        let now = after q w.0 w.1 in
        (now.0, now.1)

  parts_made : PartsFit next
  parts_made = record { queue = queue_now; words = words_now; queue_of_object = queued_object; words_of_object = worded_object }

  -- the links

  pub linked_stays :
      (q : ObjId) (other : Object) → ((u : Untyped) → other ≢ o.Untyped u) → object_of m q ≡ Some other
      → object_of next q ≡ Some other
  linked_stays q other typed e = by_id (one_or_two q source.id) where
    by_id : (q ≡ source.id) ⊎ (q ≢ source.id) → object_of next q ≡ Some other
    by_id (inl here) = absurd (typed (marked source.memory can.was) (memory_was other (ap (object_of m) (sym here) ∙ e)))
    by_id (inr apart) = elsewhere q (earlier q other e) apart ∙ e

  linked_was :
      (q : ObjId) (other : Object) → ((u : Untyped) → other ≢ o.Untyped u) → object_of next q ≡ Some other
      → IsUnlinked other ⊎ (object_of m q ≡ Some other)
  linked_was q other typed e = by_id (one_or_two q number) (one_or_two q source.id) where
    by_id :
        (q ≡ number) ⊎ (q ≢ number) → (q ≡ source.id) ⊎ (q ≢ source.id) → IsUnlinked other ⊎ (object_of m q ≡ Some other)
    by_id (inl is) at =
        let same : Some object ≡ Some other = sym new_there ∙ ap (object_of next) (sym is) ∙ e in
        let one : object ≡ other = cc in
        inl (subst IsUnlinked one can.unlinked)
    by_id (inr fresh) (inl here) =
        let same : Some other ≡ Some (o.Untyped (marked source.memory mark)) =
        sym e ∙ ap (object_of next) here ∙ memory_there in
        absurd (typed (marked source.memory mark) cc)
    by_id (inr fresh) (inr apart) = inr (sym (elsewhere q fresh apart) ∙ e)

  -- a thread with links isn't the new object
  thread_was : (q : ObjId) (tcb : Tcb) → IsThread next q tcb → ¬ (IsUnlinked (o.Tcb tcb)) → IsThread m q tcb
  thread_was q tcb e linked = by_case (linked_was q (o.Tcb tcb) (λ u same. cc) e) where
    by_case : IsUnlinked (o.Tcb tcb) ⊎ IsThread m q tcb → IsThread m q tcb
    by_case (inl none) = absurd (linked none)
    by_case (inr was) = was

  thread_stays : (q : ObjId) (tcb : Tcb) → IsThread m q tcb → IsThread next q tcb
  thread_stays q tcb = linked_stays q (o.Tcb tcb) (λ u same. cc)

  waits_linked : (tcb : Tcb) (q : ObjId) → WaitsAt tcb.state q → ¬ (IsUnlinked (o.Tcb tcb))
  waits_linked tcb q waits none = subst (λ (run : RunState). WaitsAt run q) none.0 waits

  receives_linked : (tcb : Tcb) (q : ObjId) → IsReceivingWith tcb.state q → ¬ (IsUnlinked (o.Tcb tcb))
  receives_linked tcb q receives none = subst (λ (run : RunState). IsReceivingWith run q) none.0 receives

  called_linked : (tcb : Tcb) (q : ObjId) → IsCallingThrough tcb.state q → ¬ (IsUnlinked (o.Tcb tcb))
  called_linked tcb q called none = subst (λ (run : RunState). IsCallingThrough run q) none.0 called

  runs_linked : (tcb : Tcb) (q : ObjId) → tcb.context ≡ Some q → ¬ (IsUnlinked (o.Tcb tcb))
  runs_linked tcb q runs none = let two : None ≡ Some q = sym none.1 ∙ runs in cc

  queued_now :
      (q : ObjId) (threads : List ObjId) (thread : ObjId) → queue_of next q ≡ Some threads → Contains threads thread
      → (tcb : Tcb) × (at : ObjectKind) × IsThread next thread tcb × WaitsAt tcb.state q × (kind_of next q ≡ Some at)
      × WaitsAtKind tcb.state at
  queued_now q threads thread e within = by_case (queue_was q threads e) where
    by_case :
        ((q ≡ number) × (threads ≡ [])) ⊎ (queue_of m q ≡ Some threads)
        → (tcb : Tcb) × (at : ObjectKind) × IsThread next thread tcb × WaitsAt tcb.state q × (kind_of next q ≡ Some at)
        × WaitsAtKind tcb.state at
    by_case (inl is) = absurd (nobody_in threads thread is.1 within)
    by_case (inr was) =
        let w = formed.links.queued q threads thread was within in
        (w.0, w.1, thread_stays thread w.0 w.2, w.3, kind_stays q w.1 w.4, w.5)

  once_now : (q : ObjId) (threads : List ObjId) → queue_of next q ≡ Some threads → AllPairs (λ a b. a ≢ b) threads
  once_now q threads e = by_case (queue_was q threads e) where
    by_case : ((q ≡ number) × (threads ≡ [])) ⊎ (queue_of m q ≡ Some threads) → AllPairs (λ a b. a ≢ b) threads
    by_case (inl is) = nobody_twice threads is.1
    by_case (inr was) = formed.links.once q threads was

  -- who is in a queue isn't the new object
  waiter_was :
      (q a : ObjId) (threads : List ObjId) (tcb : Tcb) → queue_of m q ≡ Some threads → Contains threads a → IsThread next a tcb
      → IsThread m a tcb
  waiter_was q a threads tcb was within e =
      let w = formed.links.queued q threads a was within in
      let now : Some (o.Tcb w.0) ≡ Some (o.Tcb tcb) = sym (thread_stays a w.0 w.2) ∙ e in
      w.2 ∙ now

  one_way_now :
      (q a b : ObjId) (threads : List ObjId) (first second : Tcb) → queue_of next q ≡ Some threads → Contains threads a
      → Contains threads b → IsThread next a first → IsThread next b second → IsSending first.state
      → kind_of next q ≡ Some kind.Endpoint → IsSending second.state
  one_way_now q a b threads first second e in_a in_b is_a is_b sends at = by_case (queue_was q threads e) where
    by_case : ((q ≡ number) × (threads ≡ [])) ⊎ (queue_of m q ≡ Some threads) → IsSending second.state
    by_case (inl is) = absurd (nobody_in threads a is.1 in_a)
    by_case (inr was) =
        let there = formed.parts.queue_of_object q threads was in
        formed.links.one_way q a b threads first second was in_a in_b (waiter_was q a threads first was in_a is_a)
        (waiter_was q b threads second was in_b is_b) sends (kind_was q there.0 kind.Endpoint there.1 at)

  -- a reply or a context with a link isn't the new object

  reply_was :
      (q : ObjId) (answers : Object) → ((u : Untyped) → answers ≢ o.Untyped u) → ¬ (IsUnlinked answers)
      → object_of next q ≡ Some answers → object_of m q ≡ Some answers
  reply_was q answers typed linked e = by_case (linked_was q answers typed e) where
    by_case : IsUnlinked answers ⊎ (object_of m q ≡ Some answers) → object_of m q ≡ Some answers
    by_case (inl none) = absurd (linked none)
    by_case (inr was) = was

  links_made : LinksAgree next
  links_made =
      record {
        queued = queued_now;
        waiting =
            λ thread q tcb e waits.
            let w = formed.links.waiting thread q tcb (thread_was thread tcb e (waits_linked tcb q waits)) waits in
            (w.0, queue_stays q w.0 w.1, w.2);
        once = once_now;
        one_way = one_way_now;
        receiver_reply =
            λ thread q tcb e receives.
            let w = formed.links.receiver_reply thread q tcb (thread_was thread tcb e (receives_linked tcb q receives)) receives in
            (w.0, linked_stays q _ (λ u same. cc) w.1);
        called_reply =
            λ thread q tcb e called.
            let w = formed.links.called_reply thread q tcb (thread_was thread tcb e (called_linked tcb q called)) called in
            (w.0, linked_stays q _ (λ u same. cc) w.1);
        waiting_reply =
            λ q thread address e.
            let w = formed.links.waiting_reply q thread address (reply_was q _ (λ u same. cc) (λ free. cc) e) in
            (w.0, thread_stays thread w.0 w.1, w.2);
        reply_called =
            λ q thread address e.
            let w = formed.links.reply_called q thread address (reply_was q _ (λ u same. cc) (λ free. cc) e) in
            (w.0, thread_stays thread w.0 w.1, w.2);
        thread_context =
            λ thread q tcb e runs.
            let w = formed.links.thread_context thread q tcb (thread_was thread tcb e (runs_linked tcb q runs)) runs in
            (w.0, linked_stays q _ (λ u same. cc) w.1, w.2);
        context_thread =
            λ q thread context e runs.
            let linked : ¬ (IsUnlinked (o.Context context)) = λ none. let two : None ≡ Some thread = sym none ∙ runs in cc in
            let w = formed.links.context_thread q thread context (reply_was q _ (λ u same. cc) linked e) runs in
            (w.0, thread_stays thread w.0 w.1, w.2);
      }

  -- the numbers and ranges

  -- no object with a higher number than the memory meets the new object
  beyond : (q : ObjId) (other : Object) → object_of m q ≡ Some other → source.id.0 < q.0 → ¬ (Meets other object)
  beyond q other e later meets =
      let within : Meets (o.Untyped source.memory) other =
      (omega (arith, can.low, meets.1), omega (arith, can.high, can.within, meets.0)) in
      let apart : end_of other ≤ address_of object = can.free q other e later within in
      omega (arith, apart, meets.1)

  -- an object with a lower number that meets the new object meets the memory
  around : (other : Object) → Meets other object → Meets other (o.Untyped (marked source.memory can.was))
  around other meets = (omega (arith, can.high, can.within, meets.0), omega (arith, can.low, meets.1))

  -- each old capability is for an old object
  names_old : (q : SlotRef) (cap : Cap) → cap_of m q ≡ Some cap → cap.object ≢ number
  names_old q cap e =
      let was = of_kind m cap.object (kind_of_detail cap.detail) (formed.slots.object q cap e) in earlier cap.object was.0 was.1

  -- each capability for an old object is an old one
  cap_for_old : (q : SlotRef) (cap : Cap) → cap.object ≢ number → cap_of next q ≡ Some cap → cap_of m q ≡ Some cap
  cap_for_old q cap old e = by_case (cap_was fills q cap e) where
    by_case : ((q ≡ slot) × (cap ≡ new)) ⊎ (cap_of m q ≡ Some cap) → cap_of m q ≡ Some cap
    by_case (inl is) = absurd (old (ap (λ (c : Cap). c.object) is.1))
    by_case (inr was) = was

  -- each capability for the new object is the new one
  cap_for_new : (q : SlotRef) (cap : Cap) → cap.object ≡ number → cap_of next q ≡ Some cap → q ≡ slot
  cap_for_new q cap is e = by_case (cap_was fills q cap e) where
    by_case : ((q ≡ slot) × (cap ≡ new)) ⊎ (cap_of m q ≡ Some cap) → q ≡ slot
    by_case (inl same) = same.0
    by_case (inr was) = absurd (names_old q cap was is)

  one_now :
      (a b : SlotRef) (first second : Cap) → cap_of next a ≡ Some first → cap_of next b ≡ Some second
      → first.object ≡ second.object → kind_of_detail first.detail ≡ kind.Untyped → a ≡ b
  one_now a b first second e f same untyped = by_id (one_or_two first.object number) where
    by_id : (first.object ≡ number) ⊎ (first.object ≢ number) → a ≡ b
    by_id (inl is) = cap_for_new a first is e ∙ sym (cap_for_new b second (sym same ∙ is) f)
    by_id (inr old) =
        formed.numbers.one_cap a b first second (cap_for_old a first old e)
        (cap_for_old b second (λ is. old (same ∙ is)) f) same untyped

  abbrev Holds : Machine → ObjId → Object → Object → Type 0
  Holds n low first second =
      (memory : Untyped) × (at : SlotRef) × (held : Cap) × (first ≡ o.Untyped memory) × (cap_of n at ≡ Some held)
      × (held.object ≡ low) × LiesIn memory second × (end_of second ≤ memory.watermark)

  holds_new : (low : ObjId) (first : Object) → object_of next low ≡ Some first → low.0 < m.next → Meets first object → Holds next low first object
  holds_new low first e less meets = by_order (in_order low source.id) where
    fresh : low ≢ number
    fresh is = let same : low.0 ≡ m.next = ap (λ (id : ObjId). id.0) is in omega (arith, less, same)

    by_order : (low ≡ source.id) ⊎ ((low.0 < source.id.0) ⊎ (source.id.0 < low.0)) → Holds next low first object
    by_order (inl here) =
        let same : Some first ≡ Some (o.Untyped (marked source.memory mark)) =
        sym e ∙ ap (object_of next) here ∙ memory_there in (
          marked source.memory mark,
          source.slot,
          can.held,
          cc,
          cap_stays fills source.slot can.held can.holds,
          can.held_object ∙ sym here,
          new_lies,
          can.high,
        )
    by_order (inr (inl lower)) =
        let apart : low ≢ source.id =
        λ is. let same : low.0 ≡ source.id.0 = ap (λ (id : ObjId). id.0) is in omega (arith, lower, same) in
        let was : object_of m low ≡ Some first = sym (elsewhere low fresh apart) ∙ e in
        let w = formed.numbers.inside low source.id first _ lower was can.there (around first meets) in
        let range = range_within w.0 (marked source.memory can.was) w.6 in
        let base : w.0.base ≤ source.memory.base = range.0 in
        let end : end_of (o.Untyped source.memory) ≤ end_of (o.Untyped w.0) = range.1 in
        let below : end_of (o.Untyped source.memory) ≤ w.0.watermark = w.7 in
        let low_in : w.0.base ≤ address_of object = omega (arith, base, can.low) in
        let high_in : end_of object ≤ end_of (o.Untyped w.0) = omega (arith, can.high, can.within, end) in
        let high_below : end_of object ≤ w.0.watermark = omega (arith, can.high, can.within, below) in (
          w.0,
          w.1,
          w.2,
          w.3,
          cap_stays fills w.1 w.2 w.4,
          w.5,
          lies_within w.0 object can.unlinked low_in high_in,
          high_below,
        )
    by_order (inr (inr later)) =
        let apart : low ≢ source.id =
        λ is. let same : low.0 ≡ source.id.0 = ap (λ (id : ObjId). id.0) is in omega (arith, later, same) in
        absurd (beyond low first (sym (elsewhere low fresh apart) ∙ e) later meets)

  meets_was : (first second a b : Object) → IsLike first a → IsLike second b → Meets first second → Meets a b
  meets_was first second a b one two meets =
      (omega (arith, one.address, two.end, meets.0), omega (arith, two.address, one.end, meets.1))

  holds_old :
      (low high : ObjId) (first second a b : Object) → low.0 < high.0 → object_of next low ≡ Some first → object_of m low ≡ Some a
      → object_of m high ≡ Some b
      → IsLike first a → IsLike second b → Meets first second → Holds next low first second
  holds_old low high first second a b less e was_a was_b one two meets =
      by_id (one_or_two low source.id) (meets_was first second a b one two meets)
      (formed.numbers.inside low high a b less was_a was_b (meets_was first second a b one two meets)) where
        by_id : (low ≡ source.id) ⊎ (low ≢ source.id) → Meets a b → Holds m low a b → Holds next low first second
        by_id (inl here) meet w =
            let same : Some first ≡ Some (o.Untyped (marked source.memory mark)) =
            sym e ∙ ap (object_of next) here ∙ memory_there in
            let is : a ≡ o.Untyped (marked source.memory can.was) = memory_was a (ap (object_of m) (sym here) ∙ was_a) in
            let later : source.id.0 < high.0 = subst (λ (id : ObjId). id.0 < high.0) here less in
            let there : Meets (o.Untyped source.memory) b = subst (λ (x : Object). Meets x b) is meet in
            let apart : end_of b ≤ address_of object = can.free high b was_b later there in
            let rises : address_of object ≤ end_of object = omega arith in
            let ends : end_of second ≡ end_of b = two.end in
            let below : end_of second ≤ mark = omega (arith, can.high, apart, rises, ends) in
            let of : o.Untyped w.0 ≡ o.Untyped (marked source.memory can.was) = sym w.3 ∙ is in
            let memory : w.0 ≡ marked source.memory can.was = cc in
            let lies : LiesIn (marked source.memory can.was) second =
            subst (λ (u : Untyped). LiesIn u second) memory (two.lies w.0 w.6) in (
              marked source.memory mark,
              w.1,
              w.2,
              cc,
              cap_stays fills w.1 w.2 w.4,
              w.5,
              lies_marked (marked source.memory can.was) mark second lies,
              below,
            )
        by_id (inr apart) meet w =
            let same : Some first ≡ Some a = sym e ∙ elsewhere low (earlier low a was_a) apart ∙ was_a in
            let is : first ≡ a = cc in
            let ends : end_of second ≡ end_of b = two.end in
            let below : end_of b ≤ w.0.watermark = w.7 in
            let end_below : end_of second ≤ w.0.watermark = omega (arith, ends, below) in
            (w.0, w.1, w.2, is ∙ w.3, cap_stays fills w.1 w.2 w.4, w.5, two.lies w.0 w.6, end_below)

  -- the first of two objects that meet was there, and the second was there or is new
  abbrev Pair : ObjId → ObjId → Object → Object → Type 0
  Pair low high first second =
      (a : Object) × (object_of m low ≡ Some a) × IsLike first a
      × (((high ≡ number) × (second ≡ object)) ⊎ ((b : Object) × (object_of m high ≡ Some b) × IsLike second b))

  pair_was :
      (low high : ObjId) (first second : Object) → low.0 < high.0 → object_of next low ≡ Some first
      → object_of next high ≡ Some second → Pair low high first second
  pair_was low high first second less e f = by_first (before low first e) (before high second f) where
    by_first :
        ((low ≡ number) × (first ≡ object)) ⊎ ((a : Object) × (object_of m low ≡ Some a) × IsLike first a)
        → ((high ≡ number) × (second ≡ object)) ⊎ ((b : Object) × (object_of m high ≡ Some b) × IsLike second b)
        → Pair low high first second
    by_first (inr was) other = (was.0, was.1, was.2, other)
    by_first (inl is) (inl same) =
        let one : low.0 ≡ m.next = ap (λ (id : ObjId). id.0) is.0 in
        let two : high.0 ≡ m.next = ap (λ (id : ObjId). id.0) same.0 in
        absurd (omega (arith, less, one, two))
    by_first (inl is) (inr was) =
        let one : low.0 ≡ m.next = ap (λ (id : ObjId). id.0) is.0 in
        let two : high.0 < m.next = formed.numbers.below_next high was.0 was.1 in
        absurd (omega (arith, less, one, two))

  new_meets : (first second : Object) → second ≡ object → Meets first second → Meets first object
  new_meets first second is meets = subst (λ (x : Object). Meets first x) is meets

  inside_now :
      (low high : ObjId) (first second : Object) → low.0 < high.0 → object_of next low ≡ Some first
      → object_of next high ≡ Some second → Meets first second → Holds next low first second
  inside_now low high first second less e f meets = by_second (pair.3) where
    pair : Pair low high first second
    pair = pair_was low high first second less e f

    by_second :
        ((high ≡ number) × (second ≡ object)) ⊎ ((b : Object) × (object_of m high ≡ Some b) × IsLike second b)
        → Holds next low first second
    by_second (inl is) =
        let below : low.0 < m.next = formed.numbers.below_next low pair.0 pair.1 in
        subst (λ (x : Object). Holds next low first x) (sym is.1)
        (holds_new low first e below (new_meets first second is.1 meets))
    by_second (inr was) = holds_old low high first second pair.0 was.0 less e pair.1 was.1 pair.2 was.2 meets

  -- the memory's capability descends from that of the memory around it, or is that capability
  new_descends :
      (low : ObjId) (first : Object) (above : SlotRef) (over : Cap) → object_of m low ≡ Some first → Meets first object
      → cap_of m above ≡ Some over → over.object ≡ low → Descends next slot above
  new_descends low first above over e meets h covers = by_order (in_order low source.id) where
    under : parent_of next slot ≡ Some source.slot
    under = parent_here fills

    untyped : kind_of_detail can.held.detail ≡ kind.Untyped
    untyped =
        let kinds : Some (kind_of_detail can.held.detail) ≡ Some kind.Untyped =
        sym (formed.slots.object source.slot can.held can.holds)
        ∙ ap (λ (id : ObjId). kind_of m id) can.held_object ∙ ap (option_map kind_of_object) can.there in
        cc

    by_order : (low ≡ source.id) ⊎ ((low.0 < source.id.0) ⊎ (source.id.0 < low.0)) → Descends next slot above
    by_order (inl here) =
        let one : source.slot ≡ above =
        formed.numbers.one_cap source.slot above can.held over can.holds h (can.held_object ∙ sym here ∙ sym covers) untyped in
        child (under ∙ ap (λ (s : SlotRef). Some s) one)
    by_order (inr (inl lower)) =
        further under
        (descent_stays fills
        (formed.numbers.made_from low source.id first _ source.slot above can.held over lower e can.there (around first meets)
        can.holds can.held_object h covers))
    by_order (inr (inr later)) = absurd (beyond low first e later meets)

  made_from_now :
      (low high : ObjId) (first second : Object) (at above : SlotRef) (held over : Cap) → low.0 < high.0
      → object_of next low ≡ Some first → object_of next high ≡ Some second → Meets first second
      → cap_of next at ≡ Some held → held.object ≡ high → cap_of next above ≡ Some over → over.object ≡ low → Descends next at above
  made_from_now low high first second at above held over less e f meets g names h covers = by_second (pair.3) where
    pair : Pair low high first second
    pair = pair_was low high first second less e f

    over_was : cap_of m above ≡ Some over
    over_was = cap_for_old above over (λ is. earlier low pair.0 pair.1 (sym covers ∙ is)) h

    by_second :
        ((high ≡ number) × (second ≡ object)) ⊎ ((b : Object) × (object_of m high ≡ Some b) × IsLike second b)
        → Descends next at above
    by_second (inl is) =
        subst (λ (s : SlotRef). Descends next s above) (sym (cap_for_new at held (names ∙ is.0) g))
        (new_descends low pair.0 above over pair.1
        (meets_was first object pair.0 object pair.2 (like_itself object) (new_meets first second is.1 meets)) over_was covers)
    by_second (inr was) =
        descent_stays fills
        (formed.numbers.made_from low high pair.0 was.0 at above held over less pair.1 was.1
        (meets_was first second pair.0 was.0 pair.2 was.2 meets)
        (cap_for_old at held (λ is. earlier high was.0 was.1 (sym names ∙ is)) g) names over_was covers)

  has_cap_now :
      (low high : ObjId) (first second : Object) → low.0 < high.0 → object_of next low ≡ Some first
      → object_of next high ≡ Some second → Meets first second
      → (at : SlotRef) × (held : Cap) × (cap_of next at ≡ Some held) × (held.object ≡ high)
  has_cap_now low high first second less e f meets = by_second (pair.3) where
    pair : Pair low high first second
    pair = pair_was low high first second less e f

    by_second :
        ((high ≡ number) × (second ≡ object)) ⊎ ((b : Object) × (object_of m high ≡ Some b) × IsLike second b)
        → (at : SlotRef) × (held : Cap) × (cap_of next at ≡ Some held) × (held.object ≡ high)
    by_second (inl is) = (slot, new, cap_here fills, sym is.0)
    by_second (inr was) =
        let w =
        formed.numbers.has_cap low high pair.0 was.0 less pair.1 was.1
        (meets_was first second pair.0 was.0 pair.2 was.2 meets) in
        (w.0, w.1, cap_stays fills w.0 w.1 w.2, w.3)

  below_now : (q : ObjId) (now : Object) → object_of next q ≡ Some now → q.0 < next.next
  below_now q now e = by_case (before q now e) where
    by_case : ((q ≡ number) × (now ≡ object)) ⊎ ((old : Object) × (object_of m q ≡ Some old) × IsLike now old) → q.0 < next.next
    by_case (inl is) = let same : q.0 ≡ m.next = ap (λ (id : ObjId). id.0) is.0 in omega (arith, same, makes.number)
    by_case (inr was) = let less : q.0 < m.next = formed.numbers.below_next q was.0 was.1 in omega (arith, less, makes.number)

  ranged_now : (q : ObjId) (now : Object) → object_of next q ≡ Some now → IsRanged now
  ranged_now q now e = by_case (before q now e) where
    by_case : ((q ≡ number) × (now ≡ object)) ⊎ ((old : Object) × (object_of m q ≡ Some old) × IsLike now old) → IsRanged now
    by_case (inl is) = subst (λ (x : Object). IsRanged x) (sym is.1) can.ranged
    by_case (inr was) = was.2.ranged (formed.numbers.ranged q was.0 was.1)

  abbrev IsMarked : Untyped → Type 0
  IsMarked memory = (memory.base ≤ memory.watermark) × (memory.watermark ≤ end_of (o.Untyped memory))

  marks_now : (q : ObjId) (memory : Untyped) → object_of next q ≡ Some (o.Untyped memory) → IsMarked memory
  marks_now q memory e = by_id (one_or_two q number) (one_or_two q source.id) where
    by_id : (q ≡ number) ⊎ (q ≢ number) → (q ≡ source.id) ⊎ (q ≢ source.id) → IsMarked memory
    by_id (inl is) at =
        let same : Some object ≡ Some (o.Untyped memory) = sym new_there ∙ ap (object_of next) (sym is) ∙ e in
        let one : object ≡ o.Untyped memory = cc in
        let unused : memory.watermark ≡ memory.base = subst IsUnlinked one can.unlinked in
        (omega (arith, unused), omega (arith, unused))
    by_id (inr fresh) (inl here) =
        let same : Some (o.Untyped (marked source.memory mark)) ≡ Some (o.Untyped memory) =
        sym memory_there ∙ ap (object_of next) (sym here) ∙ e in
        let one : marked source.memory mark ≡ memory = cc in
        let rises : address_of object ≤ end_of object = omega arith in
        let low : source.memory.base ≤ mark = omega (arith, can.low, can.high, rises) in
        subst IsMarked one (low, can.within)
    by_id (inr fresh) (inr apart) = formed.numbers.watermark q memory (sym (elsewhere q fresh apart) ∙ e)

  numbers_made : NumbersFit next
  numbers_made =
      record {
        below_next = below_now;
        ranged = ranged_now;
        one_cap = one_now;
        watermark = marks_now;
        inside = inside_now;
        made_from = made_from_now;
        has_cap = has_cap_now;
      }

  pub made_formed : IsWellFormed next
  made_formed = record { slots = slots_made; parts = parts_made; links = links_made; numbers = numbers_made; settled = makes.going ∙ formed.settled }
