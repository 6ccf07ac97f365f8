-- That slots, numbers and ranges still fit if objects keep their kinds, sizes and addresses, and slots are as they were.
use Rattle.std.{specs.Prelude.{Bool, List, None, Option, Some, cond, false, is_some, length, option_map, true}, proofs.Common.{◌<◌, ◌∙◌}}
use Rattle.std.proofs.{Common.{◌≡◌, ◌≤◌, ◌⊎◌, ap, arith, inl, inr, refl, subst, sym}, lemmas.Option.{none-some, same_Some}}
use Rattle.base.specs.declared.ids.{ObjId.ObjId, SlotRef.SlotRef}
use Rattle.machine.specs.declared.{cap.Cap.Cap, object.{Object.{Object, Object as o}, ReplyState.ReplyState as reply, Untyped.Untyped}}
use Rattle.machine.specs.declared.thread.Inbox.TheVariants as inbox
use Rattle.machine.specs.declared.thread.RunState.TheVariants as state
use Rattle.machine.specs.{Machine.{Machine, cap_of, object_of, parent_of, queue_of, same_id, with_object, words_of}, Objects.address_of}
use Rattle.machine.specs.{Objects.{end_of, kind_of_object, slot_count, word_count}, WellFormed.{Descends, IsRanged, IsWellFormed, LiesIn}}
use Rattle.machine.{specs.WellFormed.{LinksAgree, Meets, NumbersFit, PartsFit, SlotsFit, kind_of}, proofs.LookUps.cap_of-with_object}
use Rattle.machine.proofs.LookUps.{going-with_object, number_of-with_object, object_of-with_object, one_id, parent_of-with_object}
use Rattle.machine.proofs.LookUps.{queue_of-with_object, words_of-with_object}

-- an object without what threads, notifications, replies and contexts hold at the time
abbrev pub outline : Object → Object
outline (o.Tcb thread) = o.Tcb (record { address = thread.address; state = state.Inactive; inbox = inbox.Empty; context = None })
outline (o.Notification notification) = o.Notification (record notification { pending = None })
outline (o.Reply answers) = o.Reply (record answers { state = reply.Free })
outline (o.Context context) = o.Context (record context { share = None; thread = None })
outline object = object

-- objects keep their outlines, queues stay where they are, words keep their number, and slots are as they were
pub record Steady (m next : Machine) : Type 0 where
  pub outlines : (q : ObjId) → option_map outline (object_of next q) ≡ option_map outline (object_of m q)
  pub queues : (q : ObjId) → is_some (queue_of next q) ≡ is_some (queue_of m q)
  pub words : (q : ObjId) → option_map length (words_of next q) ≡ option_map length (words_of m q)
  pub caps : (slot : SlotRef) → cap_of next slot ≡ cap_of m slot
  pub parents : (slot : SlotRef) → parent_of next slot ≡ parent_of m slot
  pub number : next.next ≡ m.next
  pub going : next.going ≡ m.going

-- something is there if something that shows the same was
pub shown_there :
    {X Y : Type 0} (show : X → Y) (here other : Option X) (x : X) → option_map show here ≡ option_map show other
    → other ≡ Some x → (y : X) × (here ≡ Some y) × (show y ≡ show x)
shown_there show None other x e is = absurd (none-some (show x) (e ∙ ap (option_map show) is))
shown_there show (Some y) other x e is = (y, refl, same_Some (show y) (show x) (e ∙ ap (option_map show) is))

-- one entry gets new contents that show the same
pub shown_kept :
    {X Y : Type 0} (show : X → Y) (look : ObjId → Option X) (id : ObjId) (old new : X) → look id ≡ Some old
    → show new ≡ show old → (q : ObjId)
    → option_map show (cond (same_id q id) (Some new) (look q)) ≡ option_map show (look q)
shown_kept show look id old new was same q = by_tie (same_id q id) refl where
  by_tie : (tie : Bool) → same_id q id ≡ tie → option_map show (cond tie (Some new) (look q)) ≡ option_map show (look q)
  by_tie true e =
      ap (λ x. Some x) same ∙ sym (ap (option_map show) was) ∙ ap (λ p. option_map show (look p)) (sym (one_id q id e))
  by_tie false e = refl

-- an object gets new contents with the same outline
pub object_steady :
    (m : Machine) (id : ObjId) (old new : Object) → object_of m id ≡ Some old → outline new ≡ outline old
    → Steady m (with_object m id new)
object_steady m id old new was same =
    record {
      outlines =
          λ q.
          ap (option_map outline) (object_of-with_object m id new q)
          ∙ shown_kept outline (object_of m) id old new was same q;
      queues = λ q. ap is_some (queue_of-with_object m id new q);
      words = λ q. ap (option_map length) (words_of-with_object m id new q);
      caps = cap_of-with_object m id new;
      parents = parent_of-with_object m id new;
      number = number_of-with_object m id new;
      going = going-with_object m id new;
    }

pub steady_steady : (m mid next : Machine) → Steady m mid → Steady mid next → Steady m next
steady_steady m mid next one two =
    record {
      outlines = λ q. two.outlines q ∙ one.outlines q;
      queues = λ q. two.queues q ∙ one.queues q;
      words = λ q. two.words q ∙ one.words q;
      caps = λ slot. two.caps slot ∙ one.caps slot;
      parents = λ slot. two.parents slot ∙ one.parents slot;
      number = two.number ∙ one.number;
      going = two.going ∙ one.going;
    }

kind_in : (object : Object) → kind_of_object (outline object) ≡ kind_of_object object
kind_in (o.Tcb thread) = refl
kind_in (o.Notification notification) = refl
kind_in (o.Reply answers) = refl
kind_in (o.Context context) = refl
kind_in _ = refl

slots_in : (object : Object) → slot_count (outline object) ≡ slot_count object
slots_in (o.Tcb thread) = refl
slots_in (o.Notification notification) = refl
slots_in (o.Reply answers) = refl
slots_in (o.Context context) = refl
slots_in _ = refl

address_in : (object : Object) → address_of (outline object) ≡ address_of object
address_in (o.Tcb thread) = refl
address_in (o.Notification notification) = refl
address_in (o.Reply answers) = refl
address_in (o.Context context) = refl
address_in _ = refl

end_in : (object : Object) → end_of (outline object) ≡ end_of object
end_in (o.Tcb thread) = refl
end_in (o.Notification notification) = refl
end_in (o.Reply answers) = refl
end_in (o.Context context) = refl
end_in _ = refl

untyped_in : (object : Object) (memory : Untyped) → outline object ≡ o.Untyped memory → object ≡ o.Untyped memory
untyped_in (o.Tcb thread) memory e = cc
untyped_in (o.Notification notification) memory e = cc
untyped_in (o.Reply answers) memory e = cc
untyped_in (o.Context context) memory e = cc
untyped_in _ memory e = e

ranged_out : (object : Object) → IsRanged object → IsRanged (outline object)
ranged_out (o.Tcb thread) h = h
ranged_out (o.Notification notification) h = h
ranged_out (o.Reply answers) h = h
ranged_out (o.Context context) h = h
ranged_out _ h = h

ranged_in : (object : Object) → IsRanged (outline object) → IsRanged object
ranged_in (o.Tcb thread) h = h
ranged_in (o.Notification notification) h = h
ranged_in (o.Reply answers) h = h
ranged_in (o.Context context) h = h
ranged_in _ h = h

lies_out : (memory : Untyped) (object : Object) → LiesIn memory object → LiesIn memory (outline object)
lies_out memory (o.Tcb thread) h = h
lies_out memory (o.Notification notification) h = h
lies_out memory (o.Reply answers) h = h
lies_out memory (o.Context context) h = h
lies_out memory _ h = h

lies_in : (memory : Untyped) (object : Object) → LiesIn memory (outline object) → LiesIn memory object
lies_in memory (o.Tcb thread) h = h
lies_in memory (o.Notification notification) h = h
lies_in memory (o.Reply answers) h = h
lies_in memory (o.Context context) h = h
lies_in memory _ h = h

lies_alike : (memory : Untyped) (a b : Object) → outline a ≡ outline b → LiesIn memory a → LiesIn memory b
lies_alike memory a b e h = lies_in memory b (subst (λ (object : Object). LiesIn memory object) e (lies_out memory a h))

words_in : (object : Object) → word_count (outline object) ≡ word_count object
words_in (o.Tcb thread) = refl
words_in (o.Notification notification) = refl
words_in (o.Reply answers) = refl
words_in (o.Context context) = refl
words_in _ = refl

-- two objects with the same outline show the same
same_in :
    {X : Type 0} (shown : Object → X) → ((object : Object) → shown (outline object) ≡ shown object) → (a b : Object)
    → outline a ≡ outline b → shown a ≡ shown b
same_in shown in_outline a b e = sym (in_outline a) ∙ ap shown e ∙ in_outline b

module _ (m next : Machine) (steady : Steady m next) where
  -- each object was there with the same outline
  pub object_before :
      (q : ObjId) (object : Object) → object_of next q ≡ Some object
      → (old : Object) × (object_of m q ≡ Some old) × (outline old ≡ outline object)
  object_before q object e =
      shown_there outline (object_of m q) (object_of next q) object (sym (steady.outlines q)) e

  pub object_after :
      (q : ObjId) (old : Object) → object_of m q ≡ Some old
      → (object : Object) × (object_of next q ≡ Some object) × (outline object ≡ outline old)
  object_after q old e = shown_there outline (object_of next q) (object_of m q) old (steady.outlines q) e

  pub same_kinds : (q : ObjId) → kind_of next q ≡ kind_of m q
  same_kinds q =
      kind_through (object_of next q) ∙ ap (option_map kind_of_object) (steady.outlines q)
      ∙ sym (kind_through (object_of m q)) where
        kind_through :
            (object : Option Object) → option_map kind_of_object object ≡ option_map kind_of_object (option_map outline object)
        kind_through None = refl
        kind_through (Some object) = ap (λ k. Some k) (sym (kind_in object))

  untyped_after :
      (q : ObjId) (memory : Untyped) → object_of m q ≡ Some (o.Untyped memory) → object_of next q ≡ Some (o.Untyped memory)
  untyped_after q memory e =
      let now = object_after q (o.Untyped memory) e in now.1 ∙ ap (λ object. Some object) (untyped_in now.0 memory now.2)

  untyped_before :
      (q : ObjId) (memory : Untyped) → object_of next q ≡ Some (o.Untyped memory) → object_of m q ≡ Some (o.Untyped memory)
  untyped_before q memory e =
      let was = object_before q (o.Untyped memory) e in was.1 ∙ ap (λ object. Some object) (untyped_in was.0 memory was.2)

  cap_before : (slot : SlotRef) (held : Cap) → cap_of next slot ≡ Some held → cap_of m slot ≡ Some held
  cap_before slot held e = sym (steady.caps slot) ∙ e

  cap_after : (slot : SlotRef) (held : Cap) → cap_of m slot ≡ Some held → cap_of next slot ≡ Some held
  cap_after slot held e = steady.caps slot ∙ e

  descends_before : {slot above : SlotRef} → Descends next slot above → Descends m slot above
  descends_before (Descends.child {slot = slot} e) = Descends.child (sym (steady.parents slot) ∙ e)
  descends_before (Descends.further {slot = slot} e d) = Descends.further (sym (steady.parents slot) ∙ e) (descends_before d)

  descends_after : {slot above : SlotRef} → Descends m slot above → Descends next slot above
  descends_after (Descends.child {slot = slot} e) = Descends.child (steady.parents slot ∙ e)
  descends_after (Descends.further {slot = slot} e d) = Descends.further (steady.parents slot ∙ e) (descends_after d)

  -- a child's object is its parent's, or lies in its parent's untyped memory
  abbrev KinIn : Machine → Cap → Cap → Type 0
  KinIn n below above =
      (below.object ≡ above.object)
      ⊎ ((memory : Untyped) × (made : Object) × (object_of n above.object ≡ Some (o.Untyped memory))
      × (object_of n below.object ≡ Some made) × LiesIn memory made)

  kin_after : (below above : Cap) → KinIn m below above → KinIn next below above
  kin_after below above (inl same) = inl same
  kin_after below above (inr kin) =
      let now = object_after below.object kin.1 kin.3 in
      inr
      (kin.0, now.0, untyped_after above.object kin.0 kin.2, now.1, lies_alike kin.0 kin.1 now.0 (sym now.2) kin.4)

  pub slots_kept : SlotsFit m → SlotsFit next
  slots_kept fits =
      record {
        holder =
            λ slot held e.
            let was = fits.holder slot held (cap_before slot held e) in
            let now = object_after slot.holder was.0 was.1 in
            (now.0, now.1, subst (λ n. slot.index < n) (sym (same_in slot_count slots_in now.0 was.0 now.2)) was.2);
        object = λ slot held e. same_kinds held.object ∙ fits.object slot held (cap_before slot held e);
        root = λ slot held e is. fits.root slot held (cap_before slot held e) (sym (same_kinds slot.holder) ∙ is);
        child_filled =
            λ slot parent e.
            let was = fits.child_filled slot parent (sym (steady.parents slot) ∙ e) in (was.0, cap_after slot was.0 was.1);
        parent_filled =
            λ slot parent e.
            let was = fits.parent_filled slot parent (sym (steady.parents slot) ∙ e) in
            (was.0, cap_after parent was.0 was.1);
        acyclic = λ slot d. fits.acyclic slot (descends_before d);
        kin =
            λ slot parent below above e f g.
            kin_after below above
            (fits.kin slot parent below above (sym (steady.parents slot) ∙ e) (cap_before slot below f)
            (cap_before parent above g));
      }

  queue_there : (q : ObjId) → is_some (queue_of next q) ≡ true → (threads : List ObjId) × (queue_of next q ≡ Some threads)
  queue_there q there = by_queue (queue_of next q) refl where
    by_queue :
        (queue : Option (List ObjId)) → queue_of next q ≡ queue → (threads : List ObjId) × (queue_of next q ≡ Some threads)
    by_queue None e = grind (arith, there, e)
    by_queue (Some threads) e = (threads, e)

  queue_was : (q : ObjId) → is_some (queue_of m q) ≡ true → (threads : List ObjId) × (queue_of m q ≡ Some threads)
  queue_was q there = by_queue (queue_of m q) refl where
    by_queue : (queue : Option (List ObjId)) → queue_of m q ≡ queue → (threads : List ObjId) × (queue_of m q ≡ Some threads)
    by_queue None e = grind (arith, there, e)
    by_queue (Some threads) e = (threads, e)

  pub parts_kept : PartsFit m → PartsFit next
  parts_kept fits =
      record {
        queue =
            λ id object e.
            let was = object_before id object e in
            queue_there id (steady.queues id ∙ ap is_some (fits.queue id was.0 was.1).1);
        words =
            λ id object e.
            let was = object_before id object e in
            let words = fits.words id was.0 was.1 in
            let now = shown_there length (words_of next id) (words_of m id) words.0 (steady.words id) words.1 in
            (now.0, now.1, now.2 ∙ words.2 ∙ same_in word_count words_in was.0 object was.2);
        queue_of_object =
            λ id threads e.
            let queue = queue_was id (sym (steady.queues id) ∙ ap is_some e) in
            let was = fits.queue_of_object id queue.0 queue.1 in
            let now = object_after id was.0 was.1 in
            (now.0, now.1);
        words_of_object =
            λ id words e.
            let before = shown_there length (words_of m id) (words_of next id) words (sym (steady.words id)) e in
            let was = fits.words_of_object id before.0 before.1 in
            let now = object_after id was.0 was.1 in
            (now.0, now.1);
      }

  meets_before :
      (first second : Object) (a b : Object) → outline a ≡ outline first → outline b ≡ outline second → Meets first second
      → Meets a b
  meets_before first second a b e f meets =
      let address_a : address_of a ≡ address_of first = same_in address_of address_in a first e in
      let address_b : address_of b ≡ address_of second = same_in address_of address_in b second f in
      let end_a : end_of a ≡ end_of first = same_in end_of end_in a first e in
      let end_b : end_of b ≡ end_of second = same_in end_of end_in b second f in
      let below_b : address_of a < end_of b =
      subst (λ n. n < end_of b) (sym address_a) (subst (λ n. address_of first < n) (sym end_b) meets.0) in
      let below_a : address_of b < end_of a =
      subst (λ n. n < end_of a) (sym address_b) (subst (λ n. address_of second < n) (sym end_a) meets.1) in
      (below_b, below_a)

  pub numbers_kept : NumbersFit m → NumbersFit next
  numbers_kept fits =
      record {
        below_next =
            λ id object e.
            let was = object_before id object e in
            subst (λ n. id.0 < n) (sym steady.number) (fits.below_next id was.0 was.1);
        ranged =
            λ id object e.
            let was = object_before id object e in
            ranged_in object (subst (λ (x : Object). IsRanged x) was.2 (ranged_out was.0 (fits.ranged id was.0 was.1)));
        one_cap = λ a b first second e f. fits.one_cap a b first second (cap_before a first e) (cap_before b second f);
        watermark = λ id memory e. fits.watermark id memory (untyped_before id memory e);
        inside =
            λ low high first second less e f meets.
            let a = object_before low first e in
            let b = object_before high second f in
            let was = fits.inside low high a.0 b.0 less a.1 b.1 (meets_before first second a.0 b.0 a.2 b.2 meets) in
            let is : first ≡ o.Untyped was.0 = untyped_in first was.0 (sym a.2 ∙ ap outline was.3) in
            let mark : end_of second ≤ was.0.watermark =
            subst (λ n. n ≤ was.0.watermark) (same_in end_of end_in b.0 second b.2) was.7 in
            (was.0, was.1, was.2, is, cap_after was.1 was.2 was.4, was.5, lies_alike was.0 b.0 second b.2 was.6, mark);
        made_from =
            λ low high first second slot above held over less e f meets g names h covers.
            let a = object_before low first e in
            let b = object_before high second f in
            descends_after
            (fits.made_from low high a.0 b.0 slot above held over less a.1 b.1 (meets_before first second a.0 b.0 a.2 b.2 meets)
            (cap_before slot held g) names (cap_before above over h) covers);
        has_cap =
            λ low high first second less e f meets.
            let a = object_before low first e in
            let b = object_before high second f in
            let was = fits.has_cap low high a.0 b.0 less a.1 b.1 (meets_before first second a.0 b.0 a.2 b.2 meets) in
            (was.0, was.1, cap_after was.0 was.1 was.2, was.3);
      }

-- such a change keeps a machine well formed if its links agree
pub steady_formed : (m next : Machine) → Steady m next → LinksAgree next → IsWellFormed m → IsWellFormed next
steady_formed m next steady links formed =
    record {
      slots = slots_kept m next steady formed.slots;
      parts = parts_kept m next steady formed.parts;
      links = links;
      numbers = numbers_kept m next steady formed.numbers;
      settled = steady.going ∙ formed.settled;
    }
