-- The number of capabilities for an object: what each change of a machine makes of it, and that it is 0 exactly where no slot holds one.
use Rattle.std.specs.{Bool.Decides, FinMap.entries, Prelude.{None, Option, Some, if◌then◌else◌}}
use Rattle.std.proofs.Common.{ℕ, ◌+◌, ◌∙◌, ◌≡◌, ◌≢◌, ◌≤◌, Bool, List, ap, arith, cond, false, refl, subst, sym, true}
use Rattle.{std.proofs.lemmas.{Bool.false≢true, List.Sums.count_by-le-length}, base.specs.declared.ids.{ObjId.ObjId, SlotRef.SlotRef}}
use Rattle.machine.specs.{declared.{cap.Cap.Cap, object.Object.Object}, Changes.{with_waiting, without_waiting}}
use Rattle.machine.specs.{Counts.caps_to, Gone.{LosesAll, gone_of, is_for, some_cap}}
use Rattle.machine.specs.Machine.{Machine, cap_of, empty_machine, queue_of, same_id, same_slot, slot_cmp, with_cap, with_new, with_object}
use Rattle.machine.specs.{Machine.{with_parent, with_queue, without_cap, without_parent}, Removal.{cap_after, removed, vanishes}}
use Rattle.machine.proofs.{FiniteLemmas.{by_key, cond_elsewhere, cond_here}, FiniteSums.{sum-empty, sum-insert, sum-nothing, sum-remove}}
use Rattle.machine.proofs.GoneLemmas.{id_itself, losing_decided, some_cap-found, some_cap-from}
use Rattle.machine.proofs.{LookUps.{id_apart, id_total, one_id, slot_apart, slot_total}, RemovalLooks.cap_of-removed}
use Rattle.std.specs.FinMap as map

-- one for a capability of the object, and none for others
abbrev pub one_for : ObjId → Cap → ℕ
one_for id held = cond (same_id held.object id) 1 0

pub one_for_its_own : (held : Cap) → one_for held.object held ≡ 1
one_for_its_own held = cond_here id_total id_apart held.object 1 0

pub none_for_others : (id : ObjId) (held : Cap) → held.object ≢ id → one_for id held ≡ 0
none_for_others id held differs = cond_elsewhere id_total id_apart held.object id 1 0 differs

-- changes that add or remove a capability

pub caps_to-empty : (id : ObjId) → caps_to empty_machine id ≡ 0
unfolding caps_to empty_machine
caps_to-empty id = sum-empty slot_cmp (one_for id)

pub caps_to-with_cap :
    (m : Machine) (slot : SlotRef) (held : Cap) → cap_of m slot ≡ None → (id : ObjId)
    → caps_to (with_cap m slot held) id ≡ caps_to m id + one_for id held
unfolding caps_to with_cap cap_of
caps_to-with_cap m slot held vacant id = sum-insert slot_total slot_apart (one_for id) m.caps slot held vacant

pub caps_to-without_cap :
    (m : Machine) (slot : SlotRef) (held : Cap) → cap_of m slot ≡ Some held → (id : ObjId)
    → caps_to m id ≡ caps_to (without_cap m slot) id + one_for id held
unfolding caps_to without_cap cap_of
caps_to-without_cap m slot held filled id = sum-remove slot_total slot_apart (one_for id) m.caps slot held filled

-- changes that do neither

pub caps_to-with_object : (m : Machine) (changed : ObjId) (object : Object) (id : ObjId) → caps_to (with_object m changed object) id ≡ caps_to m id
unfolding caps_to with_object
caps_to-with_object m changed object id = refl

pub caps_to-with_new : (m : Machine) (object : Object) (id : ObjId) → caps_to (with_new m object) id ≡ caps_to m id
unfolding caps_to with_new
caps_to-with_new m object id = refl

pub caps_to-with_parent : (m : Machine) (slot parent : SlotRef) (id : ObjId) → caps_to (with_parent m slot parent) id ≡ caps_to m id
unfolding caps_to with_parent
caps_to-with_parent m slot parent id = refl

pub caps_to-without_parent : (m : Machine) (slot : SlotRef) (id : ObjId) → caps_to (without_parent m slot) id ≡ caps_to m id
unfolding caps_to without_parent
caps_to-without_parent m slot id = refl

caps_to-with_queue : (m : Machine) (at : ObjId) (threads : List ObjId) (id : ObjId) → caps_to (with_queue m at threads) id ≡ caps_to m id
unfolding caps_to with_queue
caps_to-with_queue m at threads id = refl

pub caps_to-with_waiting : (m : Machine) (at thread id : ObjId) → caps_to (with_waiting m at thread) id ≡ caps_to m id
unfolding with_waiting
caps_to-with_waiting m at thread id = by_queue (queue_of m at) refl where
  by_queue : (o : Option (List ObjId)) → queue_of m at ≡ o → caps_to (with_waiting m at thread) id ≡ caps_to m id
  by_queue None is = rw is refl
  by_queue (Some threads) is = rw is (caps_to-with_queue m at _ id)

pub caps_to-without_waiting : (m : Machine) (at thread id : ObjId) → caps_to (without_waiting m at thread) id ≡ caps_to m id
unfolding without_waiting
caps_to-without_waiting m at thread id = by_queue (queue_of m at) refl where
  by_queue : (o : Option (List ObjId)) → queue_of m at ≡ o → caps_to (without_waiting m at thread) id ≡ caps_to m id
  by_queue None is = rw is refl
  by_queue (Some threads) is = rw is (caps_to-with_queue m at _ id)

cap_of-without_cap : (m : Machine) (slot q : SlotRef) → cap_of (without_cap m slot) q ≡ cond (same_slot q slot) None (cap_of m q)
unfolding cap_of without_cap
cap_of-without_cap m slot q = map.get-remove slot_total m.caps slot q

-- an empty slot has nothing to take
pub without_nothing : (m : Machine) (slot : SlotRef) → cap_of m slot ≡ None → without_cap m slot ≡ m
unfolding without_cap cap_of
without_nothing m slot none =
    ap (λ filled. record m { caps = filled })
    (map.same_map slot_total slot_apart (map.remove m.caps slot) m.caps
    (λ q.
    map.get-remove slot_total m.caps slot q
    ∙ sym (by_key slot_total slot_apart q slot _ _ _ (λ same. ap (map.get m.caps) same ∙ none) (λ apart. refl))))

-- there are no more than filled slots
pub caps_to-few : (m : Machine) (id : ObjId) → caps_to m id ≤ map.len m.caps
unfolding caps_to
caps_to-few m id = rw (map.len-entries m.caps) (count_by-le-length (λ filling. is_for id filling.0 filling.1) (entries m.caps))

-- a filled slot counts for its object
pub caps_to-some : (m : Machine) (slot : SlotRef) (held : Cap) → cap_of m slot ≡ Some held → 1 ≤ caps_to m held.object
caps_to-some m slot held filled =
    let less = caps_to-without_cap m slot held filled held.object in
    let one = one_for_its_own held in
    omega (arith, less, one)

-- no slot holds a capability for an object of which none is counted
pub caps_to-none :
    (m : Machine) (id : ObjId) → caps_to m id ≡ 0 → (slot : SlotRef) (held : Cap) → cap_of m slot ≡ Some held → held.object ≢ id
caps_to-none m id none slot held filled same =
    let some = caps_to-some m slot held filled in
    let here : caps_to m held.object ≡ caps_to m id = ap (caps_to m) same in
    absurd (omega (arith, some, here, none))

-- none is counted for an object for which no slot holds a capability
pub none-caps_to :
    (m : Machine) (id : ObjId) → ((slot : SlotRef) (held : Cap) → cap_of m slot ≡ Some held → held.object ≢ id) → caps_to m id ≡ 0
unfolding caps_to cap_of
none-caps_to m id none =
    sum-nothing slot_total slot_apart (one_for id) m.caps (λ slot held filled. none_for_others id held (none slot held filled))

-- a machine that has what another has, but for the capabilities in a set

module _ (m n : Machine) (set : SlotRef → Bool) (left : (slot : SlotRef) → cap_of n slot ≡ cap_after m set slot) (id : ObjId) where
  abbrev unless : SlotRef → Bool → Option Cap
  unless slot gone = if gone then None else cap_of m slot

  -- counts none for an object of which the set holds every capability
  pub none_left : LosesAll m set id → caps_to n id ≡ 0
  none_left loses =
      none-caps_to n id (λ slot held filled same. by_set slot held (sym (left slot) ∙ filled) same (set slot) refl)
    where
      by_set :
          (slot : SlotRef) (held : Cap) → cap_after m set slot ≡ Some held → held.object ≡ id → (gone : Bool) → set slot ≡ gone → ⊥
      by_set slot held is same true e = let none : cap_after m set slot ≡ None = ap (unless slot) e in cc
      by_set slot held is same false e =
          let filled : cap_of m slot ≡ Some held = sym (ap (unless slot) e) ∙ is in
          false≢true (sym e ∙ loses.all slot held filled same)

  -- the set holds every capability of an object that had some and is left with none
  pub all_lost : 1 ≤ caps_to m id → caps_to n id ≡ 0 → LosesAll m set id
  all_lost some none = by_some (some_cap m (is_for id)) refl where
    by_set :
        (slot : SlotRef) (held : Cap) → cap_of m slot ≡ Some held → held.object ≡ id → (gone : Bool) → set slot ≡ gone
        → set slot ≡ true
    by_set slot held filled same true e = e
    by_set slot held filled same false e =
        absurd (caps_to-none n id none slot held (left slot ∙ ap (unless slot) e ∙ filled) same)

    by_some : (any : Bool) → some_cap m (is_for id) ≡ any → LosesAll m set id
    by_some false e =
        let nothing : caps_to m id ≡ 0 =
        none-caps_to m id
        (λ slot held filled same.
        false≢true
        (sym e ∙ some_cap-from m (is_for id) slot held filled (ap (λ (x : ObjId). same_id x id) same ∙ id_itself id))) in
        absurd (omega (arith, some, nothing))
    by_some true e =
        let found = some_cap-found m (is_for id) e in
        record {
          last = found.0;
          final = found.1;
          there = found.2;
          its_own = one_id found.1.object id found.3;
          all = λ slot held filled same. by_set slot held filled same (set slot) refl;
        }

-- a capability is the only one of its object exactly where one is counted

pub last_cap :
    (m : Machine) (slot : SlotRef) (held : Cap) → cap_of m slot ≡ Some held → caps_to m held.object ≡ 1
    → LosesAll m (λ q. same_slot q slot) held.object
last_cap m slot held filled one =
    let parts = caps_to-without_cap m slot held filled held.object in
    let its_own = one_for_its_own held in
    all_lost m (without_cap m slot) (λ q. same_slot q slot) (cap_of-without_cap m slot) held.object (omega (arith, one))
    (omega (arith, parts, its_own, one))

pub only_cap :
    (m : Machine) (slot : SlotRef) (held : Cap) → cap_of m slot ≡ Some held → LosesAll m (λ q. same_slot q slot) held.object
    → caps_to m held.object ≡ 1
only_cap m slot held filled loses =
    let parts = caps_to-without_cap m slot held filled held.object in
    let its_own = one_for_its_own held in
    let none = none_left m (without_cap m slot) (λ q. same_slot q slot) (cap_of-without_cap m slot) held.object loses in
    omega (arith, parts, its_own, none)

-- the objects that vanish are those whose count falls to 0 by the removal

vanished_counted :
    (m : Machine) (chosen : SlotRef → Bool) (id : ObjId) → vanishes m chosen id ≡ true
    → (1 ≤ caps_to m id) × (caps_to (removed m chosen) id ≡ 0)
vanished_counted m chosen id goes =
    let loses : LosesAll m (gone_of m chosen) id = (losing_decided m (gone_of m chosen) id).0 goes in (
      subst (λ k. 1 ≤ caps_to m k) loses.its_own (caps_to-some m loses.last loses.final loses.there),
      none_left m (removed m chosen) (gone_of m chosen) (cap_of-removed m chosen) id loses,
    )

pub vanishing_counted :
    (m : Machine) (chosen : SlotRef → Bool) (id : ObjId)
    → Decides (vanishes m chosen id) ((1 ≤ caps_to m id) × (caps_to (removed m chosen) id ≡ 0))
vanishing_counted m chosen id = (
  vanished_counted m chosen id,
  λ counted.
      (losing_decided m (gone_of m chosen) id).1
      (all_lost m (removed m chosen) (gone_of m chosen) (cap_of-removed m chosen) id counted.0 counted.1),
)
