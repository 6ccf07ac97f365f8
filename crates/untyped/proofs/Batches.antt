-- That objects made one after another are the same as objects made all at once.
use Rattle.std.{specs.{FinMap.{FinMap, get, get-insert, insert, same_map}, List.fold, Prelude.Some}, proofs.Common.{[], ℕ, ◌+◌, ◌<◌, ◌∙◌}}
use Rattle.std.proofs.Common.{◌∷◌, ◌≡◌, ◌≢◌, Bool, List, ap, arith, cond, false, length, refl, sym, true}
use Rattle.base.specs.declared.ids.{ObjId.ObjId, SlotRef.SlotRef}
use Rattle.machine.specs.{declared.{cap.Cap.Cap, object.{MemoryKind.MemoryKind, Object.{Object, Object as o}}}, Machine.{Machine, id_cmp}}
use Rattle.machine.specs.{Machine.{same_id, with_cap, with_new, with_object, with_parent}, Memory.{Source, all_taken, new_cap, new_object}}
use Rattle.machine.{specs.Memory.{new_size, placed, taken, with_all_made, with_made}, proofs.LookUps.{id_apart, id_total, one_id}}
use Rattle.untyped.specs.Batch.{new_objects, with_batch, with_caps}

abbrev Content : Type 0
Content = FinMap id_cmp Object

-- an object that is set twice is what it was set to last
set_twice :
    (m : Content) (id : ObjId) (first second : Object) → insert (insert m id first) id second ≡ insert m id second
set_twice m id first second =
    same_map id_total id_apart _ _
    (λ q.
    get-insert id_total (insert m id first) id second q
    ∙ ap (cond (same_id q id) (Some second)) (get-insert id_total m id first q)
    ∙ shadowed (same_id q id) _ _ _
    ∙ sym (get-insert id_total m id second q))
  where
    shadowed : {A : Type 0} (b : Bool) (x y z : A) → cond b x (cond b y z) ≡ cond b x z
    shadowed true x y z = refl
    shadowed false x y z = refl

-- two objects may be set in either order
set_either :
    (m : Content) (a b : ObjId) (one other : Object) → a ≢ b
    → insert (insert m a one) b other ≡ insert (insert m b other) a one
set_either m a b one other apart =
    same_map id_total id_apart _ _
    (λ q.
    get-insert id_total (insert m a one) b other q
    ∙ ap (cond (same_id q b) (Some other)) (get-insert id_total m a one q)
    ∙ swapped q (same_id q a) (same_id q b) refl refl
    ∙ ap (cond (same_id q a) (Some one)) (sym (get-insert id_total m b other q))
    ∙ sym (get-insert id_total (insert m b other) a one q))
  where
    swapped :
        (q : ObjId) (at_a at_b : Bool) → same_id q a ≡ at_a → same_id q b ≡ at_b
        → cond at_b (Some other) (cond at_a (Some one) (get m q)) ≡ cond at_a (Some one) (cond at_b (Some other) (get m q))
    swapped q true true is_a is_b = absurd (apart (sym (one_id q a is_a) ∙ one_id q b is_b))
    swapped q true false is_a is_b = refl
    swapped q false at_b is_a is_b = refl

object_twice :
    (m : Machine) (id : ObjId) (first second : Object)
    → with_object (with_object m id first) id second ≡ with_object m id second
unfolding with_object
object_twice m id first second = ap (λ objects. record m { objects = objects }) (set_twice m.objects id first second)

-- an object may be set before another is added, or after
object_past_new :
    (m : Machine) (id : ObjId) (one new : Object) → id.0 < m.next
    → with_new (with_object m id one) new ≡ with_object (with_new m new) id one
unfolding with_object with_new
object_past_new m id one new below =
    ap (λ objects. record (with_new m new) { objects = objects })
    (set_either m.objects id (record { 0 = m.next }) one new
    (λ same. (let number : id.0 ≡ m.next = ap (λ (k : ObjId). k.0) same in absurd (omega (arith, number, below)))))

object_past_caps :
    (m : Machine) (id : ObjId) (one : Object) (slot parent : SlotRef) (held : Cap)
    → with_parent (with_cap (with_object m id one) slot held) slot parent
    ≡ with_object (with_parent (with_cap m slot held) slot parent) id one
unfolding with_object with_cap with_parent
object_past_caps m id one slot parent held = refl

new_past_caps :
    (m : Machine) (object : Object) (slot parent : SlotRef) (held : Cap)
    → with_new (with_parent (with_cap m slot held) slot parent) object
    ≡ with_parent (with_cap (with_new m object) slot held) slot parent
unfolding with_new with_cap with_parent
new_past_caps m object slot parent held = refl

-- objects may be added before a slot is filled, or after
news_past_caps :
    (m : Machine) (objects : List Object) (slot parent : SlotRef) (held : Cap)
    → fold with_new (with_parent (with_cap m slot held) slot parent) objects
    ≡ with_parent (with_cap (fold with_new m objects) slot held) slot parent
news_past_caps m [] slot parent held = refl
news_past_caps m (object ∷ objects) slot parent held =
    ap (λ n. fold with_new n objects) (new_past_caps m object slot parent held)
    ∙ news_past_caps (with_new m object) objects slot parent held

next_after :
    (m : Machine) (object : Object) (slot parent : SlotRef) (held : Cap)
    → (with_parent (with_cap (with_new m object) slot held) slot parent).next ≡ m.next + 1
unfolding with_new with_cap with_parent
next_after m object slot parent held = refl

next_still : (m : Machine) (id : ObjId) (object : Object) → (with_object m id object).next ≡ m.next
unfolding with_object
next_still m id object = refl

module _ (kind : MemoryKind) (bits : ℕ) where
  abbrev later : Source → Source
  later source = record source { memory = taken (new_size kind bits) source.memory }

  abbrev object_from : Source → Object
  object_from source = new_object kind bits (placed (new_size kind bits) source.memory)

  -- the machine with one more object and its capability, but for the watermark
  abbrev added : Machine → Source → SlotRef → Machine
  added m source slot =
      with_parent (with_cap (with_new m (object_from source)) slot (new_cap m.next kind)) slot source.slot

  made_added :
      (m : Machine) (source : Source) (slot : SlotRef) → source.id.0 < m.next
      → with_made m source kind bits slot
      ≡ with_object (added m source slot) source.id (o.Untyped (later source).memory)
  unfolding with_made
  made_added m source slot below =
      ap (λ n. with_parent (with_cap n slot (new_cap m.next kind)) slot source.slot)
      (object_past_new m source.id (o.Untyped (later source).memory) (object_from source) below)
      ∙ object_past_caps (with_new m (object_from source)) source.id _ slot source.slot (new_cap m.next kind)

  -- the untyped's content before doesn't matter
  made_whatever :
      (m : Machine) (source : Source) (was : Object) (slot : SlotRef)
      → with_made (with_object m source.id was) source kind bits slot ≡ with_made m source kind bits slot
  unfolding with_made
  made_whatever m source was slot =
      ap (λ n. with_parent (with_cap (with_new m' (object_from source)) slot (new_cap n kind)) slot source.slot)
      (next_still m source.id was)
      ∙ ap (λ n. with_parent (with_cap (with_new n (object_from source)) slot (new_cap m.next kind)) slot source.slot)
      (object_twice m source.id was (o.Untyped (later source).memory))
    where
      m' : Machine
      m' = with_object (with_object m source.id was) source.id (o.Untyped (later source).memory)

  batch_from :
      (m : Machine) (source : Source) (slots : List SlotRef) → source.id.0 < m.next
      → with_all_made (with_object m source.id (o.Untyped source.memory)) source kind bits slots
      ≡ with_batch m source kind bits slots
  batch_from m source [] below = refl
  batch_from m source (slot ∷ slots) below =
      let next : (added m source slot).next ≡ m.next + 1 =
      next_after m (object_from source) slot source.slot (new_cap m.next kind) in
      let objects : List Object = new_objects (length slots) kind bits (later source).memory in
      ap (λ n. with_all_made n (later source) kind bits slots)
      (made_whatever m source (o.Untyped source.memory) slot ∙ made_added m source slot below)
      ∙ batch_from (added m source slot) (later source) slots (omega (arith, next, below))
      ∙ ap (λ n. with_object (with_caps (fold with_new (added m source slot) objects) n kind slots source.slot) source.id
      (o.Untyped (all_taken (length slots) (new_size kind bits) (later source).memory)))
      next
      ∙ ap (λ n. with_object (with_caps n (m.next + 1) kind slots source.slot) source.id
      (o.Untyped (all_taken (length slots) (new_size kind bits) (later source).memory)))
      (news_past_caps (with_new m (object_from source)) objects slot source.slot (new_cap m.next kind))

  -- objects that are made one after another are made at once, if there are any
  pub made_at_once :
      (m : Machine) (source : Source) (slot : SlotRef) (slots : List SlotRef) → source.id.0 < m.next
      → with_all_made m source kind bits (slot ∷ slots) ≡ with_batch m source kind bits (slot ∷ slots)
  made_at_once m source slot slots below =
      ap (λ n. with_all_made n (later source) kind bits slots) (sym (made_whatever m source (o.Untyped source.memory) slot))
      ∙ batch_from m source (slot ∷ slots) below
