-- The boot state of a table after a list of changes: what is found in it.
use Rattle.std.proofs.Common.{[], ℕ, ◌∙◌, ◌∷◌, ◌≡◌, Bool, List, Option, Some, ap, cond, option_map, true}
use Rattle.base.specs.declared.ids.{ObjId.ObjId, SlotRef.SlotRef}
use Rattle.machine.specs.{declared.{cap.Cap.Cap, object.Object.Object}, Authority.label_of, Boot.{IsBoot, booted}}
use Rattle.machine.specs.{Layout.{Layout, declared_label, initial_cap, initial_parent}, Machine.{Machine, cap_of, object_of, parent_of}}
use Rattle.machine.specs.{Machine.{queue_of, same_id, same_slot, with_cap, with_object, with_parent, with_queue}, Objects.address_of}
use Rattle.machine.proofs.LookUps.{cap_of-with_cap, object_of-with_object, parent_of-with_parent, queue_of-with_queue}
use Rattle.{table.proofs.AtBoot.boot_label, integrity.proofs.ObjectLabels.label_stays, verdict.proofs.SmallSystem.id}

-- an object becomes another, threads wait at one, a slot is filled, or gets a parent
pub data Change : Type 0 where
  becomes : ℕ → Object → Change
  waits : ℕ → List ObjId → Change
  fills : SlotRef → Cap → Change
  derives : SlotRef → SlotRef → Change

-- a machine after changes, of which the last stands first
unfoldable pub with_changes : Machine → List Change → Machine
with_changes m [] = m
with_changes m (becomes n object ∷ before) = with_object (with_changes m before) (id n) object
with_changes m (waits n threads ∷ before) = with_queue (with_changes m before) (id n) threads
with_changes m (fills slot held ∷ before) = with_cap (with_changes m before) slot held
with_changes m (derives slot parent ∷ before) = with_parent (with_changes m before) slot parent

module _ (t : Layout) where
  unfoldable pub object_after : List Change → ObjId → Option Object
  object_after [] q = booted t q
  object_after (becomes n object ∷ before) q = cond (same_id q (id n)) (Some object) (object_after before q)
  object_after (_ ∷ before) q = object_after before q

  unfoldable pub queue_after : List Change → ObjId → Option (List ObjId)
  queue_after [] q = option_map (λ object. []) (booted t q)
  queue_after (waits n threads ∷ before) q = cond (same_id q (id n)) (Some threads) (queue_after before q)
  queue_after (_ ∷ before) q = queue_after before q

  unfoldable pub cap_after : List Change → SlotRef → Option Cap
  cap_after [] q = initial_cap t q
  cap_after (fills slot held ∷ before) q = cond (same_slot q slot) (Some held) (cap_after before q)
  cap_after (_ ∷ before) q = cap_after before q

  unfoldable pub parent_after : List Change → SlotRef → Option SlotRef
  parent_after [] q = initial_parent t q
  parent_after (derives slot parent ∷ before) q = cond (same_slot q slot) (Some parent) (parent_after before q)
  parent_after (_ ∷ before) q = parent_after before q

  module _ (m : Machine) (boot : IsBoot t m) where
    pub object_now : (changes : List Change) (q : ObjId) → object_of (with_changes m changes) q ≡ object_after changes q
    unfolding object_after object_of with_cap with_changes with_parent with_queue
    object_now [] q = boot.objects q
    object_now (becomes n object ∷ before) q =
        object_of-with_object (with_changes m before) (id n) object q
        ∙ ap (λ x. cond (same_id q (id n)) (Some object) x) (object_now before q)
    object_now (waits n threads ∷ before) q = object_now before q
    object_now (fills slot held ∷ before) q = object_now before q
    object_now (derives slot parent ∷ before) q = object_now before q

    pub queue_now : (changes : List Change) (q : ObjId) → queue_of (with_changes m changes) q ≡ queue_after changes q
    unfolding queue_after queue_of with_cap with_changes with_object with_parent
    queue_now [] q = boot.queues q
    queue_now (becomes n object ∷ before) q = queue_now before q
    queue_now (waits n threads ∷ before) q =
        queue_of-with_queue (with_changes m before) (id n) threads q
        ∙ ap (λ x. cond (same_id q (id n)) (Some threads) x) (queue_now before q)
    queue_now (fills slot held ∷ before) q = queue_now before q
    queue_now (derives slot parent ∷ before) q = queue_now before q

    pub cap_now : (changes : List Change) (q : SlotRef) → cap_of (with_changes m changes) q ≡ cap_after changes q
    unfolding cap_after cap_of with_changes with_object with_parent with_queue
    cap_now [] q = boot.caps q
    cap_now (becomes n object ∷ before) q = cap_now before q
    cap_now (waits n threads ∷ before) q = cap_now before q
    cap_now (fills slot held ∷ before) q =
        cap_of-with_cap (with_changes m before) slot held q ∙ ap (λ x. cond (same_slot q slot) (Some held) x) (cap_now before q)
    cap_now (derives slot parent ∷ before) q = cap_now before q

    pub parent_now : (changes : List Change) (q : SlotRef) → parent_of (with_changes m changes) q ≡ parent_after changes q
    unfolding parent_after parent_of with_cap with_changes with_object with_queue
    parent_now [] q = boot.parents q
    parent_now (becomes n object ∷ before) q = parent_now before q
    parent_now (waits n threads ∷ before) q = parent_now before q
    parent_now (fills slot held ∷ before) q = parent_now before q
    parent_now (derives slot parent ∷ before) q =
        parent_of-with_parent (with_changes m before) slot parent q
        ∙ ap (λ x. cond (same_slot q slot) (Some parent) x) (parent_now before q)

    -- an object keeps its label where it keeps its address
    pub label_now :
        (changes : List Change) (n : ℕ) (old new : Object) → booted t (id n) ≡ Some old
        → object_after changes (id n) ≡ Some new → address_of new ≡ address_of old
        → label_of t (with_changes m changes) (id n) ≡ declared_label t (id n)
    label_now changes n old new was is same =
        label_stays t m (with_changes m changes) (id n) old new (boot.objects (id n) ∙ was) (object_now changes (id n) ∙ is) same
        ∙ boot_label t m boot (id n)

-- what is found after changes
unfoldable pub changing : Bool
unfolding cap_after object_after parent_after queue_after
changing = true
