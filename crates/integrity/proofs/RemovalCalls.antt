-- Delete and Revoke within a caller's authority: the caller's label controls the CNode of the slot that the call names, and that CNode's
-- label may derive to the objects that hold what descends from the slot.
use Rattle.std.proofs.Common.{ℕ, ◌≡◌, ◌⊎◌, Bool, None, Ok, Some, inl, inr, subst, sym}
use Rattle.base.specs.declared.ids.{ObjId.ObjId, SlotRef.SlotRef}
use Rattle.machine.specs.{declared.{call.Event.Event, cap.Cap.Cap, slot_address.SlotAddress.SlotAddress}, Authority.label_of}
use Rattle.machine.specs.{Below.is_below, Layout.Layout, Machine.{Machine, cap_of, same_slot}, Removal.removed, Step.Target.target_of}
use Rattle.{steps.proofs.{RemovalRows.RemovalDone, SlotRows.target_leads}, policy.specs.Domain.EdgeTest}
use Rattle.integrity.specs.{Invariant.IsSound, Keeping.IsSharp, Removals.MayRemove}
use Rattle.integrity.proofs.{Held.held_of, Keeps.{Keeps, unchanged}, Reach.{IsControlled, led_controlled}}
use Rattle.integrity.proofs.{RemovalKeeps.{removed_keeps, removed_sound}, RemovalRights.{may_delete_in, may_revoke_below}}

module _
    (t : Layout) (allowed : EdgeTest) (event : Event) (a : ℕ) (m : Machine) (sound : IsSound t allowed m) (closed : IsSharp t allowed)
    (caller : ObjId) (labelled : label_of t m caller ≡ Some a) (address : SlotAddress) (next : Machine) where
  -- the named slot is in a CNode that the caller's label controls
  target_mine : (slot : SlotRef) → target_of m caller address ≡ Ok slot → IsControlled t allowed m a slot.holder
  target_mine slot found =
      led_controlled t allowed m (held_of t allowed m sound) closed.uses_rise a caller address slot labelled
      (target_leads m caller address slot found)

  may_delete : (slot : SlotRef) → target_of m caller address ≡ Ok slot → MayRemove t allowed a m (same_slot slot)
  may_delete slot found = may_delete_in t allowed a m sound closed slot (target_mine slot found)

  may_revoke : (slot : SlotRef) → target_of m caller address ≡ Ok slot → MayRemove t allowed a m (is_below m slot)
  may_revoke slot found = may_revoke_below t allowed a m sound closed slot (target_mine slot found)

  module _
      (chosen : SlotRef → SlotRef → Bool)
      (may : (slot : SlotRef) → target_of m caller address ≡ Ok slot → MayRemove t allowed a m (chosen slot))
      (done : RemovalDone m caller address chosen next) where
    done_sound : IsSound t allowed next
    done_sound = by_cap done.after where
      by_cap :
          ((cap_of m done.slot ≡ None) × (next ≡ m))
          ⊎ ((held : Cap) × (cap_of m done.slot ≡ Some held) × (next ≡ removed m (chosen done.slot)))
          → IsSound t allowed next
      by_cap (inl none) = subst (λ (n : Machine). IsSound t allowed n) (sym none.1) sound
      by_cap (inr some) =
          subst (λ (n : Machine). IsSound t allowed n) (sym some.2) (removed_sound t allowed m (chosen done.slot) sound closed)

    done_keeps : Keeps t allowed m event a m next
    done_keeps = by_cap done.after where
      by_cap :
          ((cap_of m done.slot ≡ None) × (next ≡ m))
          ⊎ ((held : Cap) × (cap_of m done.slot ≡ Some held) × (next ≡ removed m (chosen done.slot)))
          → Keeps t allowed m event a m next
      by_cap (inl none) =
          subst (λ (n : Machine). Keeps t allowed m event a m n) (sym none.1) (unchanged t allowed m event a m (held_of t allowed m sound))
      by_cap (inr some) =
          subst (λ (n : Machine). Keeps t allowed m event a m n) (sym some.2)
          (removed_keeps t allowed m (chosen done.slot) sound closed event a (may done.slot done.found))

  pub delete_keeps : RemovalDone m caller address same_slot next → IsSound t allowed next × Keeps t allowed m event a m next
  delete_keeps done = (done_sound same_slot may_delete done, done_keeps same_slot may_delete done)

  pub revoke_keeps : RemovalDone m caller address (is_below m) next → IsSound t allowed next × Keeps t allowed m event a m next
  revoke_keeps done = (done_sound (is_below m) may_revoke done, done_keeps (is_below m) may_revoke done)
