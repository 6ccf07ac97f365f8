-- The effect of a delete or revoke that isn't refused: the slot that it found, and the machine after it.
use Rattle.std.{specs.Prelude.{None, Ok, Option, Some}, proofs.Common.{◌∙◌, ◌≡◌, ◌⊎◌, Bool, ap, cond, false, inl, inr, refl, subst, sym}}
use Rattle.{std.proofs.{Common.true, lemmas.{Bool.false≢true, Option.none-some}}, base.specs.declared.ids.{ObjId.ObjId, SlotRef.SlotRef}}
use Rattle.machine.specs.{declared.{call.Made.Made, cap.Cap.Cap, slot_address.SlotAddress.SlotAddress}, Below.is_below}
use Rattle.machine.specs.{Gone.{given, gone_of}, Machine.{Machine, cap_of, parent_of, same_slot}, Orphans.Nearest, Removal.removed}
use Rattle.machine.specs.Step.{Delete.{delete_of, deleted}, Revoke.{revoke_of, revoked}, Target.target_of}
use Rattle.machine.{specs.WellFormed.{Descends, IsWellFormed, child, further}, proofs.{Exchange.slot_itself, GoneLemmas.gone_decided}}
use Rattle.machine.proofs.{OrphanLemmas.climbed, RemovalLooks.{cap_of-removed, gone_has_no_parent, nearest_survives}}
use Rattle.steps.proofs.{BelowLemmas.below_decided, Conditions.{both_done, same_ok}}

-- a removal was made: of nothing if the slot was empty, and else of the capabilities chosen with the slot
pub record RemovalDone (m : Machine) (caller : ObjId) (address : SlotAddress) (chosen : SlotRef → SlotRef → Bool) (next : Machine) : Type 0 where
  pub slot : SlotRef
  pub found : target_of m caller address ≡ Ok slot
  pub after :
      ((cap_of m slot ≡ None) × (next ≡ m))
      ⊎ ((held : Cap) × (cap_of m slot ≡ Some held) × (next ≡ removed m (chosen slot)))

pub delete_done :
    (m : Machine) (caller : ObjId) (address : SlotAddress) (made : Made) (next : Machine)
    → delete_of m caller address ≡ Ok (made, next) → RemovalDone m caller address same_slot next
unfolding delete_of
delete_done m caller address made next e =
    let target = both_done (target_of m caller address) _ (made, next) e in
    record {
      slot = target.0;
      found = target.1;
      after = by_cap target.0 (cap_of m target.0) refl (ap (λ p. p.1) (same_ok target.2));
    } where
      by_cap :
          (slot : SlotRef) (filling : Option Cap) → cap_of m slot ≡ filling → deleted m slot filling ≡ next
          → ((cap_of m slot ≡ None) × (next ≡ m))
          ⊎ ((held : Cap) × (cap_of m slot ≡ Some held) × (next ≡ removed m (same_slot slot)))
      by_cap slot None is same = inl (is, sym same)
      by_cap slot (Some held) is same = inr (held, is, sym same)

pub revoke_done :
    (m : Machine) (caller : ObjId) (address : SlotAddress) (made : Made) (next : Machine)
    → revoke_of m caller address ≡ Ok (made, next) → RemovalDone m caller address (is_below m) next
unfolding revoke_of
revoke_done m caller address made next e =
    let target = both_done (target_of m caller address) _ (made, next) e in
    record {
      slot = target.0;
      found = target.1;
      after = by_cap target.0 (cap_of m target.0) refl (ap (λ p. p.1) (same_ok target.2));
    } where
      by_cap :
          (slot : SlotRef) (filling : Option Cap) → cap_of m slot ≡ filling → revoked m slot filling ≡ next
          → ((cap_of m slot ≡ None) × (next ≡ m))
          ⊎ ((held : Cap) × (cap_of m slot ≡ Some held) × (next ≡ removed m (is_below m slot)))
      by_cap slot None is same = inl (is, sym same)
      by_cap slot (Some held) is same = inr (held, is, sym same)

-- a slot that was chosen is empty
pub chosen_empty :
    (m : Machine) (chosen : SlotRef → Bool) (slot : SlotRef) → chosen slot ≡ true → cap_of (removed m chosen) slot ≡ None
chosen_empty m chosen slot is =
    cap_of-removed m chosen slot ∙ ap (λ b. cond b None (cap_of m slot)) ((gone_decided m chosen slot).1 (given is))

pub deleted_empty :
    (m : Machine) (caller : ObjId) (address : SlotAddress) (made : Made) (next : Machine)
    → delete_of m caller address ≡ Ok (made, next)
    → (slot : SlotRef) × (target_of m caller address ≡ Ok slot) × (cap_of next slot ≡ None)
deleted_empty m caller address made next e =
    let done = delete_done m caller address made next e in
    (done.slot, done.found, by_after done.slot done.after) where
      by_after :
          (slot : SlotRef)
          → ((cap_of m slot ≡ None) × (next ≡ m))
          ⊎ ((held : Cap) × (cap_of m slot ≡ Some held) × (next ≡ removed m (same_slot slot)))
          → cap_of next slot ≡ None
      by_after slot (inl none) = ap (λ (n : Machine). cap_of n slot) none.1 ∙ none.0
      by_after slot (inr some) =
          ap (λ (n : Machine). cap_of n slot) some.2 ∙ chosen_empty m (same_slot slot) slot (slot_itself slot)

-- nothing descends from a slot that is nobody's parent
childless : (m : Machine) (above : SlotRef) → ((slot : SlotRef) → ¬ (parent_of m slot ≡ Some above)) → {slot : SlotRef} → ¬ (Descends m slot above)
childless m above none (child is) = none _ is
childless m above none (further is rest) = childless m above none rest

none_below :
    (m : Machine) → IsWellFormed m → (above : SlotRef) (slot : SlotRef)
    → ¬ (parent_of (removed m (is_below m above)) slot ≡ Some above)
none_below m formed above slot e = by_gone (gone_of m (is_below m above) slot) refl where
  by_gone : (b : Bool) → gone_of m (is_below m above) slot ≡ b → ⊥
  by_gone true goes = none-some above (sym (gone_has_no_parent m (is_below m above) slot goes) ∙ e)
  by_gone false stays =
      let way : Nearest (parent_of m) (gone_of m (is_below m above)) (parent_of m slot) (Some above) =
      subst (λ (to : Option SlotRef). Nearest (parent_of m) (gone_of m (is_below m above)) (parent_of m slot) to) e
      (nearest_survives m (is_below m above) formed.slots.acyclic slot stays) in
      let below : is_below m above slot ≡ true =
      (below_decided m above slot).1 (climbed m (gone_of m (is_below m above)) slot way refl) in
      false≢true (sym stays ∙ (gone_decided m (is_below m above) slot).1 (given below))

pub revoked_childless :
    (m : Machine) (caller : ObjId) (address : SlotAddress) (made : Made) (next : Machine) → IsWellFormed m
    → revoke_of m caller address ≡ Ok (made, next)
    → (slot : SlotRef) × (target_of m caller address ≡ Ok slot) × ((below : SlotRef) → ¬ (Descends next below slot))
revoked_childless m caller address made next formed e =
    let done = revoke_done m caller address made next e in
    (done.slot, done.found, by_after done.slot done.after) where
      by_after :
          (slot : SlotRef)
          → ((cap_of m slot ≡ None) × (next ≡ m))
          ⊎ ((held : Cap) × (cap_of m slot ≡ Some held) × (next ≡ removed m (is_below m slot)))
          → (below : SlotRef) → ¬ (Descends next below slot)
      by_after slot (inl none) below descends =
          childless m slot
          (λ low is. let w = formed.slots.parent_filled low slot is in none-some w.0 (sym none.0 ∙ w.1))
          (subst (λ (n : Machine). Descends n below slot) none.1 descends)
      by_after slot (inr some) below descends =
          childless (removed m (is_below m slot)) slot (none_below m formed slot)
          (subst (λ (n : Machine). Descends n below slot) some.2 descends)
