-- The slots and the derivation tree after an empty slot gets a capability, as a child or without a parent.
use Rattle.std.{specs.Prelude.{None, Option, Some, if◌then◌else◌}, proofs.Common.{◌∙◌, ◌≡◌, ◌≢◌, ◌⊎◌, Bool}}
use Rattle.{std.proofs.Common.{ap, false, inl, inr, refl, sym, true}, base.specs.declared.ids.SlotRef.SlotRef}
use Rattle.machine.specs.{declared.cap.Cap.Cap, Machine.{Machine, cap_of, parent_of, same_slot}}
use Rattle.machine.{specs.WellFormed.{Descends, Descends.{child, further}, SlotsFit}, proofs.{Exchange.slot_itself, LookUps.one_slot}}

-- an empty slot gets a capability, as a child of a filled slot if it has a parent
pub record FillsUnder (m : Machine) (slot : SlotRef) (above : Option SlotRef) (new : Cap) (next : Machine) : Type 0 where
  pub fits : SlotsFit m
  pub empty : cap_of m slot ≡ None
  pub full : (parent : SlotRef) → above ≡ Some parent → (held : Cap) × (cap_of m parent ≡ Some held)
  pub caps : (q : SlotRef) → cap_of next q ≡ (if same_slot q slot then Some new else cap_of m q)
  pub parents : (q : SlotRef) → parent_of next q ≡ (if same_slot q slot then above else parent_of m q)

module _ {m next : Machine} {slot : SlotRef} {above : Option SlotRef} {new : Cap} (fills : FillsUnder m slot above new next) where
  pub cap_here : cap_of next slot ≡ Some new
  cap_here = fills.caps slot ∙ ap (λ tie. if tie then Some new else cap_of m slot) (slot_itself slot)

  pub parent_here : parent_of next slot ≡ above
  parent_here = fills.parents slot ∙ ap (λ tie. if tie then above else parent_of m slot) (slot_itself slot)

  pub not_filled : (q : SlotRef) → (cap : Cap) × (cap_of m q ≡ Some cap) → q ≢ slot
  not_filled q was is = let none : None ≡ Some was.0 = sym fills.empty ∙ ap (cap_of m) (sym is) ∙ was.1 in cc

  -- capabilities and parents are still there

  pub cap_stays : (q : SlotRef) (cap : Cap) → cap_of m q ≡ Some cap → cap_of next q ≡ Some cap
  cap_stays q cap e = fills.caps q ∙ by_tie (same_slot q slot) refl where
    by_tie : (tie : Bool) → same_slot q slot ≡ tie → (if tie then Some new else cap_of m q) ≡ Some cap
    by_tie true is = absurd (not_filled q (cap, e) (one_slot q slot is))
    by_tie false is = e

  pub parent_stays : (q parent : SlotRef) → parent_of m q ≡ Some parent → parent_of next q ≡ Some parent
  parent_stays q parent e = fills.parents q ∙ by_tie (same_slot q slot) refl where
    by_tie : (tie : Bool) → same_slot q slot ≡ tie → (if tie then above else parent_of m q) ≡ Some parent
    by_tie true is = absurd (not_filled q (fills.fits.child_filled q parent e) (one_slot q slot is))
    by_tie false is = e

  pub descent_stays : {q over : SlotRef} → Descends m q over → Descends next q over
  descent_stays (child e) = child (parent_stays _ _ e)
  descent_stays (further e rest) = further (parent_stays _ _ e) (descent_stays rest)

  -- each capability and each parent was there, or is the new one

  pub cap_was : (q : SlotRef) (cap : Cap) → cap_of next q ≡ Some cap → ((q ≡ slot) × (cap ≡ new)) ⊎ (cap_of m q ≡ Some cap)
  cap_was q cap e = by_tie (same_slot q slot) refl (sym (fills.caps q) ∙ e) where
    by_tie :
        (tie : Bool) → same_slot q slot ≡ tie → (if tie then Some new else cap_of m q) ≡ Some cap
        → ((q ≡ slot) × (cap ≡ new)) ⊎ (cap_of m q ≡ Some cap)
    by_tie true is same = inl (one_slot q slot is, cc)
    by_tie false is same = inr same

  -- another slot holds what it held
  pub old_cap : (q : SlotRef) (cap : Cap) → q ≢ slot → cap_of next q ≡ Some cap → cap_of m q ≡ Some cap
  old_cap q cap apart e = by_case (cap_was q cap e) where
    by_case : ((q ≡ slot) × (cap ≡ new)) ⊎ (cap_of m q ≡ Some cap) → cap_of m q ≡ Some cap
    by_case (inl is) = absurd (apart is.0)
    by_case (inr was) = was

  pub parent_was :
      (q parent : SlotRef) → parent_of next q ≡ Some parent
      → ((q ≡ slot) × (above ≡ Some parent)) ⊎ (parent_of m q ≡ Some parent)
  parent_was q parent e = by_tie (same_slot q slot) refl (sym (fills.parents q) ∙ e) where
    by_tie :
        (tie : Bool) → same_slot q slot ≡ tie → (if tie then above else parent_of m q) ≡ Some parent
        → ((q ≡ slot) × (above ≡ Some parent)) ⊎ (parent_of m q ≡ Some parent)
    by_tie true is same = inl (one_slot q slot is, same)
    by_tie false is same = inr same

  pub child_filled : (q parent : SlotRef) → parent_of next q ≡ Some parent → (cap : Cap) × (cap_of next q ≡ Some cap)
  child_filled q parent e = by_case (parent_was q parent e) where
    by_case :
        ((q ≡ slot) × (above ≡ Some parent)) ⊎ (parent_of m q ≡ Some parent) → (cap : Cap) × (cap_of next q ≡ Some cap)
    by_case (inl is) = (new, ap (cap_of next) is.0 ∙ cap_here)
    by_case (inr was) = let w = fills.fits.child_filled q parent was in (w.0, cap_stays q w.0 w.1)

  -- each parent was filled before
  pub parent_filled : (q parent : SlotRef) → parent_of next q ≡ Some parent → (cap : Cap) × (cap_of m parent ≡ Some cap)
  parent_filled q parent e = by_case (parent_was q parent e) where
    by_case :
        ((q ≡ slot) × (above ≡ Some parent)) ⊎ (parent_of m q ≡ Some parent) → (cap : Cap) × (cap_of m parent ≡ Some cap)
    by_case (inl is) = fills.full parent is.1
    by_case (inr was) = fills.fits.parent_filled q parent was

  top_filled : {q over : SlotRef} → Descends next q over → (cap : Cap) × (cap_of m over ≡ Some cap)
  top_filled (child e) = parent_filled _ _ e
  top_filled (further e rest) = top_filled rest

  old_parent : (q parent : SlotRef) → q ≢ slot → parent_of next q ≡ Some parent → parent_of m q ≡ Some parent
  old_parent q parent apart e = by_case (parent_was q parent e) where
    by_case : ((q ≡ slot) × (above ≡ Some parent)) ⊎ (parent_of m q ≡ Some parent) → parent_of m q ≡ Some parent
    by_case (inl is) = absurd (apart is.0)
    by_case (inr was) = was

  descent_was : {q over : SlotRef} → q ≢ slot → Descends next q over → Descends m q over
  descent_was apart (child e) = child (old_parent _ _ apart e)
  descent_was apart (further {parent = parent} e rest) =
      further (old_parent _ _ apart e) (descent_was (not_filled parent (parent_filled _ _ e)) rest)

  pub no_cycle : (q : SlotRef) → ¬ (Descends next q q)
  no_cycle q d = fills.fits.acyclic q (descent_was (not_filled q (top_filled d)) d)
