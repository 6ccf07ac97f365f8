-- Copies, mints and moves of capabilities: what they need of the slots that the call names, and what they keep.
use Rattle.std.{specs.Prelude.{IsSome, IsTrue, None, Ok, Option, Some, if◌then◌else◌, nat_lt, option_map}, proofs.Common.{◌∙◌, ◌≡◌, ◌≢◌}}
use Rattle.std.proofs.{Common.{Bool, ap, false, refl, subst, sym, true}, lemmas.Bool.{false≢true, ltb-true}}
use Rattle.base.specs.declared.{ids.{ObjId.ObjId, SlotRef.SlotRef}, rights.Rights.Rights}
use Rattle.machine.specs.declared.{call.{Answer.Answer as answer, CapData.CapData, Made.TheVariants.Done}, cap.{Cap.Cap, Detail.Detail}}
use Rattle.machine.specs.{declared.{object.Object.Object, slot_address.{Ends.Ends, SlotAddress.SlotAddress}}, Capabilities.kind_of_detail}
use Rattle.machine.specs.{Machine.{Machine, cap_of, has_slot, object_of, parent_of, same_slot, with_cap}, Objects.kind_of_object}
use Rattle.machine.specs.{Objects.slot_count, Step.{Copy.{copy_of, copyable, masked}, Mint.{mint_of, minted}, Move.move_of, Target.ends_of}}
use Rattle.machine.specs.{Tree.{IsAlone, copied, parent_of_copy, with_copy, with_moved}, WellFormed.{IsWellFormed, kind_of}}
use Rattle.machine.proofs.{Exchange.slot_itself, LookUps.{cap_of-with_cap, parent_of-with_cap}}
use Rattle.machine.specs.declared.object.ObjectKind.TheVariants as kind
use Rattle.steps.proofs.{FillsFormed.{Takes, derives_formed, fills_formed}, LedSlots.{led_slot, node_slot}, MovesFormed.move_formed}
use Rattle.steps.proofs.SlotRows.{copy_done, empty_alone, ends_found, mint_done, move_done, with_copy_fills}

-- the slot that a call names as its target is there
pub target_there :
    (m : Machine) (caller : ObjId) (to from : SlotAddress) (ends : Ends) → ends_of m caller to from ≡ Ok ends
    → IsTrue (has_slot m ends.target)
target_there m caller to from ends e =
    node_slot m ends.target (led_slot m caller to ends.target (ends_found m caller to from ends e).leads_to)

-- the target is empty
pub target_vacant :
    (m : Machine) (caller : ObjId) (to from : SlotAddress) (ends : Ends) → ends_of m caller to from ≡ Ok ends
    → cap_of m ends.target ≡ None
target_vacant m caller to from ends e = (ends_found m caller to from ends e).vacant

-- the source holds what was found in it
pub source_filled :
    (m : Machine) (caller : ObjId) (to from : SlotAddress) (ends : Ends) → ends_of m caller to from ≡ Ok ends
    → cap_of m ends.source ≡ Some ends.held
source_filled m caller to from ends e = (ends_found m caller to from ends e).filled

-- the object of a capability is there
pub object_there :
    (m : Machine) (slot : SlotRef) (held : Cap) → IsWellFormed m → cap_of m slot ≡ Some held → IsSome (object_of m held.object)
object_there m slot held formed filled = by_object (object_of m held.object) (formed.slots.object slot held filled) where
  by_object : (o : Option Object) → option_map kind_of_object o ≡ Some (kind_of_detail held.detail) → IsSome o
  by_object None of_kind = cc
  by_object (Some object) of_kind = refl

-- a slot that is filled holds something
pub filled_now : (m : Machine) (slot : SlotRef) (held : Cap) → IsSome (cap_of (with_cap m slot held) slot)
filled_now m slot held =
    subst (λ (c : Option Cap). IsSome c) (sym (cap_of-with_cap m slot held slot)) (by_tie (same_slot slot slot) (slot_itself slot))
  where
    by_tie : (tie : Bool) → tie ≡ true → IsSome (if tie then Some held else cap_of m slot)
    by_tie true is = refl
    by_tie false is = cc

-- a filled slot stays filled where one is filled
pub filled_still :
    (m : Machine) (slot q : SlotRef) (held was : Cap) → cap_of m q ≡ Some was → IsSome (cap_of (with_cap m slot held) q)
filled_still m slot q held was full =
    subst (λ (c : Option Cap). IsSome c) (sym (cap_of-with_cap m slot held q)) (by_tie (same_slot q slot))
  where
    by_tie : (tie : Bool) → IsSome (if tie then Some held else cap_of m q)
    by_tie true = refl
    by_tie false = rw full refl

-- the parent of a copy is filled
parent_filled :
    (m : Machine) (source parent : SlotRef) (held : Cap) → IsWellFormed m → cap_of m source ≡ Some held
    → parent_of_copy m source held ≡ Some parent → (over : Cap) × (cap_of m parent ≡ Some over)
parent_filled m source parent held formed full is = by_original held.original refl where
  by_original : (original : Bool) → held.original ≡ original → (over : Cap) × (cap_of m parent ≡ Some over)
  by_original true first =
      let named : parent_of_copy m source held ≡ Some source = rw first refl in
      let same : source ≡ parent = cc in
      (held, ap (cap_of m) (sym same) ∙ full)
  by_original false later =
      let named : parent_of_copy m source held ≡ parent_of m source = rw later refl in
      formed.slots.parent_filled source parent (sym named ∙ is)

-- the parent of a copy stays filled where the target is filled
pub parent_still :
    (m : Machine) (target source parent : SlotRef) (held new : Cap) → IsWellFormed m → cap_of m source ≡ Some held
    → parent_of_copy m source held ≡ Some parent → IsSome (cap_of (with_cap m target new) parent)
parent_still m target source parent held new formed full is =
    let over = parent_filled m source parent held formed full is in filled_still m target parent new over.0 over.1

-- the target isn't its own parent
pub parent_apart :
    (m : Machine) (target source parent : SlotRef) (held : Cap) → IsWellFormed m → cap_of m target ≡ None
    → cap_of m source ≡ Some held → parent_of_copy m source held ≡ Some parent → target ≢ parent
parent_apart m target source parent held formed empty full is same =
    let over = parent_filled m source parent held formed full is in
    let none : None ≡ Some over.0 = sym empty ∙ ap (cap_of m) same ∙ over.1 in
    cc

-- a slot that was empty is in no pair when it is filled
pub filled_alone :
    (m : Machine) (slot : SlotRef) (held : Cap) → IsWellFormed m → cap_of m slot ≡ None → IsAlone (with_cap m slot held) slot
filled_alone m slot held formed empty =
    record {
      root = parent_of-with_cap m slot held slot ∙ empty_alone m slot formed empty;
      leaf = λ child. no_child child (parent_of-with_cap m slot held child);
    }
  where
    no_child :
        (child : SlotRef) → parent_of (with_cap m slot held) child ≡ parent_of m child
        → parent_of (with_cap m slot held) child ≢ Some slot
    no_child child same e =
        let was = formed.slots.parent_filled child slot (sym same ∙ e) in
        let none : None ≡ Some was.0 = sym empty ∙ was.1 in
        cc

-- a slot that is there takes what a capability says, a root slot that of a CNode's
takes :
    (m : Machine) (slot : SlotRef) (detail : Detail) → IsTrue (has_slot m slot)
    → (kind_of m slot.holder ≡ Some kind.Tcb → kind_of_detail detail ≡ kind.CNode) → Takes m slot detail
takes m slot detail there root = by_object (object_of m slot.holder) refl there where
  within : Option Object → Bool
  within None = false
  within (Some object) = nat_lt slot.index (slot_count object)

  by_object : (o : Option Object) → object_of m slot.holder ≡ o → IsTrue (within o) → Takes m slot detail
  by_object None is has = absurd (false≢true has)
  by_object (Some object) is has = record {
    object = object;
    there = is;
    within = ltb-true slot.index (slot_count object) has;
    root = λ tcb. root (ap (option_map kind_of_object) is ∙ ap (λ k. Some k) tcb);
  }

-- a copy of the same kind that isn't untyped memory's keeps machines well formed
pub derived_formed :
    (m : Machine) (ends : Ends) (detail : Detail) → IsWellFormed m → IsTrue (has_slot m ends.target)
    → cap_of m ends.target ≡ None → cap_of m ends.source ≡ Some ends.held
    → kind_of_detail detail ≡ kind_of_detail ends.held.detail → kind_of_detail ends.held.detail ≢ kind.Untyped
    → (kind_of m ends.target.holder ≡ Some kind.Tcb → kind_of_detail detail ≡ kind.CNode)
    → IsWellFormed (with_copy m ends.target ends.source ends.held detail)
derived_formed m ends detail formed there empty full alike typed root =
    fills_formed m (with_copy m ends.target ends.source ends.held detail) ends.target ends.source ends.held
    (copied ends.held detail) formed (with_copy_fills m ends.target ends.source ends.held detail formed empty)
    (takes m ends.target detail there root) empty full refl alike typed

-- a copy by a call keeps machines well formed
pub copied_formed :
    (m : Machine) (caller : ObjId) (to from : SlotAddress) (mask : Rights) (ends : Ends) → IsWellFormed m
    → ends_of m caller to from ≡ Ok ends → copyable ends.held.detail ≡ Ok tt
    → IsWellFormed (with_copy m ends.target ends.source ends.held (masked mask ends.held.detail))
unfolding copy_of
copied_formed m caller to from mask ends formed found may =
    let next = with_copy m ends.target ends.source ends.held (masked mask ends.held.detail) in
    let row : copy_of m caller to from mask ≡ Ok (Done answer.Nothing, next) = rw (found, may) refl in
    derives_formed m caller to from next formed (copy_done m caller to from mask (Done answer.Nothing) next formed row)

-- a mint keeps machines well formed
pub minted_formed :
    (m : Machine) (caller : ObjId) (to from : SlotAddress) (mask : Rights) (given : CapData) (ends : Ends) (detail : Detail)
    → IsWellFormed m → ends_of m caller to from ≡ Ok ends → copyable ends.held.detail ≡ Ok tt
    → minted (object_of m ends.held.object) given (masked mask ends.held.detail) ≡ Ok detail
    → IsWellFormed (with_copy m ends.target ends.source ends.held detail)
unfolding mint_of
minted_formed m caller to from mask given ends detail formed found may new =
    let next = with_copy m ends.target ends.source ends.held detail in
    let row : mint_of m caller to from mask given ≡ Ok (Done answer.Nothing, next) = rw (found, may, new) refl in
    derives_formed m caller to from next formed (mint_done m caller to from mask given (Done answer.Nothing) next formed row)

-- a move keeps machines well formed
pub relocated_formed :
    (m : Machine) (caller : ObjId) (to from : SlotAddress) (ends : Ends) → IsWellFormed m → ends_of m caller to from ≡ Ok ends
    → IsWellFormed (with_moved m ends.target ends.source ends.held)
unfolding move_of
relocated_formed m caller to from ends formed found =
    let next = with_moved m ends.target ends.source ends.held in
    let row : move_of m caller to from ≡ Ok (Done answer.Nothing, next) = rw found refl in
    move_formed m caller to from next formed (move_done m caller to from (Done answer.Nothing) next row)
