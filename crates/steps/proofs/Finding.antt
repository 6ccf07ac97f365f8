-- The capability that a call finds at an address: its slot, where the lookup ends, and its object, which is of a kind.
use Rattle.std.{specs.Prelude.{None, Ok, Option, Some}, proofs.Common.{ℕ, ◌∙◌, ◌≡◌, Bool, ap, false, refl, sym, true}}
use Rattle.base.specs.declared.ids.{ObjId.ObjId, SlotRef.SlotRef}
use Rattle.machine.specs.declared.cap.{Cap.Cap, Detail.{Detail, Detail as d}, Guard.Guard}
use Rattle.machine.specs.{declared.object.ObjectKind.{ObjectKind, ObjectKind as kind}, Capabilities.{badged_of, kind_of_detail}}
use Rattle.machine.specs.{Lookup.lookup_of, Machine.{Machine, cap_of}, Refusing.◌>>=◌, Step.Find.{find, find_cap, held_in, of_kind}}
use Rattle.{machine.specs.{Step.Find.permitted, WellFormed.{IsWellFormed, kind_of}}, steps.proofs.Conditions.{both_done, same_ok}}

-- the lookup of a thread's address ends at a slot that holds this capability
pub record FindsCap (m : Machine) (caller : ObjId) (address : ℕ) (slot : SlotRef) (held : Cap) : Type 0 where
  pub left : ℕ
  pub ends : lookup_of m caller address ≡ Ok (slot, left)
  pub holds : cap_of m slot ≡ Some held

held_there : (filling : Option Cap) (held : Cap) → held_in filling ≡ Ok held → filling ≡ Some held
held_there None held e = cc
held_there (Some other) held e = ap (λ c. Some c) (same_ok e)

pub finds_cap :
    (m : Machine) (caller : ObjId) (address : ℕ) (slot : SlotRef) (held : Cap) → find_cap m caller address ≡ Ok (slot, held)
    → FindsCap m caller address slot held
unfolding find_cap
finds_cap m caller address slot held e =
    let looked = both_done (lookup_of m caller address) _ (slot, held) e in
    let filled = both_done (held_in (cap_of m (looked.0).0)) _ (slot, held) looked.2 in
    let same : ((looked.0).0, filled.0) ≡ (slot, held) = same_ok filled.2 in
    let at : (looked.0).0 ≡ slot = ap (λ p. p.0) same in
    record {
      left = (looked.0).1;
      ends = looked.1 ∙ ap (λ (s : SlotRef). Ok (s, (looked.0).1)) at;
      holds =
          sym (ap (cap_of m) at) ∙ held_there (cap_of m (looked.0).0) filled.0 filled.1 ∙ ap (λ p. Some p.1) same;
    }

-- an address leads to a capability for this object, with this detail
pub record FindsObject (m : Machine) (caller : ObjId) (address : ℕ) (id : ObjId) (says : Detail) : Type 0 where
  pub slot : SlotRef
  pub held : Cap
  pub finds : FindsCap m caller address slot held
  pub object : held.object ≡ id
  pub detail : held.detail ≡ says

abbrev guard_in : Detail → Guard
guard_in (d.CNode guard) = guard
guard_in _ = record { size = 0; value = 0 }

-- the detail of a capability, if it is for an object of the kind
abbrev pub as_kind : ObjectKind → Detail → Detail
as_kind kind.Untyped detail = d.Untyped
as_kind kind.CNode detail = d.CNode (guard_in detail)
as_kind kind.Tcb detail = d.Tcb
as_kind kind.Endpoint detail = d.Endpoint (badged_of detail)
as_kind kind.Notification detail = d.Notification (badged_of detail)
as_kind kind.Reply detail = d.Reply
as_kind kind.Context detail = d.Context
as_kind kind.Frame detail = d.Frame (badged_of detail).rights
as_kind kind.Control detail = d.Control

is_of : (wanted : ObjectKind) (detail : Detail) (u : Unit {0}) → of_kind wanted detail ≡ Ok u → detail ≡ as_kind wanted detail
is_of kind.Untyped d.Untyped u e = refl
is_of kind.CNode (d.CNode guard) u e = refl
is_of kind.Tcb d.Tcb u e = refl
is_of kind.Endpoint (d.Endpoint end) u e = refl
is_of kind.Notification (d.Notification end) u e = refl
is_of kind.Reply d.Reply u e = refl
is_of kind.Context d.Context u e = refl
is_of kind.Frame (d.Frame rights) u e = refl
is_of kind.Control d.Control u e = refl
is_of _ _ u e = cc

-- the capability that a call found is for an object of the kind that the call wants
module _ (wanted : ObjectKind) (m : Machine) (caller : ObjId) (address : ℕ) (found : SlotRef × Cap)
    (e : find wanted m caller address ≡ Ok found) where
  pub found_there : FindsCap m caller address found.0 found.1 × (found.1.detail ≡ as_kind wanted found.1.detail)
  unfolding find
  found_there =
      let looked = both_done (find_cap m caller address) _ found e in
      let of = both_done (of_kind wanted (looked.0).1.detail) _ found looked.2 in
      let same : looked.0 ≡ found = same_ok of.2 in (
        finds_cap m caller address found.0 found.1 (looked.1 ∙ ap (λ f. Ok f) same),
        is_of wanted found.1.detail of.0 (ap (λ f. of_kind wanted f.1.detail) (sym same) ∙ of.1),
      )

  abbrev pub finds : FindsObject m caller address found.1.object (as_kind wanted found.1.detail)
  finds = record { slot = found.0; held = found.1; finds = found_there.0; object = refl; detail = found_there.1 }

-- the object is of the kind that its capability says
pub found_kind :
    {m : Machine} {caller : ObjId} {address : ℕ} {id : ObjId} {says : Detail} → IsWellFormed m
    → FindsObject m caller address id says → kind_of m id ≡ Some (kind_of_detail says)
found_kind {m = m} formed h =
    ap (kind_of m) (sym h.object) ∙ formed.slots.object h.slot h.held h.finds.holds ∙ ap (λ x. Some (kind_of_detail x)) h.detail

pub is_permitted : (allowed : Bool) (u : Unit {0}) → permitted allowed ≡ Ok u → allowed ≡ true
is_permitted true u e = refl
is_permitted false u e = cc
