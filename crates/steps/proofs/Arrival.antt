-- A capability that arrives with a message: the slots between which it is copied, and what changes.
use Rattle.std.{specs.Prelude.{Err, None, Ok, Option, Result, Some}, proofs.Common.{ℕ, ◌≡◌, ◌≢◌, ap, refl, subst, sym, true}}
use Rattle.base.specs.declared.{ids.ObjId.ObjId, refusal.Cause.Cause}
use Rattle.machine.specs.declared.{object.ObjectKind.ObjectKind as kind, slot_address.{Ends.Ends, SlotAddress.SlotAddress}}
use Rattle.machine.specs.{declared.thread.Sending.Sending, Capabilities.kind_of_detail, Machine.{Machine, cap_of, object_of, queue_of}}
use Rattle.machine.specs.Step.{Copy.copyable, Deliver.{arrival_of, named, with_arrival}, Find.{find_cap, permitted}, Target.target_of}
use Rattle.machine.{specs.{Step.Target.vacant, Tree.{copied, parent_of_copy}, WellFormed.IsWellFormed}, proofs.SlotChanges.Fills}
use Rattle.machine.proofs.SlotChanges.{SameObjects}
use Rattle.steps.proofs.{Conditions.{both_done, same_ok}, Copies.is_copyable, FillsFormed.{fills_formed, node_takes}, Finding.FindsCap}
use Rattle.steps.proofs.{Finding.{finds_cap, is_permitted}, LedSlots.led_slot, SlotRows.{LeadsTo, is_vacant, target_leads, with_copy_fills}}

-- a capability arrives: the sender has it and may grant, and the receiver has an empty slot for it
pub record Arrives (m : Machine) (sender : ObjId) (sending : Sending) (receiver : ObjId) (slot : Option SlotAddress) (ends : Ends)
    : Type 0 where
  pub granted : sending.grant ≡ true
  pub from : ℕ
  pub given : sending.capability ≡ Some from
  pub finds : FindsCap m sender from ends.source ends.held
  pub copyable : kind_of_detail ends.held.detail ≢ kind.Untyped
  pub to : SlotAddress
  pub takes : slot ≡ Some to
  pub leads_to : LeadsTo m receiver to ends.target
  pub vacant : cap_of m ends.target ≡ None

is_named : {A : Type 0} (given : Option A) (address : A) → named given ≡ Ok address → given ≡ Some address
is_named None address e = cc
is_named (Some other) address e = ap (λ a. Some a) (same_ok e)

pub arrives :
    (m : Machine) (sender : ObjId) (sending : Sending) (receiver : ObjId) (slot : Option SlotAddress) (ends : Ends)
    → arrival_of m sender sending receiver slot ≡ Ok ends → Arrives m sender sending receiver slot ends
unfolding arrival_of
arrives m sender sending receiver slot ends e =
    let may = both_done (permitted sending.grant) _ ends e in
    let from = both_done (named sending.capability) _ ends may.2 in
    let source = both_done (find_cap m sender from.0) _ ends from.2 in
    let copies = both_done (copyable (source.0).1.detail) _ ends source.2 in
    let to = both_done (named slot) _ ends copies.2 in
    let target = both_done (target_of m receiver to.0) _ ends to.2 in
    let empty = both_done (vacant (cap_of m target.0)) _ ends target.2 in
    subst (Arrives m sender sending receiver slot) (same_ok empty.2)
    (record {
      granted = is_permitted sending.grant may.0 may.1;
      from = from.0;
      given = is_named sending.capability from.0 from.1;
      finds = finds_cap m sender from.0 (source.0).0 (source.0).1 source.1;
      copyable = is_copyable (source.0).1.detail copies.0 copies.1;
      to = to.0;
      takes = is_named slot to.0 to.1;
      leads_to = target_leads m receiver to.0 target.0 target.1;
      vacant = is_vacant (cap_of m target.0) empty.0 empty.1;
    })

-- an empty slot of the receiver gets a copy of the sender's capability
pub arrival_fills :
    (m : Machine) (sender : ObjId) (sending : Sending) (receiver : ObjId) (slot : Option SlotAddress) (ends : Ends)
    → IsWellFormed m → Arrives m sender sending receiver slot ends
    → Fills m ends.target (copied ends.held ends.held.detail) (parent_of_copy m ends.source ends.held) (with_arrival m (Ok ends))
arrival_fills m sender sending receiver slot ends formed done =
    with_copy_fills m ends.target ends.source ends.held ends.held.detail formed done.vacant

-- a machine stays well formed whether or not a capability arrives, and nothing but slots differs
module _ (m : Machine) (sender : ObjId) (sending : Sending) (receiver : ObjId) (slot : Option SlotAddress)
    (formed : IsWellFormed m) where
  ends_formed : (ends : Ends) → Arrives m sender sending receiver slot ends → IsWellFormed (with_arrival m (Ok ends))
  ends_formed ends done =
      fills_formed m (with_arrival m (Ok ends)) ends.target ends.source ends.held (copied ends.held ends.held.detail) formed
      (arrival_fills m sender sending receiver slot ends formed done)
      (node_takes m ends.target ends.held.detail (led_slot m receiver done.to ends.target done.leads_to)) done.vacant
      done.finds.holds refl refl done.copyable

  pub arrival_formed : IsWellFormed (with_arrival m (arrival_of m sender sending receiver slot))
  arrival_formed = by_result (arrival_of m sender sending receiver slot) refl where
    by_result :
        (r : Result Ends Cause) → arrival_of m sender sending receiver slot ≡ r
        → IsWellFormed (with_arrival m (arrival_of m sender sending receiver slot))
    by_result (Ok ends) e =
        subst (λ (r : Result Ends Cause). IsWellFormed (with_arrival m r)) (sym e)
        (ends_formed ends (arrives m sender sending receiver slot ends e))
    by_result (Err cause) e = subst (λ (r : Result Ends Cause). IsWellFormed (with_arrival m r)) (sym e) formed

  pub arrival_objects : SameObjects m (with_arrival m (arrival_of m sender sending receiver slot))
  arrival_objects = by_result (arrival_of m sender sending receiver slot) refl where
    by_result :
        (r : Result Ends Cause) → arrival_of m sender sending receiver slot ≡ r
        → SameObjects m (with_arrival m (arrival_of m sender sending receiver slot))
    by_result (Ok ends) e =
        subst (λ (r : Result Ends Cause). SameObjects m (with_arrival m r)) (sym e)
        (arrival_fills m sender sending receiver slot ends formed (arrives m sender sending receiver slot ends e)).objects
    by_result (Err cause) e =
        subst (λ (r : Result Ends Cause). SameObjects m (with_arrival m r)) (sym e)
        (record { objects = λ id. refl; queues = λ id. refl; words = λ id. refl; number = refl; going = refl })

  pub arrival_same :
      (id : ObjId)
      → (object_of (with_arrival m (arrival_of m sender sending receiver slot)) id ≡ object_of m id)
      × (queue_of (with_arrival m (arrival_of m sender sending receiver slot)) id ≡ queue_of m id)
  arrival_same id = (arrival_objects.objects id, arrival_objects.queues id)
