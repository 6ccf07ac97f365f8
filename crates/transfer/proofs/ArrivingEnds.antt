-- The slots between which a message's capability is copied: the target exists and is empty, and the source holds what was found there.
use Rattle.std.{specs.Prelude.{IsTrue, None, Ok, Option, Some}, proofs.Common.{◌≡◌, subst}}
use Rattle.base.specs.declared.ids.ObjId.{ObjId}
use Rattle.machine.specs.{declared.{slot_address.{Ends.Ends, SlotAddress.SlotAddress}, thread.Sending.Sending}, Machine.{Machine, cap_of}}
use Rattle.machine.specs.{Machine.has_slot, Step.{Copy.copyable, Deliver.{arrival_of, named}, Find.{find_cap, permitted}, Target.target_of}}
use Rattle.machine.specs.Step.Target.{vacant}
use Rattle.steps.proofs.{Conditions.{both_done, same_ok}, Finding.finds_cap, LedSlots.{led_slot, node_slot}, SlotRows.is_vacant}
use Rattle.steps.proofs.SlotRows.{target_leads}

pub record CanDerive (m : Machine) (ends : Ends) : Type 0 where
  pub there : IsTrue (has_slot m ends.target)
  pub vacant : cap_of m ends.target ≡ None
  pub filled : cap_of m ends.source ≡ Some ends.held

pub can_derive :
    (m : Machine) (sender : ObjId) (sending : Sending) (receiver : ObjId) (slot : Option SlotAddress) (ends : Ends)
    → arrival_of m sender sending receiver slot ≡ Ok ends → CanDerive m ends
unfolding arrival_of
can_derive m sender sending receiver slot ends e =
    let grants = both_done (permitted sending.grant) _ ends e in
    let from = both_done (named sending.capability) _ ends grants.2 in
    let source = both_done (find_cap m sender from.0) _ ends from.2 in
    let may = both_done (copyable (source.0).1.detail) _ ends source.2 in
    let to = both_done (named slot) _ ends may.2 in
    let target = both_done (target_of m receiver to.0) _ ends to.2 in
    let empty = both_done (vacant (cap_of m target.0)) _ ends target.2 in
    subst (λ (found : Ends). CanDerive m found) (same_ok empty.2)
    (record {
      there = node_slot m target.0 (led_slot m receiver to.0 target.0 (target_leads m receiver to.0 target.0 target.1));
      vacant = is_vacant (cap_of m target.0) empty.0 empty.1;
      filled = (finds_cap m sender from.0 (source.0).0 (source.0).1 source.1).holds;
    })
