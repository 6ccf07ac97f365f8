-- That the thread and its root slot still exist after the removal, if the slot with the thread's capability is still filled.
use Rattle.std.proofs.Common.{◌∙◌, IsTrue, ap, refl, subst, sym}
use Rattle.machine.specs.{declared.object.ObjectKind.ObjectKind as kind, Lookup.root_of, Machine.{Machine, cap_of, has_slot}}
use Rattle.steps.proofs.Finding.{finds}
use Rattle.threads.proofs.spaces.make_set_space.Goals as goal

pub fill_root-requires-clause-there : goal.fill_root-requires-clause-there
fill_root-requires-clause-there c of held filled left =
    let m : Machine = c.args.state.now in
    let caller = c.args.caller in
    let slot = c.in_ok-slot.slot in
    let tcb = c.in_ok-slot.tcb in
    let changes = c.clear_root.ensures.changes in
    let there = finds kind.Tcb m caller c.args.address (slot, tcb) (sym c.find.ensures ∙ c.in_ok-slot.was) in
    subst (λ (next : Machine). IsTrue (has_slot next (root_of tcb.object))) (sym changes)
    (c.cleared_root_slots_can_be_filled.ensures.there m tcb.object slot tcb c.requires there.finds.holds refl there.detail of
    (sym (ap (λ (next : Machine). cap_of next slot) changes) ∙ filled))
