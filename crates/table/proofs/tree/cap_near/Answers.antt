-- The slots rise, so an entry of the slot is the only one.
use Rattle.std.{specs.Cmp.tied_itself, proofs.{Common.{◌∙◌, ap, option_map, sym}, lemmas.Bool.ltb-true}}
use Rattle.base.specs.declared.ids.SlotRef.{SlotRef}
use Rattle.machine.{specs.{declared.layout.Filled.Filled, Machine.slot_cmp}, proofs.{Ids.slots_same, LookUps.slot_total}}
use Rattle.table.proofs.SearchLemmas.{found_there}
use Rattle.table.proofs.tree.cap_near.Goals as goal

pub returns-in-Some : goal.returns-in-Some
returns-in-Some c =
    let same = slots_same c.in-Some.filled.now.slot c.args.slot (sym c.eq.ensures ∙ c.if-eq.true) in
    ap (option_map (λ (filled : Filled). filled.cap))
    (found_there slot_total (λ (filled : Filled). filled.slot) c.args.caps.now c.requires c.args.slot c.args.near _
    (ltb-true _ _ (sym c.in-Some.ensures.lookup.0)) c.in-Some.ensures.lookup.1 (ap (λ (s : SlotRef). slot_cmp s c.args.slot) same ∙ tied_itself slot_total c.args.slot))
