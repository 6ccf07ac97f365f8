-- The slots rise, so a pair of the child is the only one, and no child is between two neighbours.
use Rattle.std.{specs.Cmp.tied_itself, proofs.{Common.{◌∙◌, ap, option_map, refl, sym}, lemmas.Bool.ltb-true}}
use Rattle.base.specs.declared.ids.SlotRef.{SlotRef}
use Rattle.machine.{specs.{declared.layout.Pair.Pair, Machine.slot_cmp}, proofs.{Ids.slots_same, LookUps.slot_total}}
use Rattle.table.proofs.SearchLemmas.{found_there, none_between}
use Rattle.table.proofs.tree.parent_near.Goals as goal

pub returns-in-Some : goal.returns-in-Some
returns-in-Some c =
    let same = slots_same c.in-Some.pair.now.child c.args.slot (sym c.eq.ensures ∙ c.if-eq.true) in
    ap (option_map (λ (pair : Pair). pair.parent))
    (found_there slot_total (λ (pair : Pair). pair.child) c.args.pairs.now c.requires c.args.slot c.args.near _
    (ltb-true _ _ (sym c.in-Some.ensures.lookup.0)) c.in-Some.ensures.lookup.1 (ap (λ (s : SlotRef). slot_cmp s c.args.slot) same ∙ tied_itself slot_total c.args.slot))

pub returns-in_default : goal.returns-in_default
returns-in_default c =
    ap (option_map (λ (pair : Pair). pair.parent))
    (none_between slot_total (λ (pair : Pair). pair.child) c.args.pairs.now c.requires c.args.slot c.args.near
    (c.if-is_past.ensures refl) (c.if-is_ahead.ensures refl))
