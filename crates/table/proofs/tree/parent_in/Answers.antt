-- The slots rise, so a search finds the one pair of a child, or there is none.
use Rattle.std.proofs.{Common.{ap, option_map, rules}, lemmas.List.Sorted.answers_always}
use Rattle.machine.{specs.declared.layout.Pair.Pair, proofs.LookUps.slot_total}
use Rattle.table.proofs.SearchLemmas.{found_at, not_found, searchable}
use Rattle.table.proofs.tree.parent_in.Goals as goal

pub returns-in-Ok : goal.returns-in-Ok
returns-in-Ok c =
    let found = c.in-Ok.ensures.position (λ (pair : Pair). pair.child) (answers_always _ _ _ (λ f a r g h. search rules)) in
    ap (option_map (λ (pair : Pair). pair.parent))
    (found_at slot_total (λ (pair : Pair). pair.child) c.args.pairs.now c.requires c.args.slot c.in-Ok.index _
    c.in-Ok.ensures.bound (found _))

pub returns-in-Err : goal.returns-in-Err
returns-in-Err c =
    let apart = c.in-Err.ensures.position (λ (pair : Pair). pair.child) (answers_always _ _ _ (λ f a r g h. search rules)) in
    ap (option_map (λ (pair : Pair). pair.parent))
    (not_found slot_total (λ (pair : Pair). pair.child) c.args.pairs.now c.requires c.args.slot _
    (apart (searchable slot_total (λ (pair : Pair). pair.child) c.args.pairs.now c.requires c.args.slot)))
