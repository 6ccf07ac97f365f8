-- A slot may come below what it descends from, since that stands above it.
use Rattle.std.{specs.Prelude.{None, Option, Some}, proofs.Common.{◌∙◌, ap, subst, sym}}
use Rattle.{base.specs.declared.ids.SlotRef.SlotRef, machine.specs.{Machine.with_parent, Tree.IsRanked}}
use Rattle.objects.proofs.PairLemmas.{place-without_parent}
use Rattle.derivation.{specs.{Raising.parent_hung, Removing.HasParents}, proofs.Hangs.{below_named, high_end, hung_below}}
use Rattle.derivation.proofs.{Hangs.{hung_root, low_end, ranked_hung}, Moves.slot_without_parent, Pairs.taken_from_parent}
use Rattle.derivation.proofs.raising.hang.Goals as goal

pub attach-requires-clause-below : goal.attach-requires-clause-below
attach-requires-clause-below c =
    let up = low_end c.args.state.now (below_named c.args.state.now c.args.slot c.requires c.in-Some.is) in
    rw c.detach.ensures
    (slot_without_parent c.args.state.now c.args.slot c.args.slot (c.keeps_a_forest.ensures.below c.args.slot up.0 up.1))

pub attach-requires-clause-above : goal.attach-requires-clause-above
attach-requires-clause-above c =
    let low = high_end c.args.state.now (below_named c.args.state.now c.args.slot c.requires c.in-Some.is) in
    rw c.detach.ensures
    (slot_without_parent c.args.state.now c.args.slot c.in-Some.heir (c.keeps_a_forest.ensures.above low.0 c.in-Some.heir low.1))

pub attach-requires-clause-low : goal.attach-requires-clause-low
attach-requires-clause-low c =
    let up = low_end c.args.state.now (below_named c.args.state.now c.args.slot c.requires c.in-Some.is) in
    rw c.detach.ensures
    (place-without_parent c.args.state.now c.args.slot c.args.slot (c.keeps_a_forest.ensures.paired.below c.args.slot up.0 up.1))

pub attach-requires-clause-high : goal.attach-requires-clause-high
attach-requires-clause-high c =
    let low = high_end c.args.state.now (below_named c.args.state.now c.args.slot c.requires c.in-Some.is) in
    rw c.detach.ensures
    (place-without_parent c.args.state.now c.args.slot c.in-Some.heir
    (c.keeps_a_forest.ensures.paired.above low.0 c.in-Some.heir low.1))

pub attach-requires-clause-root : goal.attach-requires-clause-root
attach-requires-clause-root c = rw c.detach.ensures (taken_from_parent c.args.state.now c.args.slot)

pub attach-requires-clause-ranked : goal.attach-requires-clause-ranked
attach-requires-clause-ranked c =
    subst (λ m. IsRanked (with_parent m c.args.slot c.in-Some.heir)) (sym c.detach.ensures)
    (ranked_hung c.args.state.now c.keeps_a_forest.ensures.ranked c.args.slot c.in-Some.heir (below_named c.args.state.now c.args.slot c.requires c.in-Some.is))

pub returns-in-Some : goal.returns-in-Some
returns-in-Some c =
    subst (λ (above : Option SlotRef). HasParents c.args.state.now c.attach.new.self (parent_hung c.args.state.now c.args.slot above))
    (sym c.in-Some.is)
    (subst (λ m. HasParents c.args.state.now m (parent_hung c.args.state.now c.args.slot (Some c.in-Some.heir)))
    (sym (c.attach.ensures ∙ ap (λ m. with_parent m c.args.slot c.in-Some.heir) c.detach.ensures))
    (hung_below c.args.state.now c.args.slot c.in-Some.heir))

pub returns-in_default : goal.returns-in_default
returns-in_default c =
    subst (λ (above : Option SlotRef). HasParents c.args.state.now c.detach.new.self (parent_hung c.args.state.now c.args.slot above))
    (sym c.in_default.is)
    (subst (λ m. HasParents c.args.state.now m (parent_hung c.args.state.now c.args.slot None)) (sym c.detach.ensures)
    (hung_root c.args.state.now c.args.slot))
