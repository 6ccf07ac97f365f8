-- That the first place is in the first slot whose pair is broken.
use Rattle.std.proofs.{Common.{◌∙◌, ◌≡◌, Some, ap, arith, option_copied, sym}, lemmas.List.FromFn.length-range_with_len}
use Rattle.machine.specs.Machine.{object_of}
use Rattle.policy.{specs.Policy.allows, proofs.{Places.{least_here, none_at_all, none_more}, Sweep.stands}}
use Rattle.verdict.proofs.OutsidePlaces.{child_slots}
use Rattle.verdict.proofs.excess.slots.first_pair.Goals as goal

pub returns-in-Some : goal.returns-in-Some
returns-in-Some c =
    let m = c.args.state.now in
    let is : object_of m c.args.holder ≡ Some c.in_ok-object.field-0.now = sym c.object.ensures ∙ ap option_copied c.in_ok-object.was in
    least_here (child_slots c.args.table.now (allows c.args.policy.now) m c.args.holder c.args.to c.requires c.keeps_a_forest.ensures.below
    c.in_ok-object.field-0.now is c.slot_count-index-end.result c.slot_count-index-end.ensures.count)
    c.loop-index.index c.loop-index.index (stands c.slot_count-index-end.result c.loop-index.index c.loop-index-test.true) c.loop-index.invariant
    c.in-Some.denial c.in-Some.ensures

pub loop-index-preserved : goal.loop-index-preserved
loop-index-preserved c =
    let m = c.args.state.now in
    let is : object_of m c.args.holder ≡ Some c.in_ok-object.field-0.now = sym c.object.ensures ∙ ap option_copied c.in_ok-object.was in
    none_more (child_slots c.args.table.now (allows c.args.policy.now) m c.args.holder c.args.to c.requires c.keeps_a_forest.ensures.below
    c.in_ok-object.field-0.now is c.slot_count-index-end.result c.slot_count-index-end.ensures.count)
    c.loop-index.index c.loop-index.index (stands c.slot_count-index-end.result c.loop-index.index c.loop-index-test.true) c.loop-index.invariant
    c.in_default.ensures

pub returns : goal.returns
returns c =
    let m = c.args.state.now in
    let is : object_of m c.args.holder ≡ Some c.in_ok-object.field-0.now = sym c.object.ensures ∙ ap option_copied c.in_ok-object.was in
    none_at_all (child_slots c.args.table.now (allows c.args.policy.now) m c.args.holder c.args.to c.requires c.keeps_a_forest.ensures.below
    c.in_ok-object.field-0.now is c.slot_count-index-end.result c.slot_count-index-end.ensures.count)
    c.loop-index.index (let size = length-range_with_len 0 c.slot_count-index-end.result in omega (arith, size)) c.loop-index.invariant
