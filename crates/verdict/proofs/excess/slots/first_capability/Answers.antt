-- That the first place is in the first slot that has one.
use Rattle.std.proofs.{Common.{◌∙◌, ◌≡◌, Some, ap, arith, option_copied, sym}, lemmas.List.FromFn.length-range_with_len}
use Rattle.machine.specs.{declared.object.Object.Object as o, Machine.object_of}
use Rattle.policy.{specs.Policy.allows, proofs.{Places.{least_here, none_at_all, none_more}, Sweep.stands}}
use Rattle.verdict.proofs.OutsidePlaces.{node_slots}
use Rattle.verdict.proofs.excess.slots.first_capability.Goals as goal

pub returns-in-Some : goal.returns-in-Some
returns-in-Some c =
    let m = c.args.state.now in
    let node = o.CNode c.in-Some-CNode.node in
    let is : object_of m c.args.holder ≡ Some (o.CNode c.in-Some-CNode.node) = cc (sym c.object.ensures ∙ ap option_copied c.in-Some-CNode.is) in
    least_here (node_slots c.args.table.now (allows c.args.policy.now) m c.args.holder c.args.from c.requires c.caps_are_in_slots.ensures node is
    c.slots-index-end.result c.slots-index-end.ensures.value)
    c.loop-index.index c.loop-index.index (stands c.slots-index-end.result c.loop-index.index c.loop-index-test.true) c.loop-index.invariant
    c.in-Some.denial c.in-Some.ensures

pub loop-index-preserved : goal.loop-index-preserved
loop-index-preserved c =
    let m = c.args.state.now in
    let node = o.CNode c.in-Some-CNode.node in
    let is : object_of m c.args.holder ≡ Some (o.CNode c.in-Some-CNode.node) = cc (sym c.object.ensures ∙ ap option_copied c.in-Some-CNode.is) in
    none_more (node_slots c.args.table.now (allows c.args.policy.now) m c.args.holder c.args.from c.requires c.caps_are_in_slots.ensures node is
    c.slots-index-end.result c.slots-index-end.ensures.value)
    c.loop-index.index c.loop-index.index (stands c.slots-index-end.result c.loop-index.index c.loop-index-test.true) c.loop-index.invariant
    c.in_default-first_kind.ensures

pub returns : goal.returns
returns c =
    let m = c.args.state.now in
    let node = o.CNode c.in-Some-CNode.node in
    let is : object_of m c.args.holder ≡ Some (o.CNode c.in-Some-CNode.node) = cc (sym c.object.ensures ∙ ap option_copied c.in-Some-CNode.is) in
    none_at_all (node_slots c.args.table.now (allows c.args.policy.now) m c.args.holder c.args.from c.requires c.caps_are_in_slots.ensures node is
    c.slots-index-end.result c.slots-index-end.ensures.value)
    c.loop-index.index (let size = length-range_with_len 0 c.slots-index-end.result in omega (arith, size)) c.loop-index.invariant
