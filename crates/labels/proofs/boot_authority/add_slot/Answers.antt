use Rattle.std.proofs.{Common.{◌||◌, ◌∙◌, ◌≡◌, ap, arith, get_or, refl, rules}, lemmas.List.take_all}
use Rattle.{policy.specs.Policy.allows, labels.proofs.EdgeLists.{none_added, one_more}}
use Rattle.labels.proofs.boot_authority.add_slot.Goals as goal

pub loop-edge-init : goal.loop-edge-init
loop-edge-init c = λ from kind to. none_added _ c.args.found.now from kind to refl

pub loop-edge-preserved : goal.loop-edge-preserved
loop-edge-preserved c =
    let edge = c.edge-item.result in
    let here : edge ≡ get_or c.deref-edge-items.result.now c.loop-edge.edge-index edge = first_of (search rules, grind arith) in
    λ from kind to.
    one_more c.deref-edge-items.result.now c.loop-edge.edge-index edge c.args.found.now c.loop-edge.found c.add.new.self from kind to
    c.loop-edge-test.true here (c.loop-edge.invariant from kind to) (c.in_ok-add.ensures.added from kind to)

pub returns-clause-ok : goal.returns-clause-ok
returns-clause-ok c from kind to =
    let all = take_all c.loop-edge.edge-index c.deref-edge-items.result.now c.loop-edge-test.false in
    c.loop-edge.invariant from kind to
    ∙ ap (λ edges. allows c.args.found.now from kind to || allows edges from kind to)
    (all ∙ c.deref-edge-items.ensures.value ∙ c.in_ok-edges.ensures.edges)
