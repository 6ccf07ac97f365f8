use Rattle.std.proofs.{Common.{◌++◌, ◌∙◌, ap, filter, flat_map, sym}, lemmas.List.{append-nil, take_all}}
use Rattle.{machine.specs.{Capabilities.gives, Layout.declared_label}, labels.{specs.SlotEdges.edge_between, proofs.EdgeLists.edges_more}}
use Rattle.labels.proofs.edges.push_kinds.Goals as goal

pub loop-kind-init : goal.loop-kind-init
loop-kind-init c = sym (append-nil c.args.edges.now.items)

pub loop-kind-preserved : goal.loop-kind-preserved
loop-kind-preserved c =
    let between = edge_between (declared_label c.args.table.now c.args.holder) (declared_label c.args.table.now c.args.held.now.object) in
    edges_more between (gives c.args.held.now.detail) c.possible_kinds-kind-items.result.now c.loop-kind.kind-index _ c.args.edges.now.items c.loop-kind.edges.items
    c.push_kind.new.edges.items c.loop-kind-test.true c.loop-kind.invariant c.in_ok-push_kind.ensures

pub returns : goal.returns
returns c =
    let between = edge_between (declared_label c.args.table.now c.args.holder) (declared_label c.args.table.now c.args.held.now.object) in
    let given = gives c.args.held.now.detail in
    let all = take_all c.loop-kind.kind-index c.possible_kinds-kind-items.result.now c.loop-kind-test.false in
    c.loop-kind.invariant
    ∙ ap (λ kinds. c.args.edges.now.items ++ flat_map between kinds) (ap (filter given) all ∙ c.possible_kinds-kind-items.ensures)
