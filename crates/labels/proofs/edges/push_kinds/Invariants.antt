use Rattle.std.proofs.Common.{◌++◌, ◌≡◌, filter, flat_map, take}
use Rattle.{machine.specs.{Capabilities.gives, Layout.declared_label}, labels.specs.SlotEdges.edge_between}
use Rattle.labels.proofs.edges.push_kinds.Given as goal

-- the edges of the kinds so far are there
abbrev pub invariant-loop-kind : goal.invariant-loop-kind
invariant-loop-kind l =
    l.edges.items
    ≡ l.fn.edges.items
    ++ flat_map (edge_between (declared_label l.table l.holder) (declared_label l.table l.held.object))
    (filter (gives l.held.detail) (take l.kind-index l.kind-items))
