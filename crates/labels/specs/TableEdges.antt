-- The edges of authority that a capability table declares: those of its slots, and a runs edge for each thread that it binds to a
-- context ('seL4 Enforces Integrity', section 3, "Authority", read off an initial state).
use Rattle.std.specs.Prelude.{◌++◌, List, flat_map}
use Rattle.base.specs.declared.{edge.Edge.Edge, kind.Kind.TheVariants.Runs}
use Rattle.machine.specs.{declared.layout.{Binding.Binding, Filled.Filled}, Layout.{Layout, declared_label}}
use Rattle.labels.specs.SlotEdges.{edge_between, slot_edges_of}

abbrev pub edges_of_filled : Layout → Filled → List Edge
edges_of_filled t filled = slot_edges_of t filled.slot

abbrev pub edges_of_binding : Layout → Binding → List Edge
edges_of_binding t binding = edge_between (declared_label t binding.thread) (declared_label t binding.context) Runs

-- the edges of a table, some more than once; the child of each pair of the tree is among the filled slots
abbrev pub table_edges : Layout → List Edge
table_edges t = flat_map (edges_of_filled t) t.caps ++ flat_map (edges_of_binding t) t.bindings
