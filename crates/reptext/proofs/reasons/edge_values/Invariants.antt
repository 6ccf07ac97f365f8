use Rattle.std.proofs.Common.{◌≡◌, map, take}
use Rattle.{serde_json.specs.View.view, reptext.specs.Reasons.edge_data}
use Rattle.reptext.proofs.reasons.edge_values.Given as goal

-- the edges so far are kept
abbrev pub invariant-loop-edge : goal.invariant-loop-edge
invariant-loop-edge l = map view l.values.items ≡ map (edge_data l.table) (take l.edge-index l.edges)
