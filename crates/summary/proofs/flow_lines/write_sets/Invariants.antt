-- The lines so far are written.
use Rattle.std.{specs.List.flat_map, proofs.Common.{◌++◌, ◌≡◌, string_bytes, take}}
use Rattle.summary.specs.FlowText.{set_line}
use Rattle.summary.proofs.flow_lines.write_sets.Given as goal

abbrev pub invariant-loop-set : goal.invariant-loop-set
invariant-loop-set l = string_bytes l.text ≡ string_bytes l.fn.text ++ flat_map (set_line l.table) (take l.set-index l.sets)
