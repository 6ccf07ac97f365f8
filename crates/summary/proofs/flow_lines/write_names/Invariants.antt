-- The names so far are written.
use Rattle.std.{specs.List.flat_map, proofs.Common.{◌++◌, ◌≡◌, string_bytes, take}}
use Rattle.summary.specs.FlowText.{spaced}
use Rattle.summary.proofs.flow_lines.write_names.Given as goal

abbrev pub invariant-loop-label : goal.invariant-loop-label
invariant-loop-label l = string_bytes l.text ≡ string_bytes l.fn.text ++ flat_map (spaced l.table) (take l.label-index l.labels)
