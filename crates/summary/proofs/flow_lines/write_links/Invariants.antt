-- The lines so far are written.
use Rattle.std.{specs.List.flat_map, proofs.Common.{◌++◌, ◌≡◌, string_bytes, take}}
use Rattle.summary.specs.FlowText.{link_line}
use Rattle.summary.proofs.flow_lines.write_links.Given as goal

abbrev pub invariant-loop-link : goal.invariant-loop-link
invariant-loop-link l = string_bytes l.text ≡ string_bytes l.fn.text ++ flat_map (link_line l.table) (take l.link-index l.links)
