-- The lines so far are written.
use Rattle.std.{specs.List.flat_map, proofs.Common.{◌++◌, ◌≡◌, string_bytes, take}}
use Rattle.diff.specs.Text.{change_line}
use Rattle.diff.proofs.writing.write_changes.Given as goal

abbrev pub invariant-loop-change : goal.invariant-loop-change
invariant-loop-change l = string_bytes l.text ≡ string_bytes l.fn.text ++ flat_map (change_line l.old l.new) (take l.change-index l.changes)
