use Rattle.std.{specs.List.flat_map, proofs.Common.{◌++◌, ◌≡◌, string_bytes, take}}
use Rattle.{policy.specs.Policy.allows, summary.specs.UsersText.read_line}
use Rattle.summary.proofs.user_lines.write_readers.Given as goal

-- the lines so far are written
abbrev pub invariant-loop-label : goal.invariant-loop-label
invariant-loop-label l =
    string_bytes l.text ≡ string_bytes l.fn.text ++ flat_map (read_line l.table (allows l.policy) l.object) (take l.label-index l.labels)
