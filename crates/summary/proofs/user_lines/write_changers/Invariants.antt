use Rattle.{std.{specs.List.flat_map, proofs.Common.{◌++◌, ◌≡◌, string_bytes, take}}, summary.specs.UsersText.change_line}
use Rattle.summary.proofs.user_lines.write_changers.Given as goal

-- the lines so far are written
abbrev pub invariant-loop-user : goal.invariant-loop-user
invariant-loop-user l =
    string_bytes l.text ≡ string_bytes l.fn.text ++ flat_map (change_line l.table l.object) (take l.user-index l.users)
