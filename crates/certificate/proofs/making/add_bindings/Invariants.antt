use Rattle.std.proofs.Common.{◌++◌, ◌≡◌, map, take}
use Rattle.certificate.specs.Right.{runs_line}
use Rattle.certificate.proofs.making.add_bindings.Given as goal

-- the lines so far are added
abbrev pub invariant-loop-binding : goal.invariant-loop-binding
invariant-loop-binding l =
    l.lines.items ≡ l.fn.lines.items ++ map (runs_line l.table) (take l.binding-index l.bindings)
