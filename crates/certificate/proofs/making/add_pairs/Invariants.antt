use Rattle.std.proofs.Common.{◌++◌, ◌≡◌, map, take}
use Rattle.certificate.specs.Right.{derive_line}
use Rattle.certificate.proofs.making.add_pairs.Given as goal

-- the lines so far are added
abbrev pub invariant-loop-pair : goal.invariant-loop-pair
invariant-loop-pair l =
    l.lines.items ≡ l.fn.lines.items ++ map (derive_line l.table) (take l.pair-index l.pairs)
