use Rattle.std.proofs.Common.{◌++◌, ◌≡◌, filter, map, take}
use Rattle.{table.specs.Rules.kind_at, certificate.specs.Right.{cap_line, is_cnode}}
use Rattle.certificate.proofs.making.add_caps.Given as goal

-- the lines so far are added
abbrev pub invariant-loop-filled : goal.invariant-loop-filled
invariant-loop-filled l =
    l.lines.items ≡ l.fn.lines.items ++ map (cap_line l.table) (filter (λ filled. is_cnode (kind_at l.table filled.slot.holder)) (take l.filled-index l.caps))
