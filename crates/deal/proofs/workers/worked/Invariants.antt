use Rattle.std.proofs.Common.{◌≡◌, map, take}
use Rattle.deal.proofs.workers.worked.Given as goal

-- the items so far are worked
abbrev pub invariant-loop-item : goal.invariant-loop-item
invariant-loop-item g l = l.outs.items ≡ map (g.W.Work.answer l.work) (take l.item-index l.items)
