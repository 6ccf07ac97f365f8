use Rattle.std.proofs.Common.{◌++◌, ◌≡◌, drop, length, map}
use Rattle.deal.specs.Shares.{start_of}
use Rattle.deal.proofs.workers.joined.Given as goal

-- what is there and what the rest of the shares will give is the whole
abbrev pub invariant-loop-part : goal.invariant-loop-part
invariant-loop-part g l =
    l.whole.items
    ++ map (g.W.Work.answer l.work) (drop (start_of (length l.items) (length l.fn.parts.items) (length l.yielded)) l.items)
    ≡ map (g.W.Work.answer l.work) l.items
