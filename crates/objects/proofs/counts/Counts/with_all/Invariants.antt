use Rattle.std.{specs.List.fold, proofs.Common.{◌*◌, ◌+◌, ◌^◌, ◌≡◌, ◌≤◌, take}}
use Rattle.objects.specs.Counts.{one_more}
use Rattle.objects.proofs.counts.Counts.with_all.Given as goal

-- the objects so far are counted, and each adds no more than a CNode can
abbrev pub invariant-loop-object : goal.invariant-loop-object
invariant-loop-object l =
    (l.counts ≡ fold one_more l.fn.self (take l.object-index l.objects))
    × (l.counts.objects ≤ l.fn.self.objects + l.object-index)
    × (l.counts.slots ≤ l.fn.self.slots + l.object-index * 2 ^ 12)
    × (l.counts.threads ≤ l.fn.self.threads + l.object-index)
