use Rattle.std.{specs.List.AllByRecursion, proofs.Common.{◌≡◌, map, take}}
use Rattle.objects.specs.{Entries.new_entry, Radices.HasRadix}
use Rattle.objects.proofs.entry.new_entries.Given as goal

abbrev pub invariant-loop-object : goal.invariant-loop-object
invariant-loop-object l =
    let before = take l.object-index l.objects in
    (l.made.items ≡ map new_entry before) × AllByRecursion HasRadix before
