use Rattle.std.{specs.Vec.Iter.{into_iter_items, into_iter_len}, proofs.Common.{◌+◌, ◌≡◌, length, map}}
use Rattle.objects.specs.{Entries.{new_entry, with_more}, Places.{HasRoom, IsPlaced, entries_by_number}}
use Rattle.objects.proofs.store.Store.add_all.Given as goal

-- those that are left, added under the numbers from this one on, give all; and there is room for them
abbrev pub invariant-loop-entry : goal.invariant-loop-entry
invariant-loop-entry l =
    let left = into_iter_items l.entry-iterator in
    IsPlaced l.self-inside
    × (with_more (entries_by_number l.self-inside) l.number left ≡ with_more l.fn.self l.fn.first (map new_entry l.fn.objects))
    × HasRoom l.self-inside.places l.self-inside.entries (length left)
    × (l.number + length left ≡ l.fn.first + length l.fn.objects)
    × (into_iter_len l.entry-iterator ≡ length left)
