-- Links in the entries of objects, and the entries after a thread has come to wait or has left (confine's own).
use Rattle.{std.specs.{Option.option_or, Prelude.{ℕ, List, None, Option, Some, option_map}}, base.specs.declared.ids.ObjId.ObjId}
use Rattle.objects.specs.declared.{entry.Entry.Entry, links.{Ends.Ends, Standing.Standing}}
use Rattle.objects.specs.{Entries.{Entries, entry_of, set_ends_in, set_standing_in, with_entry}, Queues.{AreQueues, walk}}

-- the ends of the queue at an object; nobody waits at one that is absent
abbrev pub ends_of : Option Entry → Ends
ends_of None = record { first = None; last = None }
ends_of (Some entry) = entry.ends

-- the place of an object in a queue; an absent one waits nowhere
abbrev pub standing_of : Option Entry → Standing
standing_of None = record { at = None; previous = None; next = None }
standing_of (Some entry) = entry.standing

-- the threads that wait at the object of an entry, if there are this many numbers
abbrev pub queue_in : ℕ → (ObjId → Option Entry) → Option Entry → Option (List ObjId)
queue_in numbers entry o = option_map (λ e. walk (λ thread. standing_of (entry thread)) numbers e.ends.first) o

-- the links of the entries are those of queues
abbrev pub AreQueued : (ObjId → Option Entry) → ℕ → Type 0
AreQueued entry numbers = AreQueues (λ id. ends_of (entry id)) (λ id. standing_of (entry id)) numbers

-- the place of a thread is changed, if one is named
abbrev pub with_standing : Entries → Option ObjId → (Standing → Standing) → Entries
with_standing entries None change = entries
with_standing entries (Some thread) change =
    with_entry entries thread (set_standing_in (change (standing_of (entry_of entries thread))))

-- the neighbour changes, if one is named, then the thread, then the ends of the queue at the object
abbrev pub relinked :
    Entries → Option ObjId → (Standing → Standing) → ObjId → Standing → ObjId → Ends → Entries
relinked entries neighbour change thread standing id ends =
    with_entry
    (with_entry (with_standing entries neighbour change) thread (set_standing_in standing))
    id (set_ends_in ends)

-- a thread comes to the end of a queue that has these ends
abbrev pub pushed : Entries → ObjId → ObjId → Option Ends → Entries
pushed entries id thread None = entries
pushed entries id thread (Some ends) =
    relinked entries ends.last (λ s. record s { next = Some thread }) thread
    (record { at = Some id; previous = ends.last; next = None }) id
    (record { first = option_or ends.first (Some thread); last = Some thread })

-- an end of a queue that a thread has left, by its neighbour towards that end, its other neighbour, and the old end
abbrev pub end_after : Option ObjId → Option ObjId → Option ObjId → Option ObjId
end_after None other end = other
end_after (Some neighbour) other end = end

-- a thread at this place, between any two, leaves a queue that has these ends
abbrev pub quitting : Entries → ObjId → ObjId → Standing → Ends → Entries
quitting entries id thread standing ends =
    relinked (with_standing entries standing.previous (λ s. record s { next = standing.next })) standing.next
    (λ s. record s { previous = standing.previous }) thread (record { at = None; previous = None; next = None }) id
    (record {
      first = end_after standing.previous standing.next ends.first;
      last = end_after standing.next standing.previous ends.last;
    })

abbrev pub quitted : Entries → ObjId → ObjId → Option Ends → Entries
quitted entries id thread None = entries
quitted entries id thread (Some ends) = quitting entries id thread (standing_of (entry_of entries thread)) ends
