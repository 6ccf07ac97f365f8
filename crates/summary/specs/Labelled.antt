-- The labels that have a thread in a table, and those that have memory (confine's own).
use Rattle.std.specs.{List.{filter, list_any, range_with_len}, Prelude.{ℕ, ◌&&◌, ◌==◌, Bool, List, false, length, not, true}}
use Rattle.machine.specs.{declared.object.Object.{Object, Object as o}, Layout.Layout}

abbrev pub is_thread : Object → Bool
is_thread (o.Tcb _) = true
is_thread _ = false

-- memory: frames, and untyped memory, of which frames can be made
abbrev pub is_memory : Object → Bool
is_memory (o.Frame _) = true
is_memory (o.Untyped _) = true
is_memory _ = false

-- whether a label has an object of the table that passes a test
abbrev pub has_object : (Object → Bool) → Layout → ℕ → Bool
has_object passes t label = list_any (λ initial. passes initial.object && (label == initial.label)) t.objects

abbrev pub has_thread : Layout → ℕ → Bool
has_thread = has_object is_thread

abbrev pub has_memory : Layout → ℕ → Bool
has_memory = has_object is_memory

abbrev pub labels_of : Layout → List ℕ
labels_of t = range_with_len 0 (length t.labels)

-- the labels with a thread, rising
abbrev pub programs_of : Layout → List ℕ
programs_of t = filter (has_thread t) (labels_of t)

-- the labels without a thread, rising
abbrev pub others_of : Layout → List ℕ
others_of t = filter (λ label. not (has_thread t label)) (labels_of t)
