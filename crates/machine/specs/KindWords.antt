-- The words for kinds of object, in tables and in scripts (confine's own).
use Rattle.std.specs.{List.find, Prelude.{[], ℕ, ◌∷◌, List, None, Option, Some, codes}, Str.bytes_eq}
use Rattle.machine.specs.declared.object.{MemoryKind.MemoryKind, ObjectKind.ObjectKind}
use Rattle.machine.specs.declared.object.MemoryKind.TheVariants as memory
use Rattle.machine.specs.declared.object.ObjectKind.TheVariants as kind

abbrev pub object_kind_word : ObjectKind → List ℕ
object_kind_word kind.Untyped = codes "untyped"
object_kind_word kind.CNode = codes "cnode"
object_kind_word kind.Tcb = codes "tcb"
object_kind_word kind.Endpoint = codes "endpoint"
object_kind_word kind.Notification = codes "notification"
object_kind_word kind.Reply = codes "reply"
object_kind_word kind.Context = codes "context"
object_kind_word kind.Frame = codes "frame"
object_kind_word kind.Control = codes "control"

abbrev pub object_kinds : List ObjectKind
object_kinds =
    kind.Untyped ∷ kind.CNode ∷ kind.Tcb ∷ kind.Endpoint ∷ kind.Notification ∷ kind.Reply ∷ kind.Context ∷ kind.Frame
    ∷ kind.Control ∷ []

-- the kind of object that a word names
unfoldable pub object_kind_of : List ℕ → Option ObjectKind
object_kind_of word = find (λ kind. bytes_eq word (object_kind_word kind)) object_kinds

-- a kind that can be made of memory, as a kind of object
abbrev pub kind_of_memory : MemoryKind → ObjectKind
kind_of_memory memory.Untyped = kind.Untyped
kind_of_memory memory.CNode = kind.CNode
kind_of_memory memory.Tcb = kind.Tcb
kind_of_memory memory.Endpoint = kind.Endpoint
kind_of_memory memory.Notification = kind.Notification
kind_of_memory memory.Reply = kind.Reply
kind_of_memory memory.Context = kind.Context
kind_of_memory memory.Frame = kind.Frame

abbrev pub memory_kind_word : MemoryKind → List ℕ
memory_kind_word made = object_kind_word (kind_of_memory made)

-- objects of a kind, if they can be made of memory
abbrev pub memory_kind_in : Option ObjectKind → Option MemoryKind
memory_kind_in (Some kind.Untyped) = Some memory.Untyped
memory_kind_in (Some kind.CNode) = Some memory.CNode
memory_kind_in (Some kind.Tcb) = Some memory.Tcb
memory_kind_in (Some kind.Endpoint) = Some memory.Endpoint
memory_kind_in (Some kind.Notification) = Some memory.Notification
memory_kind_in (Some kind.Reply) = Some memory.Reply
memory_kind_in (Some kind.Context) = Some memory.Context
memory_kind_in (Some kind.Frame) = Some memory.Frame
memory_kind_in (Some kind.Control) = None
memory_kind_in None = None

-- the kind that a word names, of those that can be made of memory
unfoldable pub memory_kind_of : List ℕ → Option MemoryKind
memory_kind_of word = memory_kind_in (object_kind_of word)
