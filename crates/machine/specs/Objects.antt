-- Objects by their content alone: their kinds, sizes and ranges of addresses (seL4 manual, "Kernel Objects"; the sizes are confine's own).
use Rattle.std.specs.Prelude.{ℕ, ◌+◌, ◌^◌, None, Option, Some}
use Rattle.machine.specs.declared.object.{Object.{Object, Object as o}, ObjectKind.{ObjectKind, ObjectKind as kind}}

abbrev pub kind_of_object : Object → ObjectKind
kind_of_object (o.Untyped _) = kind.Untyped
kind_of_object (o.CNode _) = kind.CNode
kind_of_object (o.Tcb _) = kind.Tcb
kind_of_object (o.Endpoint _) = kind.Endpoint
kind_of_object (o.Notification _) = kind.Notification
kind_of_object (o.Reply _) = kind.Reply
kind_of_object (o.Context _) = kind.Context
kind_of_object (o.Frame _) = kind.Frame
kind_of_object (o.Control _) = kind.Control

-- the number of slots: a CNode has as many as its radix selects, a TCB its root slot
abbrev pub slot_count : Object → ℕ
slot_count (o.CNode node) = 2 ^ node.radix
slot_count (o.Tcb _) = 1
slot_count _ = 0

abbrev pub thread_count : Object → ℕ
thread_count (o.Tcb _) = 1
thread_count _ = 0

abbrev pub word_count : Object → ℕ
word_count (o.Frame _) = 512
word_count _ = 0

-- the size of an object as a power of two in bytes, if it takes memory
abbrev pub size_bits : Object → Option ℕ
size_bits (o.Untyped memory) = Some memory.bits
size_bits (o.CNode node) = Some (node.radix + 5)
size_bits (o.Tcb _) = Some 10
size_bits (o.Endpoint _) = Some 4
size_bits (o.Notification _) = Some 5
size_bits (o.Reply _) = Some 5
size_bits (o.Context _) = Some 8
size_bits (o.Frame _) = Some 12
size_bits (o.Control _) = None

-- where an object lies; a control takes no memory
abbrev pub address_of : Object → ℕ
address_of (o.Untyped memory) = memory.base
address_of (o.CNode node) = node.address
address_of (o.Tcb thread) = thread.address
address_of (o.Endpoint endpoint) = endpoint.address
address_of (o.Notification notification) = notification.address
address_of (o.Reply reply) = reply.address
address_of (o.Context context) = context.address
address_of (o.Frame frame) = frame.address
address_of (o.Control _) = 0

abbrev pub size_of : Object → ℕ
size_of object = bytes (size_bits object) where
  bytes : Option ℕ → ℕ
  bytes None = 0
  bytes (Some bits) = 2 ^ bits

-- the address after an object's last byte
abbrev pub end_of : Object → ℕ
end_of object = address_of object + size_of object
