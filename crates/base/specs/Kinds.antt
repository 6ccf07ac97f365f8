-- The kinds of authority: their numbers, their names, and sets of them as numbers whose bit k stands for the kind of number k
-- ('seL4 Enforces Integrity', section 3, with the kinds of this profile).
use Rattle.std.specs.{Int.RustNames.bit_and, Prelude.{ℕ, ◌==◌, ◌^◌, Bool, List, None, Option, Some, bytes_eq, codes, false, if◌then◌else◌, true}}
use Rattle.base.specs.declared.kind.Kind.{Kind, TheVariants.{Await, Call, Context, Control, Derive, Grant, Holds, Notify, Read, Receive}}
use Rattle.base.specs.declared.kind.Kind.TheVariants.{Reply, Reset, Runs, SchedControl, Send, Space, Write}

abbrev pub kind_number : Kind → ℕ
kind_number Control = 0
kind_number Reset = 1
kind_number Send = 2
kind_number Receive = 3
kind_number Grant = 4
kind_number Call = 5
kind_number Notify = 6
kind_number Await = 7
kind_number Read = 8
kind_number Write = 9
kind_number Reply = 10
kind_number Context = 11
kind_number SchedControl = 12
kind_number Space = 13
kind_number Derive = 14
kind_number Runs = 15
kind_number Holds = 16

-- the set that holds one kind
abbrev pub kind_bit : Kind → ℕ
kind_bit kind = 2 ^ kind_number kind

-- whether a set of kinds has a kind
abbrev pub is_among : ℕ → Kind → Bool
is_among set kind = bit_and set (kind_bit kind) == kind_bit kind

-- whether a kind says how objects hang together, and not what may be done to them
abbrev pub is_structural : Kind → Bool
is_structural Space = true
is_structural Derive = true
is_structural Runs = true
is_structural Holds = true
is_structural _ = false

abbrev pub kind_name : Kind → List ℕ
kind_name Control = codes "control"
kind_name Reset = codes "reset"
kind_name Send = codes "send"
kind_name Receive = codes "receive"
kind_name Grant = codes "grant"
kind_name Call = codes "call"
kind_name Notify = codes "notify"
kind_name Await = codes "await"
kind_name Read = codes "read"
kind_name Write = codes "write"
kind_name Reply = codes "reply"
kind_name Context = codes "context"
kind_name SchedControl = codes "schedcontrol"
kind_name Space = codes "space"
kind_name Derive = codes "derive"
kind_name Runs = codes "runs"
kind_name Holds = codes "holds"

-- the kind that has a name
unfoldable pub kind_named : List ℕ → Option Kind
kind_named name =
    if bytes_eq name (codes "control") then Some Control else
    (if bytes_eq name (codes "reset") then Some Reset else
    (if bytes_eq name (codes "send") then Some Send else
    (if bytes_eq name (codes "receive") then Some Receive else
    (if bytes_eq name (codes "grant") then Some Grant else
    (if bytes_eq name (codes "call") then Some Call else
    (if bytes_eq name (codes "notify") then Some Notify else
    (if bytes_eq name (codes "await") then Some Await else
    (if bytes_eq name (codes "read") then Some Read else
    (if bytes_eq name (codes "write") then Some Write else
    (if bytes_eq name (codes "reply") then Some Reply else
    (if bytes_eq name (codes "context") then Some Context else
    (if bytes_eq name (codes "schedcontrol") then Some SchedControl else
    (if bytes_eq name (codes "space") then Some Space else
    (if bytes_eq name (codes "derive") then Some Derive else
    (if bytes_eq name (codes "runs") then Some Runs else
    (if bytes_eq name (codes "holds") then Some Holds else
    None))))))))))))))))
