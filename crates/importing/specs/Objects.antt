-- Objects of a description at boot, and where they lie (compare the seL4 manual, "Memory Allocation").
use Rattle.std.specs.{List.list_all, Prelude.{ℕ, ◌&&◌, ◌*◌, ◌+◌, ◌-◌, ◌/◌, ◌^◌, ◌||◌, ◌≡◌, ◌≤◌, Bool, List, None, Option, Some, false}}
use Rattle.std.specs.Prelude.{if◌then◌else◌, nat_le, nat_lt, not, option_map, slice_get, true}
use Rattle.base.specs.declared.limits.TheConstants.{MAX_PERIOD}
use Rattle.base.specs.declared.core_number.TheConstants.CoreNo as CoreNo
use Rattle.microkit.specs.{declared.description.{Processor.Processor, Schedule.Schedule}, Description.{Description, Domain, Machine}}
use Rattle.machine.specs.declared.object.{Object.{Object, Object as o}, ReplyState.ReplyState as reply, Share.Share}
use Rattle.machine.specs.{declared.thread.{Inbox.Inbox as inbox, RunState.{RunState, RunState as run}}, Objects.{address_of, size_bits}}
use Rattle.table.specs.{Placement.is_aligned, Rules.{IsBlank, is_control_of}}
use Rattle.importing.specs.{declared.pieces.{Form.Form, Grant.Grant, Piece.Piece}, Pieces.same_piece}
use Rattle.importing.specs.declared.pieces.Form.TheVariants as form

-- the next multiple of a power of two
abbrev pub aligned_up : ℕ → ℕ → ℕ
aligned_up next bits = (next + (2 ^ bits - 1)) / 2 ^ bits * 2 ^ bits

-- a CNode has all the slots that it needs
abbrev pub fits_radix : List Grant → Piece → ℕ → Bool
fits_radix grants piece radix =
    list_all (λ (grant : Grant). not (same_piece grant.holder piece) || nat_lt grant.index (2 ^ radix)) grants

-- the least radix, from 9 up, with which a CNode has these slots
unfoldable pub radix_of : List Grant → Piece → Option ℕ
radix_of grants piece =
    if fits_radix grants piece 9 then Some 9 else
    if fits_radix grants piece 10 then Some 10 else
    if fits_radix grants piece 11 then Some 11 else
    if fits_radix grants piece 12 then Some 12 else None

-- the objects, each at the next multiple of its size

abbrev pub cnode_at : ℕ → ℕ → Object
cnode_at next radix = o.CNode (record { address = aligned_up next (radix + 5); radix = radix })

abbrev pub cnode_of : List Grant → Piece → ℕ → Option Object
cnode_of grants piece next = option_map (cnode_at next) (radix_of grants piece)

abbrev pub thread_of : RunState → ℕ → Object
thread_of state next = o.Tcb (record { address = aligned_up next 10; state = state; inbox = inbox.Empty; context = None })

abbrev pub notification_at : ℕ → Object
notification_at next = o.Notification (record { address = aligned_up next 5; pending = None })

abbrev pub reply_at : ℕ → Object
reply_at next = o.Reply (record { address = aligned_up next 5; state = reply.Free })

abbrev pub endpoint_at : ℕ → Object
endpoint_at next = o.Endpoint (record { address = aligned_up next 4 })

abbrev pub frame_of : ℕ → Object
frame_of next = o.Frame (record { address = aligned_up next 12 })

abbrev pub context_at : ℕ → Share → Object
context_at next share = o.Context (record { address = aligned_up next 8; share = Some share; thread = None })

abbrev pub context_of : Option Share → ℕ → Option Object
context_of share next = option_map (context_at next) share

-- the share of a core's time, if it is within the limits
unfoldable pub share_of : ℕ → Schedule → Option Share
share_of core schedule =
    if (nat_le 1 schedule.budget && (nat_le schedule.budget schedule.period && nat_le schedule.period MAX_PERIOD))
    && nat_lt core CoreNo.COUNT
    then Some (record { core = core; budget = schedule.budget; period = schedule.period }) else None

abbrev pub share_in : Option Domain → Option Share
share_in None = None
share_in (Some domain) = share_of domain.core domain.schedule

unfoldable pub domain_share : Description → ℕ → Option Share
domain_share d n = share_in (slice_get d.domains n)

abbrev pub share_on : ℕ → Option Machine → Option Share
share_on core None = None
share_on core (Some machine) = share_of core machine.schedule

-- the share of a virtual machine's processor on this core
unfoldable pub machine_share : Description → ℕ → ℕ → Option Share
machine_share d n core = share_on core (slice_get d.machines n)

abbrev pub share_for : Description → Option Processor → Option Share
share_for d None = None
share_for d (Some processor) = machine_share d processor.machine processor.core

unfoldable pub processor_share : Description → ℕ → Option Share
processor_share d n = share_for d (slice_get d.processors n)

-- the object of a piece, at the next multiple of its size from an address on, if it is within the limits of its kind
unfoldable pub object_of : Description → List Grant → Piece → ℕ → Option Object
object_of d grants piece next = by_form piece.form
  where
    by_form : Form → Option Object
    by_form form.Space = cnode_of grants piece next
    by_form form.GuestSpace = cnode_of grants piece next
    by_form form.Main = Some (thread_of run.Ready next)
    by_form form.Processor = Some (thread_of run.Inactive next)
    by_form form.Bell = Some (notification_at next)
    by_form form.Answer = Some (reply_at next)
    by_form form.Entry = Some (endpoint_at next)
    by_form form.Time = context_of (domain_share d piece.number) next
    by_form form.ProcessorTime = context_of (processor_share d piece.number) next
    by_form form.Frame = Some (frame_of next)

-- a size of at most 2 ^ 17 bytes, the size of a CNode of radix 12
abbrev pub IsSmall : Option ℕ → Type 0
IsSmall None = Unit {0}
IsSmall (Some bits) = bits ≤ 17

-- an object as a table may take it, from an address on
pub record FitsFrom (next : ℕ) (object : Object) : Type 0 where
  pub blank : IsBlank object
  pub above : next ≤ address_of object
  pub aligned : is_aligned object ≡ true
  pub small : IsSmall (size_bits object)
  pub memory : (core : ℕ) → is_control_of object core ≡ false
