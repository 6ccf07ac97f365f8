-- Signal (seL4 manual, "Notifications"): the first thread that waits gets the badge and is ready, else the badge joins the word.
use Rattle.std.specs.{Int.RustNames.bit_or, Prelude.{ℕ, None, Ok, Option, Result, Some, unwrap_or}}
use Rattle.base.specs.declared.{ids.ObjId.ObjId, refusal.Cause.Cause}
use Rattle.machine.specs.declared.{call.{Answer.Answer as answer, Made.{Made, TheVariants.Done}}, object.Object.{Object, Object as o}}
use Rattle.machine.specs.declared.object.ObjectKind.TheVariants as kind
use Rattle.machine.specs.declared.thread.Inbox.TheVariants as inbox
use Rattle.machine.specs.declared.thread.RunState.TheVariants as state
use Rattle.machine.specs.{Capabilities.{badged_of, can_write}, Changes.{first_waiting, with_pending, with_tcb, without_first}}
use Rattle.machine.specs.{Machine.{Machine, object_of}, Refusing.◌>>=◌, Step.Find.{find, permitted}}

-- the word of a notification, if it has one
abbrev pub pending_in : Option Object → Option ℕ
pending_in (Some (o.Notification notification)) = notification.pending
pending_in _ = None

-- a thread that waited gets a word and is ready
unfoldable pub woken : Machine → ObjId → ℕ → Machine
woken m thread word = wake (object_of m thread) where
  wake : Option Object → Machine
  wake (Some (o.Tcb old)) = with_tcb m thread (record old { state = state.Ready; inbox = inbox.Word word })
  wake _ = m

-- a notification that was signalled with a badge
unfoldable pub signalled : Machine → ObjId → ℕ → Machine
signalled m id badge = by_first (first_waiting m id) where
  by_first : Option ObjId → Machine
  by_first (Some thread) = woken (without_first m id) thread badge
  by_first None = with_pending m id (Some (bit_or badge (unwrap_or (pending_in (object_of m id)) 0)))

unfoldable pub signal_of : Machine → ObjId → ℕ → Result (Made × Machine) Cause
signal_of m caller address = do
  found ← find kind.Notification m caller address
  _ ← permitted (can_write (badged_of found.1.detail).rights)
  Ok (Done answer.Nothing, signalled m found.1.object (badged_of found.1.detail).badge)
