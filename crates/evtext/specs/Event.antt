-- The lines of scripts: an event is its core, its thread, and a call, which is a name with operands (confine's own).
use Rattle.std.specs.{Fmt.decimal, Prelude.{[], ℕ, ◌&&◌, ◌<◌, ◌^◌, ◌∷◌, Err, List, Ok, Result, codes, drop, if◌then◌else◌, nat_lt}}
use Rattle.base.specs.declared.core_number.TheConstants.CoreNo as CoreNo
use Rattle.base.specs.declared.limits.TheConstants.{MAX_EVENTS}
use Rattle.machine.specs.declared.call.Call.{Call, TheVariants.{Bind, ClearSpace, Configure, Copy, Delete, Fetch, Mint, Move, Poll, Read}}
use Rattle.machine.specs.declared.call.Call.TheVariants.{Receive, Reply, Resume, Retype, Revoke, Send, SetSpace, Signal, Suspend, Unbind}
use Rattle.machine.specs.declared.call.{Call.TheVariants.{Wait, Write}, Event.Event}
use Rattle.machine.specs.declared.call.Call.TheVariants as call
use Rattle.words.specs.{declared.faults.Wrong.{Wrong, TheVariants.Limit}, Number.number_at, Parts.{PartReader, in_turn, keyed, read_as}}
use Rattle.evtext.specs.Operands.{Shape, both, data_given, four, memory_kind, nothing, number, optional, optional_slot, rights, slot_address}
use Rattle.evtext.specs.Operands.{two_numbers}

-- how the lines of a call are written: its name, the shape of its operands, and the call that these make
pub record Form : Type 1 where
  pub Operands : Type 0
  pub name : List ℕ
  pub shape : Shape Operands
  pub call_of : Operands → Call

abbrev pub form : {X : Type 0} → List ℕ → Shape X → (X → Call) → Form
form {X} name shape call_of = record { Operands = X; name = name; shape = shape; call_of = call_of }

abbrev pub signal_form : Form
signal_form = form (codes "signal") number Signal

abbrev pub poll_form : Form
poll_form = form (codes "poll") number Poll

abbrev pub wait_form : Form
wait_form = form (codes "wait") number Wait

abbrev pub send_form : Form
send_form = form (codes "send") (both number (both four optional)) (λ parts. Send parts.0 parts.1.0 parts.1.1)

abbrev pub call_form : Form
call_form = form (codes "call") (both number (both four optional)) (λ parts. call.Call parts.0 parts.1.0 parts.1.1)

abbrev pub receive_form : Form
receive_form = form (codes "recv") (both number (both optional optional_slot)) (λ parts. Receive parts.0 parts.1.0 parts.1.1)

abbrev pub reply_form : Form
reply_form = form (codes "reply") (both number four) (λ parts. Reply parts.0 parts.1)

abbrev pub fetch_form : Form
fetch_form = form (codes "fetch") nothing (λ _. Fetch)

abbrev pub copy_form : Form
copy_form = form (codes "copy") (both slot_address (both slot_address rights)) (λ parts. Copy parts.0 parts.1.0 parts.1.1)

abbrev pub mint_form : Form
mint_form =
    form (codes "mint") (both slot_address (both slot_address (both rights data_given)))
    (λ parts. Mint parts.0 parts.1.0 parts.1.1.0 parts.1.1.1)

abbrev pub move_form : Form
move_form = form (codes "move") (both slot_address slot_address) (λ parts. Move parts.0 parts.1)

abbrev pub delete_form : Form
delete_form = form (codes "delete") slot_address Delete

abbrev pub revoke_form : Form
revoke_form = form (codes "revoke") slot_address Revoke

abbrev pub retype_form : Form
retype_form =
    form (codes "retype") (both number (both memory_kind (both number (both number two_numbers))))
    (λ parts. Retype parts.0 parts.1.0 parts.1.1.0 parts.1.1.1.0 parts.1.1.1.1.0 parts.1.1.1.1.1)

abbrev pub read_form : Form
read_form = form (codes "read") two_numbers (λ parts. Read parts.0 parts.1)

abbrev pub write_form : Form
write_form = form (codes "write") (both number two_numbers) (λ parts. Write parts.0 parts.1.0 parts.1.1)

abbrev pub set_space_form : Form
set_space_form = form (codes "setspace") two_numbers (λ parts. SetSpace parts.0 parts.1)

abbrev pub clear_space_form : Form
clear_space_form = form (codes "clearspace") number ClearSpace

abbrev pub suspend_form : Form
suspend_form = form (codes "suspend") number Suspend

abbrev pub resume_form : Form
resume_form = form (codes "resume") number Resume

abbrev pub configure_form : Form
configure_form =
    form (codes "configure") (both number (both number two_numbers)) (λ parts. Configure parts.0 parts.1.0 parts.1.1.0 parts.1.1.1)

abbrev pub bind_form : Form
bind_form = form (codes "bind") two_numbers (λ parts. Bind parts.0 parts.1)

abbrev pub unbind_form : Form
unbind_form = form (codes "unbind") number Unbind

-- the words after the name of a form as a call
abbrev pub call_by : Form → PartReader Call
call_by form = read_as form.call_of form.shape.read

-- the name of a form, and how a call is read off the words after it
abbrev pub reader_of : Form → List ℕ × PartReader Call
reader_of form = (form.name, call_by form)

-- calls on frames, threads, controls and scheduling contexts
unfoldable pub thread_calls : List (List ℕ × PartReader Call)
thread_calls =
    reader_of read_form
    ∷ reader_of write_form
    ∷ reader_of set_space_form
    ∷ reader_of clear_space_form
    ∷ reader_of suspend_form
    ∷ reader_of resume_form
    ∷ reader_of configure_form
    ∷ reader_of bind_form
    ∷ reader_of unbind_form
    ∷ []

-- all calls
abbrev pub calls : List (List ℕ × PartReader Call)
calls =
    reader_of signal_form
    ∷ reader_of poll_form
    ∷ reader_of wait_form
    ∷ reader_of send_form
    ∷ reader_of call_form
    ∷ reader_of receive_form
    ∷ reader_of reply_form
    ∷ reader_of fetch_form
    ∷ reader_of copy_form
    ∷ reader_of mint_form
    ∷ reader_of move_form
    ∷ reader_of delete_form
    ∷ reader_of revoke_form
    ∷ reader_of retype_form
    ∷ thread_calls

-- calls from `copy` on
abbrev pub slot_calls : List (List ℕ × PartReader Call)
slot_calls = drop 8 calls

-- the next words as a call: its name, then its operands
unfoldable pub call_at : PartReader Call
call_at = keyed calls

-- the words of a form with these operands
abbrev pub words_by : (form : Form) → form.Operands → List (List ℕ)
words_by form operands = form.name ∷ form.shape.spell operands

-- what a function makes of the form and the operands of a call
abbrev pub by_form {ℓ} : {X : Type ℓ} → ((form : Form) → form.Operands → X) → Call → X
by_form f (Signal address) = f signal_form address
by_form f (Poll address) = f poll_form address
by_form f (Wait address) = f wait_form address
by_form f (Send address words capability) = f send_form (address, (words, capability))
by_form f (call.Call address words capability) = f call_form (address, (words, capability))
by_form f (Receive address reply slot) = f receive_form (address, (reply, slot))
by_form f (Reply address words) = f reply_form (address, words)
by_form f Fetch = f fetch_form tt
by_form f (Copy to from rights) = f copy_form (to, (from, rights))
by_form f (Mint to from rights given) = f mint_form (to, (from, (rights, given)))
by_form f (Move to from) = f move_form (to, from)
by_form f (Delete slot) = f delete_form slot
by_form f (Revoke slot) = f revoke_form slot
by_form f (Retype untyped kind bits to offset count) = f retype_form (untyped, (kind, (bits, (to, (offset, count)))))
by_form f (Read address index) = f read_form (address, index)
by_form f (Write address index word) = f write_form (address, (index, word))
by_form f (SetSpace thread space) = f set_space_form (thread, space)
by_form f (ClearSpace thread) = f clear_space_form thread
by_form f (Suspend thread) = f suspend_form thread
by_form f (Resume thread) = f resume_form thread
by_form f (Configure control context budget period) = f configure_form (control, (context, (budget, period)))
by_form f (Bind context thread) = f bind_form (context, thread)
by_form f (Unbind context) = f unbind_form context

-- a call: its name, then its operands
abbrev pub call_words : Call → List (List ℕ)
call_words call = by_form words_by call

-- a call whose operands can be spelled: its numbers are of 64 bits, and its rights are a set of the four
abbrev pub HasWords : Call → Type 0
HasWords call = by_form (λ form operands. form.shape.Fits operands) call

-- the event of a core, a thread and a call
abbrev pub event_of : ℕ × (ℕ × Call) → Event
event_of parts = record { core = parts.0; thread = record { 0 = parts.1.0 }; call = parts.1.1 }

-- the next words as an event, whatever its core's number
unfoldable pub event_at : PartReader Event
event_at = read_as event_of (in_turn number_at (in_turn number_at call_at))

-- an event: core, thread, call
abbrev pub event_words : Event → List (List ℕ)
event_words event = decimal event.core ∷ decimal event.thread.0 ∷ call_words event.call

-- an event of a core that there can be, before which there are not too many
unfoldable pub within_limits : ℕ → Event → Result Event Wrong
within_limits before event = if nat_lt event.core CoreNo.COUNT && nat_lt before MAX_EVENTS then Ok event else Err Limit

-- an event that a line can have: of a core that there can be, with numbers of 64 bits and sets of the four rights
abbrev pub IsSpellable : Event → Type 0
IsSpellable event = (event.core < CoreNo.COUNT) × (event.thread.0 < 2 ^ 64) × HasWords event.call

-- an event whose numbers are of 64 bits, and whose rights are a set of the four, whichever core it names
abbrev pub HasNumbers : Event → Type 0
HasNumbers event = (event.core < 2 ^ 64) × (event.thread.0 < 2 ^ 64) × HasWords event.call
