-- Read and Write (confine's own): one word of a frame's memory, through the frame's capability.
use Rattle.std.specs.Prelude.{ℕ, Err, List, None, Ok, Option, Result, Some, if◌then◌else◌, nat_lt, slice_index}
use Rattle.base.specs.declared.{ids.ObjId.ObjId, refusal.Cause.{Cause, Cause as cause}}
use Rattle.machine.specs.declared.{call.{Answer.Answer as answer, Made.{Made, TheVariants.Done}}, object.ObjectKind.ObjectKind as kind}
use Rattle.machine.specs.{Capabilities.{badged_of, can_read, can_write}, Changes.with_word, Machine.{Machine, words_of}}
use Rattle.machine.specs.{Refusing.◌>>=◌, Step.Find.{find, permitted}}

-- a frame has 512 words
abbrev pub in_frame : ℕ → Result (Unit {0}) Cause
in_frame index = if nat_lt index 512 then Ok tt else Err cause.RangeError

abbrev pub word_in : Option (List ℕ) → ℕ → ℕ
word_in None index = 0
word_in (Some words) index = slice_index words index

unfoldable pub read_of : Machine → ObjId → ℕ → ℕ → Result (Made × Machine) Cause
read_of m caller address index = do
  found ← find kind.Frame m caller address
  _ ← permitted (can_read (badged_of found.1.detail).rights)
  _ ← in_frame index
  Ok (Done (answer.Word (word_in (words_of m found.1.object) index)), m)

unfoldable pub write_of : Machine → ObjId → ℕ → ℕ → ℕ → Result (Made × Machine) Cause
write_of m caller address index word = do
  found ← find kind.Frame m caller address
  _ ← permitted (can_write (badged_of found.1.detail).rights)
  _ ← in_frame index
  Ok (Done answer.Nothing, with_word m found.1.object index word)
