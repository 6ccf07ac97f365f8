-- Outcomes as words of a line: that the call is done, and what it answers, that it is blocked, or that it is refused; how they are spelled,
-- and read off the words (confine's own).
use Rattle.std.specs.{Fmt.decimal, Prelude.{[], ℕ, ◌++◌, ◌<◌, ◌^◌, ◌∷◌, Bool, List, None, Ok, Option, Some, codes, false, true}}
use Rattle.std.specs.{Prelude.if◌then◌else◌, Str.bytes_eq}
use Rattle.machine.specs.declared.{call.{Answer.Answer, Outcome.Outcome}, thread.Message.Message}
use Rattle.machine.specs.declared.call.Answer.TheVariants as answer
use Rattle.machine.specs.declared.call.Outcome.TheVariants as outcome
use Rattle.words.specs.{Number.number_at, Parts.{PartReader, in_turn, keyed, read_as}, Reading.{◌>>=◌, or_syntax, word_at}}
use Rattle.evtext.specs.Operands.{AreFour, four_at, four_words}

-- 1 for yes, 0 for no
abbrev pub flag_word : Bool → List ℕ
flag_word Bool.true = codes "1"
flag_word Bool.false = codes "0"

abbrev pub flag_of : List ℕ → Option Bool
flag_of word = if bytes_eq word (codes "1") then Some true else if bytes_eq word (codes "0") then Some false else None

-- the next word as a yes or no
unfoldable pub flag_at : PartReader Bool
flag_at words = do
  word ← word_at words
  flag ← or_syntax (flag_of word.0)
  Ok (flag, word.1)

-- a message: badge, four words, and whether a capability arrived
abbrev pub message_words : Message → List (List ℕ)
message_words message =
    decimal message.badge ∷ (four_words message.words ++ flag_word message.capability ∷ [])

-- the message of a badge, four words, and whether a capability arrived
abbrev pub message_of : ℕ × (List ℕ × Bool) → Message
message_of parts = record { badge = parts.0; words = parts.1.0; capability = parts.1.1 }

-- the next words as a message that was received
unfoldable pub received_at : PartReader Message
received_at = read_as message_of (in_turn number_at (in_turn four_at flag_at))

-- what a call that is done answers
abbrev pub answer_words : Answer → List (List ℕ)
answer_words answer.Nothing = codes "done" ∷ []
answer_words (answer.Word word) = codes "done" ∷ codes "word" ∷ decimal word ∷ []
answer_words (answer.Message message) = codes "done" ∷ codes "msg" ∷ message_words message
answer_words (answer.Count count) = codes "done" ∷ codes "count" ∷ decimal count ∷ []
answer_words answer.Aborted = codes "done" ∷ codes "aborted" ∷ []

-- no further words
unfoldable pub aborted_at : PartReader Answer
aborted_at words = Ok (answer.Aborted, words)

-- the words after `done` as what the call answers, which is nothing where there are none
unfoldable pub answer_at : PartReader Answer
answer_at [] = Ok (answer.Nothing, [])
answer_at (word ∷ words) = keyed (
    (codes "word", read_as answer.Word number_at)
    ∷ (codes "msg", read_as answer.Message received_at)
    ∷ (codes "count", read_as answer.Count number_at)
    ∷ (codes "aborted", aborted_at)
    ∷ []) (word ∷ words)

abbrev pub outcome_words : Outcome → List (List ℕ)
outcome_words (outcome.Done answer) = answer_words answer
outcome_words outcome.Blocked = codes "blocked" ∷ []
outcome_words (outcome.Refused refusal) = codes "refused" ∷ decimal refusal.code ∷ decimal refusal.detail ∷ []

-- no further words
unfoldable pub blocked_at : PartReader Outcome
blocked_at words = Ok (outcome.Blocked, words)

-- the refusal of a code and a detail, whichever they are
abbrev pub refused_of : ℕ × ℕ → Outcome
refused_of parts = outcome.Refused (record { code = parts.0; detail = parts.1 })

-- the next words as an outcome
unfoldable pub outcome_at : PartReader Outcome
outcome_at = keyed (
    (codes "done", read_as outcome.Done answer_at)
    ∷ (codes "blocked", blocked_at)
    ∷ (codes "refused", read_as refused_of (in_turn number_at number_at))
    ∷ [])

-- the word `=`, then an outcome
unfoldable pub equals_at : PartReader Outcome
equals_at = keyed ((codes "=", outcome_at) ∷ [])

-- a message of 64-bit numbers, four of which are its words
abbrev pub IsMessage : Message → Type 0
IsMessage message = (message.badge < 2 ^ 64) × AreFour message.words

-- an answer of 64-bit numbers
abbrev pub IsAnswer : Answer → Type 0
IsAnswer answer.Nothing = Unit {0}
IsAnswer (answer.Word word) = word < 2 ^ 64
IsAnswer (answer.Message message) = IsMessage message
IsAnswer (answer.Count count) = count < 2 ^ 64
IsAnswer answer.Aborted = Unit {0}

-- an outcome of 64-bit numbers
abbrev pub IsOutcome : Outcome → Type 0
IsOutcome (outcome.Done answer) = IsAnswer answer
IsOutcome outcome.Blocked = Unit {0}
IsOutcome (outcome.Refused refusal) = (refusal.code < 2 ^ 64) × (refusal.detail < 2 ^ 64)
