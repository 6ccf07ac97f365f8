-- The text of a log: the header, a line for each event and its outcome, `end`; and which log, or which fault at which line, a text is read
-- as (confine's own).
use Rattle.std.specs.{List.AllByRecursion, Prelude.{[], ℕ, ◌++◌, ◌∷◌, ◌≤◌, List, Ok, Result, codes, length}}
use Rattle.base.specs.declared.limits.TheConstants.{MAX_EVENTS}
use Rattle.machine.specs.declared.call.{Event.Event, Outcome.Outcome}
use Rattle.words.specs.{declared.faults.{Fault.Fault, Wrong.Wrong}, Parts.{PartReader, in_turn}, Reading.{◌>>=◌, Format, ended_at}}
use Rattle.words.specs.{Reading.{list_format, list_text, read_format}, Text.{lines_of, words_of}}
use Rattle.evtext.specs.{Event.{HasNumbers, IsSpellable, event_at, event_words, within_limits}, Outcome.{IsOutcome, equals_at, outcome_words}}

abbrev pub log_header : List (List ℕ)
log_header = words_of (codes "confine-log 1")

-- an entry of a log: an event, then `=` and its outcome
abbrev pub entry_words : Event × Outcome → List (List ℕ)
entry_words entry = event_words entry.0 ++ codes "=" ∷ outcome_words entry.1

abbrev pub log_text : List (Event × Outcome) → List ℕ
log_text = list_text log_header entry_words

-- an event and its outcome, of 64-bit numbers, as all that the code has are, and of rights that are sets of the four
abbrev pub IsEntry : Event × Outcome → Type 0
IsEntry entry = HasNumbers entry.0 × IsOutcome entry.1

-- an entry that a line can have: its event is of a core that there can be
abbrev pub IsSpellableEntry : Event × Outcome → Type 0
IsSpellableEntry entry = IsSpellable entry.0 × IsOutcome entry.1

-- entries that a log can have: not too many, each of which a line can have
abbrev pub IsLog : List (Event × Outcome) → Type 0
IsLog log = (length log ≤ MAX_EVENTS) × AllByRecursion IsSpellableEntry log

-- the next words as an event, the word `=`, and an outcome, whichever it is
unfoldable pub entry_at : PartReader (Event × Outcome)
entry_at = in_turn event_at equals_at

-- a line as an entry, after as many entries as `before`: its form is tested first, then the limits
unfoldable pub log_line : ℕ → List (List ℕ) → Result (Event × Outcome) Wrong
log_line before words = do
  entry ← entry_at words
  _ ← ended_at entry.1
  event ← within_limits before entry.0.0
  Ok (event, entry.0.1)

-- a line's entry joins those before it
abbrev pub log_step : List (Event × Outcome) → List (List ℕ) → Result (List (Event × Outcome)) Wrong
log_step log words = do
  entry ← log_line (length log) words
  Ok (log ++ entry ∷ [])

abbrev pub log_format : Format (List (Event × Outcome)) (List (Event × Outcome))
log_format = list_format log_header log_step

-- what a text is read as
unfoldable pub read_log_of : List ℕ → Result (List (Event × Outcome)) Fault
read_log_of bytes = read_format log_format (lines_of bytes)
