-- The text of a script: the header, a line for each event, `end`; and which script, or which fault at which line, a text is read as
-- (confine's own).
use Rattle.std.specs.{List.AllByRecursion, Prelude.{[], ℕ, ◌++◌, ◌∷◌, ◌≤◌, List, Ok, Result, codes, length}}
use Rattle.base.specs.declared.limits.TheConstants.{MAX_EVENTS}
use Rattle.words.specs.{declared.faults.{Fault.Fault, Wrong.Wrong}, Reading.{◌>>=◌, Format, ended_at, list_format, list_text, read_format}}
use Rattle.{words.specs.Text.{lines_of, words_of}, machine.specs.declared.call.Event.Event}
use Rattle.evtext.specs.Event.{IsSpellable, event_at, event_words, within_limits}

abbrev pub script_header : List (List ℕ)
script_header = words_of (codes "confine-script 1")

abbrev pub script_text : List Event → List ℕ
script_text = list_text script_header event_words

-- events that a script can have: not too many, each of which a line can have
abbrev pub IsScript : List Event → Type 0
IsScript events = (length events ≤ MAX_EVENTS) × AllByRecursion IsSpellable events

-- a line as an event, after as many events as `before`: its form is tested first, then the limits
unfoldable pub script_line : ℕ → List (List ℕ) → Result Event Wrong
script_line before words = do
  event ← event_at words
  _ ← ended_at event.1
  within_limits before event.0

-- a line's event joins those before it
abbrev pub script_step : List Event → List (List ℕ) → Result (List Event) Wrong
script_step events words = do
  event ← script_line (length events) words
  Ok (events ++ event ∷ [])

abbrev pub script_format : Format (List Event) (List Event)
script_format = list_format script_header script_step

-- what a text is read as
unfoldable pub read_script_of : List ℕ → Result (List Event) Fault
read_script_of bytes = read_format script_format (lines_of bytes)
