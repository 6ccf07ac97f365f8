use Rattle.std.proofs.Common.{◌∷◌, ◌≡◌, map, take}
use Rattle.{words.specs.Text.text_of, evtext.specs.{Event.event_words, Script.script_header}}
use Rattle.evtext.proofs.script.script_bytes.Given as goal

-- the lines so far are the header's and those of the events so far
abbrev pub invariant-loop-event : goal.invariant-loop-event
invariant-loop-event l = l.text.items ≡ text_of (script_header ∷ map event_words (take l.event-index l.events))
