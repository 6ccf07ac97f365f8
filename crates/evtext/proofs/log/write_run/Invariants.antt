use Rattle.std.{specs.List.zip, proofs.Common.{◌∷◌, ◌≡◌, length, map, take}}
use Rattle.{words.specs.Text.text_of, evtext.specs.Log.{entry_words, log_header}}
use Rattle.evtext.proofs.log.write_run.Given as goal

-- the lines so far are the header's and those of the entries so far
abbrev pub invariant-loop-event : goal.invariant-loop-event
invariant-loop-event l =
    l.text.items ≡ text_of (log_header ∷ map entry_words (take (length l.yielded) (zip l.events l.outcomes)))
