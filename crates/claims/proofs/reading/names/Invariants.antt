-- The names so far, and those of the words that are left, are those of the line.
use Rattle.std.proofs.Common.{[], ◌≡◌, length, map}
use Rattle.claims.specs.Reading.{names_after}
use Rattle.claims.proofs.reading.names.Given as goal

abbrev pub invariant-loop-word : goal.invariant-loop-word
invariant-loop-word l =
    names_after (map (λ name. name.now) l.names.items) l.words ≡ names_after [] l.fn.words

abbrev pub decreases-loop-word : goal.decreases-loop-word
decreases-loop-word l = length l.words
