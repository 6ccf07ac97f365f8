use Rattle.std.proofs.Common.{ℕ, ◌≡◌, List, Some, length, take}
use Rattle.machine.specs.Machine.{words_of}
use Rattle.runs.proofs.sight.words.Given as goal

abbrev pub invariant-loop-index : goal.invariant-loop-index
invariant-loop-index l =
    (words : List ℕ) → words_of l.state l.id ≡ Some words → length words ≡ l.count → l.words.items ≡ take l.index words
