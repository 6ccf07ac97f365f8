-- None of the names so far is this number of edits away.
use Rattle.std.proofs.Common.{◌≡◌, drop, find, map}
use Rattle.forms.specs.Nearest.{is_at}
use Rattle.forms.proofs.nearest.first_at.Given as goal

abbrev pub invariant-loop-name : goal.invariant-loop-name
invariant-loop-name l =
    find (is_at l.word l.edits) (map (λ name. name.now) (drop l.name-index l.names))
    ≡ find (is_at l.word l.edits) (map (λ name. name.now) l.names)
