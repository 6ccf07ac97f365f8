use Rattle.std.{specs.List.list_any, proofs.Common.{ℕ, ◌&&◌, ◌==◌, ◌≡◌, take}}
use Rattle.{base.specs.Labels.is_in, summary.specs.Labelled.is_memory}
use Rattle.summary.proofs.labelled.with_memory.Given as goal

-- the labels of the memory so far are found
abbrev pub invariant-loop-initial : goal.invariant-loop-initial
invariant-loop-initial l =
    (label : ℕ) → is_in l.found label
    ≡ list_any (λ initial. is_memory initial.object && (label == initial.label)) (take l.initial-index l.table.objects)
