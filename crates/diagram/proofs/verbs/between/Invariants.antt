use Rattle.std.{specs.List.filter, proofs.Common.{◌≡◌, take}}
use Rattle.{policy.specs.Policy.allows, diagram.specs.{Programs.program_of, Regions.is_between}}
use Rattle.diagram.proofs.verbs.between.Given as goal

-- those so far to which the one does this and which the other uses are kept
abbrev pub invariant-loop-label : goal.invariant-loop-label
invariant-loop-label l =
    l.found.items
    ≡ filter (is_between (program_of (allows l.policy) l.row) (program_of (allows l.policy) l.other) l.fn.verb) (take l.label-index l.others)
