use Rattle.std.{specs.List.filter, proofs.Common.{◌≡◌, map, take}}
use Rattle.{policy.specs.Policy.allows, diagram.specs.{Programs.program_of, Regions.is_inside}}
use Rattle.diagram.proofs.boxes.inside.Given as goal

-- those so far that the program alone uses are kept
abbrev pub invariant-loop-label : goal.invariant-loop-label
invariant-loop-label l =
    l.found.items ≡ filter (is_inside (map (program_of (allows l.policy)) l.rows) (program_of (allows l.policy) l.row)) (take l.label-index l.others)
