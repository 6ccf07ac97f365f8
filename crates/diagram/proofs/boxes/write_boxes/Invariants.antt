use Rattle.std.{specs.List.flat_map, proofs.Common.{◌++◌, ◌≡◌, map, string_bytes, take}}
use Rattle.{policy.specs.Policy.allows, diagram.specs.{Folded.box_text, Programs.program_of}}
use Rattle.diagram.proofs.boxes.write_boxes.Given as goal

-- the boxes so far are written
abbrev pub invariant-loop-row : goal.invariant-loop-row
invariant-loop-row l =
    let program = program_of (allows l.policy) in
    string_bytes l.text
    ≡ string_bytes l.fn.text ++ flat_map (λ row. box_text l.table (map program l.rows) l.others (program row)) (take l.row-index l.rows)
