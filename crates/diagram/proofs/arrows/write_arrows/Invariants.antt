use Rattle.std.{specs.List.flat_map, proofs.Common.{◌++◌, ◌≡◌, string_bytes, take}}
use Rattle.{policy.specs.Policy.allows, diagram.specs.{Folded.arrow_text, Programs.program_of}}
use Rattle.diagram.proofs.arrows.write_arrows.Given as goal

-- the arrows from the programs so far are written
abbrev pub invariant-loop-row : goal.invariant-loop-row
invariant-loop-row l =
    let program = program_of (allows l.policy) in
    string_bytes l.text
    ≡ string_bytes l.fn.text
    ++ flat_map (λ row. flat_map (λ other. arrow_text l.table l.others (program row) (program other)) l.rows) (take l.row-index l.rows)
