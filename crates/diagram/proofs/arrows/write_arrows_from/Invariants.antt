use Rattle.std.{specs.List.flat_map, proofs.Common.{◌++◌, ◌≡◌, string_bytes, take}}
use Rattle.{policy.specs.Policy.allows, diagram.specs.{Folded.arrow_text, Programs.program_of}}
use Rattle.diagram.proofs.arrows.write_arrows_from.Given as goal

-- the arrows to the programs so far are written
abbrev pub invariant-loop-other : goal.invariant-loop-other
invariant-loop-other l =
    let program = program_of (allows l.policy) in
    string_bytes l.text
    ≡ string_bytes l.fn.text ++ flat_map (λ other. arrow_text l.table l.others (program l.row) (program other)) (take l.other-index l.rows)
