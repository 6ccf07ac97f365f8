use Rattle.std.{specs.List.flat_map, proofs.Common.{◌++◌, ◌≡◌, string_bytes, take}}
use Rattle.summary.specs.Regions.{group_text}
use Rattle.summary.proofs.regions.write_regions.Given as goal

-- the groups so far are written
abbrev pub invariant-loop-label : goal.invariant-loop-label
invariant-loop-label l =
    string_bytes l.text ≡ string_bytes l.fn.text ++ flat_map (group_text l.table l.rows l.others) (take l.label-index l.others)
