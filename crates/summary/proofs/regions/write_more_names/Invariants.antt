use Rattle.std.{specs.List.flat_map, proofs.Common.{◌++◌, ◌≡◌, string_bytes, take}}
use Rattle.summary.specs.Regions.{more_name}
use Rattle.summary.proofs.regions.write_more_names.Given as goal

-- the names so far are written
abbrev pub invariant-loop-label : goal.invariant-loop-label
invariant-loop-label l = string_bytes l.text ≡ string_bytes l.fn.text ++ flat_map (more_name l.table) (take l.label-index l.labels)
