use Rattle.std.proofs.Common.{◌≡◌, map, take}
use Rattle.{serde_json.specs.View.view, reptext.specs.Summaries.region_data}
use Rattle.reptext.proofs.summaries.regions.Given as goal

-- the labels so far are kept
abbrev pub invariant-loop-label : goal.invariant-loop-label
invariant-loop-label l = map view l.values.items ≡ map (region_data l.table l.rows) (take l.label-index l.others)
