use Rattle.std.proofs.Common.{◌≡◌, map, take}
use Rattle.{serde_json.specs.{Data.string, View.view}, captext.specs.PolicyText.label_name}
use Rattle.reptext.proofs.summaries.labels_value.Given as goal

-- the names so far are kept
abbrev pub invariant-loop-label : goal.invariant-loop-label
invariant-loop-label l = map view l.names.items ≡ map string (map (label_name l.table) (take l.label-index l.labels))
