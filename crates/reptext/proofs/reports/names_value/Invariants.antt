use Rattle.std.proofs.Common.{◌≡◌, map, string_bytes, take}
use Rattle.serde_json.specs.{Data.string, View.view}
use Rattle.reptext.proofs.reports.names_value.Given as goal

abbrev pub invariant-loop-name : goal.invariant-loop-name
invariant-loop-name l = map view l.values.items ≡ map string (map string_bytes (take l.name-index l.names))
