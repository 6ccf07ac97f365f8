use Rattle.std.{specs.List.flat_map, proofs.Common.{◌≡◌, map, take}}
use Rattle.{serde_json.specs.View.view, reptext.specs.Breaches.told}
use Rattle.reptext.proofs.breaches.values_of.Given as goal

abbrev pub invariant-loop-one : goal.invariant-loop-one
invariant-loop-one l = map view l.values.items ≡ flat_map (told l.table l.lines) (take l.one-index l.broken)
