use Rattle.std.proofs.Common.{◌≡◌, map, take}
use Rattle.{serde_json.specs.View.view, reptext.specs.Differences.change_data}
use Rattle.reptext.proofs.differences.values_of.Given as goal

-- the changes so far are kept
abbrev pub invariant-loop-change : goal.invariant-loop-change
invariant-loop-change l = map view l.values.items ≡ map (change_data l.old l.new) (take l.change-index l.changes)
