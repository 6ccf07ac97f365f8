-- The maps found so far are those of the first regions.
use Rattle.std.{specs.List.range_with_len, proofs.Common.{◌≡◌, map}}
use Rattle.importing.specs.{Groups.uses_of, PlanView.maps_of}
use Rattle.importing.proofs.groups.all_uses.Given as goal

abbrev pub invariant-loop-region : goal.invariant-loop-region
invariant-loop-region l = maps_of l.uses.items ≡ map (uses_of l.maps) (range_with_len 0 l.region)
