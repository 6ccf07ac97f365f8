-- The regions found so far, and those that the maps left add, are all.
use Rattle.std.proofs.Common.{[], ◌++◌, ◌≡◌, drop, map, take}
use Rattle.importing.specs.Maps.{frame_held, regions_from}
use Rattle.importing.proofs.maps.maps_held.Given as goal

abbrev pub invariant-loop-i : goal.invariant-loop-i
invariant-loop-i l =
    l.found.items ++ map (frame_held l.maps l.user) (regions_from (take l.i l.maps) l.user (drop l.i l.maps))
    ≡ map (frame_held l.maps l.user) (regions_from [] l.user l.maps)
