-- The tries that are left find what all of them find.
use Rattle.std.proofs.Common.{◌-◌, ◌≡◌}
use Rattle.microkit.specs.{LabelView.{bytes_of}, Names.{free_from}}
use Rattle.microkit.proofs.labels.free_name.Given as goal

abbrev pub invariant-loop-k : goal.invariant-loop-k
invariant-loop-k l =
    free_from (bytes_of l.names) l.name l.ending l.k (513 - l.k) ≡ free_from (bytes_of l.names) l.name l.ending 1 512
