-- The capabilities so far, and those that are left, are all.
use Rattle.std.proofs.Common.{◌++◌, ◌+◌, ◌≡◌, drop}
use Rattle.importing.specs.Grants.{numbered}
use Rattle.importing.proofs.grants.numbered.Given as goal

abbrev pub invariant-loop-i : goal.invariant-loop-i
invariant-loop-i l =
    l.grants.items ++ numbered l.holder (l.first + l.i) (drop l.i l.helds) ≡ numbered l.holder l.first l.helds
