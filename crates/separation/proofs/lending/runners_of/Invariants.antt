-- The domains found so far run on the domain's time by at most this number of calls.
use Rattle.std.proofs.Common.{◌≡◌}
use Rattle.{microkit.specs.View.description_of, separation.specs.Lending.runners_by}
use Rattle.separation.proofs.lending.runners_of.Given as goal

abbrev pub invariant-loop-calls : goal.invariant-loop-calls
invariant-loop-calls l =
    l.runners.items ≡ runners_by (description_of l.description) l.domain l._calls
