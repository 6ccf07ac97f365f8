use Rattle.{std.{specs.Prelude.Some, proofs.Common.sym}, objects.proofs.NumberLemmas.{other_early, set_early}}
use Rattle.objects.proofs.numbers.set_place.Goals as goal

pub returns-in-Some-clause-placed : goal.returns-in-Some-clause-placed
returns-in-Some-clause-placed c =
    rw c.set.ensures (set_early c.args.places.now.early _ c.args.number _ (Some c.args.place) (sym c.in-Some.ensures))

pub returns-in-Some-clause-stays : goal.returns-in-Some-clause-stays
returns-in-Some-clause-stays c =
    λ other differs. rw c.set.ensures (other_early c.args.places.now.early _ c.args.number (Some c.args.place) other differs)
