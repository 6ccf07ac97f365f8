use Rattle.{std.{specs.Prelude.None, proofs.Common.sym}, objects.proofs.NumberLemmas.{other_early, set_early}}
use Rattle.objects.proofs.numbers.take_place.Goals as goal

pub returns-in-Some-clause-gone : goal.returns-in-Some-clause-gone
returns-in-Some-clause-gone c =
    rw c.set.ensures (set_early c.args.places.now.early _ c.args.number _ None (sym c.in-Some.ensures))

pub returns-in-Some-clause-stays : goal.returns-in-Some-clause-stays
returns-in-Some-clause-stays c =
    λ other differs. rw c.set.ensures (other_early c.args.places.now.early _ c.args.number None other differs)
