-- The keepers by the policy are the labels that may keep.
use Rattle.reach.{proofs.LeastReach.{from_may, may_from}}
use Rattle.reach.proofs.least.Reach.of.Goals as goal

pub invariant_of-result : goal.invariant_of-result
invariant_of-result c =
    let t = c.args.table.now in
    let told = c.node_holders-held.ensures.holders in
    record {
      lawful = c.node_holders-held.ensures.lawful;
      least = c.in_ok-policy.ensures.least;
      keepers = λ a. (
        λ among. from_may t _ c.node_holders-held.result told ((c.keepers-keepers.ensures a).0 among),
        λ keeps. (c.keepers-keepers.ensures a).1 (may_from t _ c.node_holders-held.result told keeps),
      );
      idlers = c.idlers-idlers.ensures;
      actors = c.actors-actors.ensures c.in_ok-policy.ensures.least.sharp.uses_rise;
    }

pub returns-clause-reach : goal.returns-clause-reach
returns-clause-reach c = invariant_of-result c
