use Rattle.{std.proofs.Common.{inl, inr, subst}, base.specs.Labels.is_in}
use Rattle.reach.{specs.{Extents.limits_of, Reach.{IsTableReach, TableReach}}, proofs.LeastReach.actors_told}
use Rattle.flows.proofs.Leading.{undisturbed}
use Rattle.flows.proofs.flowing.Flows.leading_to.Goals as goal

pub returns-clause-kept : goal.returns-clause-kept
returns-clause-kept c =
    let reach = c.args.self.now in
    let its : IsTableReach reach = subst (λ (r : TableReach). IsTableReach r) c.self.view_is c.bounds_runs.ensures.reach in
    undisturbed reach.table (limits_of reach) (is_in c.args.filters) c.args.to (is_in c.sources_of.result) c.sources_of.ensures
    (λ x l never. c.runs_keep_labels_apart.ensures.apart reach.table reach.policy (is_in reach.actors) x l its.lawful its.least
    (actors_told reach its) (λ may. never (inl may)) (λ may. never (inr may)))
