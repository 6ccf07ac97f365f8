-- The labels from which no chain leads are outside of a set that is closed off from them, and shielded in every run.
use Rattle.std.proofs.Common.{◌∙◌, inl, inr, subst, sym}
use Rattle.{base.specs.Labels.is_in, reach.{specs.{Extents.limits_of, Reach.{IsTableReach, TableReach}}, proofs.LeastReach.actors_told}}
use Rattle.flows.proofs.{Chains.{was, was_not}, Leading.{closed_off, shielded}}
use Rattle.flows.proofs.flowing.Flows.goes_through.Goals as goal

pub returns-clause-leads : goal.returns-clause-leads
returns-clause-leads c is = (c.sources_of.ensures c.args.from).0 (sym c.has.ensures ∙ was c.has.result is)

pub returns-clause-closed : goal.returns-clause-closed
returns-clause-closed c is =
    closed_off (limits_of c.args.self.now) (is_in c.args.filters) c.args.from c.args.to (is_in c.sources_of.result) c.sources_of.ensures
    (sym c.has.ensures ∙ was_not c.has.result is)

pub returns-clause-kept : goal.returns-clause-kept
returns-clause-kept c is =
    let reach = c.args.self.now in
    let its : IsTableReach reach = subst (λ (r : TableReach). IsTableReach r) c.self.view_is c.bounds_runs.ensures.reach in
    shielded reach.table (limits_of reach) (is_in c.args.filters)
    (λ x l never. c.runs_keep_labels_apart.ensures.apart reach.table reach.policy (is_in reach.actors) x l its.lawful its.least
    (actors_told reach its) (λ may. never (inl may)) (λ may. never (inr may)))
    c.args.from c.args.to (returns-clause-closed c is)
