use Rattle.std.proofs.Common.{◌∙◌}
use Rattle.{microkit.specs.View.description_of, importing.{specs.PlanView.maps_of, proofs.Places.{labels_distinct, labels_spelled}}}
use Rattle.importing.proofs.tables.planned.Goals as goal

pub returns-clause-names : goal.returns-clause-names
returns-clause-names c =
    labels_spelled (description_of c.args.description.now) c.in_ok-names.names.items c.deref-4.result.now
    (maps_of c.deref-3.result.now) c.in_ok-places.places.items c.in_ok-names.ensures.exact
    (c.deref-4.ensures.value ∙ c.in_ok-subjects.ensures) c.in_ok-places.ensures c.in_ok-names.ensures.names

pub returns-clause-distinct : goal.returns-clause-distinct
returns-clause-distinct c =
    labels_distinct (description_of c.args.description.now) c.in_ok-names.names.items c.deref-4.result.now
    (maps_of c.deref-3.result.now) c.in_ok-places.places.items c.in_ok-names.ensures.exact
    (c.deref-4.ensures.value ∙ c.in_ok-subjects.ensures) c.in_ok-places.ensures c.in_ok-names.ensures.distinct
