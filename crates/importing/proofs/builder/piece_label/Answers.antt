use Rattle.std.{specs.Global.Vec, proofs.Common.{◌∙◌, List, ap}}
use Rattle.microkit.specs.declared.{description.Map.Map, labels.Subject.Subject}
use Rattle.importing.specs.{Groups.leader_of, Plan.label_of, PlanView.maps_of}
use Rattle.importing.proofs.builder.piece_label.Goals as goal

pub returns : goal.returns
returns c =
    c.label_of.ensures
    ∙ ap (λ (xs : List Subject). label_of xs c.leader_of-leader.result) c.deref-2.ensures.value
    ∙ ap (label_of c.args.plan.now.labelled.items)
    (c.leader_of-leader.ensures
    ∙ ap (λ (xs : List (Vec Map)). leader_of (maps_of xs) c.subject_of-subject.result) c.deref.ensures.value
    ∙ ap (leader_of (maps_of c.args.plan.now.uses.items)) c.subject_of-subject.ensures)
