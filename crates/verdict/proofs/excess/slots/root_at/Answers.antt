use Rattle.std.{specs.Option.option_map, proofs.Common.{◌∙◌, ◌≡◌, Some, ap, option_copied, refl, sym}}
use Rattle.machine.specs.{declared.object.Object.Object as o, Machine.object_of, Objects.kind_of_object}
use Rattle.{policy.specs.Policy.allows, verdict.proofs.OutsidePlaces.{least_lacking, root_by}}
use Rattle.verdict.proofs.excess.slots.root_at.Goals as goal

pub returns : goal.returns
returns c =
    let t = c.args.table.now in
    let allowed = allows c.args.policy.now in
    let m = c.args.state.now in
    let is : object_of m c.args.holder ≡ Some (o.Tcb c.in-Some-Tcb.field-0-0) = cc (sym c.object.ensures ∙ ap option_copied c.in-Some-Tcb.is) in
    least_lacking t allowed m
    (root_by t allowed m c.args.holder c.args.from c.requires c.caps_are_in_slots.ensures (o.Tcb c.in-Some-Tcb.field-0-0) is refl
    c.in_ok-held.held (sym c.cap.ensures ∙ c.in_ok-held.was) (ap (option_map kind_of_object) is))
    c.missing_label.result c.missing_label.ensures c.in_ok-label.label c.in_ok-label.was
