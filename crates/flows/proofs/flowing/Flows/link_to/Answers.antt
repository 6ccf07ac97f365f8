-- The object of the link is one of those between the two labels; there are some, since the one flows to the other.
use Rattle.std.proofs.{Common.{◌∙◌, not, refl, sym}, lemmas.Bool.{and_parts, false≢true}}
use Rattle.{base.specs.Labels.is_in, flows.proofs.Chains.was_not}
use Rattle.flows.proofs.flowing.Flows.link_to.Goals as goal

pub returns-in_err-object : goal.returns-in_err-object
returns-in_err-object c =
    let from = c.in_ok-from.from in
    let parts =
    and_parts (is_in c.previous_beside.result from) (not (is_in c.args.known from)) (sym (c.difference.ensures from) ∙ c.in_ok-from.ensures.some.0) in
    let flow = (c.previous_beside.ensures from).0 parts.0 in
    absurd (false≢true (sym (c.in_err-object.ensures.none flow.object) ∙ (c.objects_between.ensures flow.object).1 (flow.flows, flow.beside)))

pub returns : goal.returns
returns c =
    let from = c.in_ok-from.from in
    let parts =
    and_parts (is_in c.previous_beside.result from) (not (is_in c.args.known from)) (sym (c.difference.ensures from) ∙ c.in_ok-from.ensures.some.0) in
    let by = (c.objects_between.ensures c.in_ok-object.object).0 c.in_ok-object.ensures.some.0 in
    (record { flows = by.0; beside = by.1 }, refl, was_not (is_in c.args.known from) parts.1)
