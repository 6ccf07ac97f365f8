-- The objects between two labels are found by the rows of what the one affects, and of what the other depends on.
use Rattle.std.proofs.{Common.{◌&&◌, ◌<◌, ◌∙◌, ◌≡◌, ap, arith, false, get_or, length, not, subst}, lemmas.List.get_or_default}
use Rattle.{base.specs.Labels.{is_in, no_labels}, policy.proofs.Gathering.Tells, reach.specs.{Extents.limits_of, Reach.TableReach}}
use Rattle.flows.{specs.{Flowing.FlowsBy, Rows.row_at}, proofs.FlowSets.between_told}
use Rattle.flows.proofs.flowing.Flows.objects_between.Goals as goal

pub returns : goal.returns
returns c l =
    let affected = c.self.inside.affected.items in
    let needed = c.self.inside.needed.items in
    let reach = c.self.inside.reach.now in
    let one = c.index-affected.result.now in
    let other = c.index-needed.result.now in
    let filters = c.args.filters in
    let from_at : c.from.result ≡ c.args.from = omega arith in
    let to_at : c.from-2.result ≡ c.args.to = omega arith in
    let from_within : c.from.result < length affected = omega (arith, c.number.ensures.below, c.self.invariant.affects.count) in
    let to_within : c.from-2.result < length needed = omega (arith, c.number-2.ensures.below, c.self.invariant.depends.count) in
    let one_is : one ≡ row_at affected c.args.from =
    c.index-affected.ensures ∙ get_or_default affected c.from.result one no_labels from_within ∙ ap (λ n. get_or affected n no_labels) from_at in
    let other_is : other ≡ row_at needed c.args.to =
    c.index-needed.ensures ∙ get_or_default needed c.from-2.result other no_labels to_within ∙ ap (λ n. get_or needed n no_labels) to_at in
    subst (λ (r : TableReach). Tells (is_in c.difference.result l) (FlowsBy (limits_of r) c.args.from l c.args.to × (is_in filters l ≡ false)))
    c.self.view_is
    (between_told (limits_of reach) affected needed c.self.invariant c.args.from c.args.to
    (omega (arith, c.number.ensures.below, c.number.ensures.value)) (omega (arith, c.number-2.ensures.below, c.number-2.ensures.value)) filters l
    (is_in c.difference.result l)
    (c.difference.ensures l ∙ ap (λ b. b && not (is_in filters l)) (c.intersection.ensures l)
    ∙ (λ i. (is_in (one_is i) l && is_in (other_is i) l) && not (is_in filters l))))
