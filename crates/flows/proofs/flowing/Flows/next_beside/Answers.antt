-- The next labels are found by the rows of what the label affects, and of what the others depend on.
use Rattle.std.proofs.{Common.{ℕ, ◌&&◌, ◌<◌, ◌∙◌, ◌≡◌, List, ap, arith, get_or, length, not, subst, true}, lemmas.List.get_or_default}
use Rattle.base.specs.{declared.labels.Labels.Labels, Labels.{is_in, no_labels}}
use Rattle.{policy.proofs.Gathering.Tells, reach.specs.{Extents.limits_of, Reach.TableReach}}
use Rattle.flows.{specs.{Flowing.FlowsBeside, Rows.{MeetsSet, row_at}}, proofs.FlowSets.flows_told}
use Rattle.flows.proofs.flowing.Flows.next_beside.Goals as goal

pub returns : goal.returns
returns c y =
    let affected = c.self.inside.affected.items in
    let needed = c.self.inside.needed.items in
    let reach = c.self.inside.reach.now in
    let row = c.index-affected.result.now in
    let filters = c.args.filters in
    let at : c.from.result ≡ c.args.from = omega arith in
    let within : c.from.result < length affected = omega (arith, c.number.ensures.below, c.self.invariant.affects.count) in
    let row_is : row ≡ row_at affected c.args.from =
    c.index-affected.ensures ∙ get_or_default affected c.from.result row no_labels within ∙ ap (λ n. get_or affected n no_labels) at in
    let few = subst (λ (labels : Labels). (l : ℕ) → is_in labels l ≡ true → l < 256) c.actors.ensures.actors c.labels_are_few.ensures in
    let row_few = subst (λ (labels : Labels). (l : ℕ) → is_in labels l ≡ true → l < 256) row_is c.labels_are_few-2.ensures in
    subst (λ (r : TableReach). Tells (is_in c.meeting.result y) (FlowsBeside (limits_of r) (is_in filters) c.args.from y)) c.self.view_is
    (flows_told (limits_of reach) affected needed c.self.invariant few c.args.from (omega (arith, c.number.ensures.below, c.number.ensures.value)) row_few filters
    c.difference.result (λ l. c.difference.ensures l ∙ ap (λ r. is_in r l && not (is_in filters l)) row_is) y (is_in c.meeting.result y)
    (subst (λ (rows : List Labels). Tells (is_in c.meeting.result y) (MeetsSet rows c.difference.result y)) c.deref.ensures.value (c.meeting.ensures y)))
