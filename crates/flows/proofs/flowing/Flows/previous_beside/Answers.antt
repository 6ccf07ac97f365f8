-- The previous labels are found by the rows of what the label depends on, and of what the others affect.
use Rattle.std.proofs.{Common.{ℕ, ◌&&◌, ◌<◌, ◌∙◌, ◌≡◌, List, ap, arith, get_or, length, not, subst, true}, lemmas.List.get_or_default}
use Rattle.base.specs.{declared.labels.Labels.Labels, Labels.{is_in, no_labels}}
use Rattle.{policy.proofs.Gathering.Tells, reach.specs.{Extents.limits_of, Reach.TableReach}}
use Rattle.flows.{specs.{Flowing.FlowsBeside, Rows.{MeetsSet, row_at}}, proofs.FlowSets.sources_told}
use Rattle.flows.proofs.flowing.Flows.previous_beside.Goals as goal

pub returns : goal.returns
returns c x =
    let affected = c.self.inside.affected.items in
    let needed = c.self.inside.needed.items in
    let reach = c.self.inside.reach.now in
    let row = c.index-needed.result.now in
    let filters = c.args.filters in
    let at : c.from.result ≡ c.args.to = omega arith in
    let within : c.from.result < length needed = omega (arith, c.number.ensures.below, c.self.invariant.depends.count) in
    let row_is : row ≡ row_at needed c.args.to =
    c.index-needed.ensures ∙ get_or_default needed c.from.result row no_labels within ∙ ap (λ n. get_or needed n no_labels) at in
    let few = subst (λ (labels : Labels). (l : ℕ) → is_in labels l ≡ true → l < 256) c.actors.ensures.actors c.labels_are_few.ensures in
    subst (λ (r : TableReach). Tells (is_in c.meeting.result x) (FlowsBeside (limits_of r) (is_in filters) x c.args.to)) c.self.view_is
    (sources_told (limits_of reach) affected needed c.self.invariant few c.args.to (omega (arith, c.number.ensures.below, c.number.ensures.value)) filters
    c.difference.result (λ l. c.difference.ensures l ∙ ap (λ r. is_in r l && not (is_in filters l)) row_is) x (is_in c.meeting.result x)
    (subst (λ (rows : List Labels). Tells (is_in c.meeting.result x) (MeetsSet rows c.difference.result x)) c.deref.ensures.value (c.meeting.ensures x)))
