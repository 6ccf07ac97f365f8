use Rattle.std.proofs.Common.{ℕ, ◌∙◌, ◌≡◌, sym, true}
use Rattle.base.specs.{declared.kind.Kind.TheVariants.{Context, Receive, Reply, Runs, Send}, Labels.is_in}
use Rattle.policy.{specs.Policy.allows, proofs.ChangeSets.{shrink_from, shrink_to}}
use Rattle.policy.proofs.Gathering.{either, row_tells, source_tells, target_tells, told_as, waiting_tells}
use Rattle.policy.proofs.policy.Policy.shrink_labels.Goals as goal

pub returns : goal.returns
returns c object =
    let test = allows c.args.self.now in
    let acts = is_in c.args.actors in
    let actor = c.args.actor in
    let is_actor : acts actor ≡ true = sym c.has.ensures ∙ c.if-not-has.false in
    let contexts = row_tells test Context actor c.row-contexts.result c.row-contexts.ensures in
    let holders = λ (holder : ℕ).
    waiting_tells test Reply _ c.row.result (row_tells test Reply actor c.row.result c.row.ensures) holder (is_in c.waiting-holders.result holder) (acts holder)
    (c.waiting-holders.ensures holder) in
    let receivers = λ (receiver : ℕ).
    waiting_tells test Receive _ c.row-2.result (row_tells test Send actor c.row-2.result c.row-2.ensures) receiver (is_in c.waiting-receivers.result receiver)
    (acts receiver) (c.waiting-receivers.ensures receiver) in
    let stopped = source_tells test Runs _ c.row-contexts.result contexts object (is_in c.sources.result object) (c.sources.ensures object) in
    let ended = target_tells test Receive _ c.waiting-holders.result holders object (is_in c.targets.result object) (c.targets.ensures object) in
    let freed = target_tells test Reply _ c.waiting-receivers.result receivers object (is_in c.targets-2.result object) (c.targets-2.ensures object) in
    told_as (is_in c.union-5.result object)
    (either (is_in c.union-5.result object) (is_in c.union-4.result object) (is_in c.taken.result object)
    (either (is_in c.union-4.result object) (is_in c.union-3.result object) (is_in c.targets-2.result object)
    (either (is_in c.union-3.result object) (is_in c.union-2.result object) (is_in c.targets.result object)
    (either (is_in c.union-2.result object) (is_in c.union.result object) (is_in c.halted.result object)
    (either (is_in c.union.result object) (is_in c.row-contexts.result object) (is_in c.sources.result object) (contexts object) stopped
    (c.union.ensures object)) (c.halted.ensures object) (c.union-2.ensures object)) ended (c.union-3.ensures object)) freed (c.union-4.ensures object))
    (c.taken.ensures object) (c.union-5.ensures object))
    (λ w. record { actor = is_actor; way = shrink_to test acts actor object w }) (λ may. shrink_from test acts actor object may.way)
