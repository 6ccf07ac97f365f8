use Rattle.std.proofs.Common.{ℕ, ◌∙◌, ◌≡◌, refl, sym, true}
use Rattle.base.specs.{declared.kind.Kind.TheVariants.{Await, Call, Control, Grant, Notify, Receive, Reply, Send}, Labels.is_in}
use Rattle.policy.specs.{declared.change.TheConstants.CHANGING, Change.is_changing, Policy.allows}
use Rattle.policy.proofs.{ChangeSets.{change_from, change_to, changing_listed}, Gathering.{both, either, kinds_tell, only_tells, row_tells}}
use Rattle.policy.proofs.Gathering.{target_tells, told_as, waiting_tells}
use Rattle.policy.proofs.policy.Policy.change_labels.Goals as goal

pub returns : goal.returns
returns c object =
    let test = allows c.args.self.now in
    let acts = is_in c.args.actors in
    let actor = c.args.actor in
    let is_actor : acts actor ≡ true = sym c.has.ensures ∙ c.if-not-has.false in
    let send = row_tells test Send actor c.row-send.result c.row-send.ensures in
    let called = λ (end : ℕ).
    both (is_in c.intersection-call.result end) (is_in c.row-send.result end) (is_in c.row.result end) (send end)
    (row_tells test Call actor c.row.result c.row.ensures end) (c.intersection-call.ensures end) in
    let callees = λ (receiver : ℕ).
    waiting_tells test Receive _ c.intersection-call.result called receiver (is_in c.waiting-callees.result receiver) (acts receiver)
    (c.waiting-callees.ensures receiver) in
    let takers = λ (receiver : ℕ).
    waiting_tells test Receive _ c.row-grant.result (row_tells test Grant actor c.row-grant.result c.row-grant.ensures) receiver
    (is_in c.waiting-takers.result receiver) (acts receiver) (c.waiting-takers.ensures receiver) in
    let own = only_tells c.only.result actor c.only.ensures object in
    let modified =
    told_as (is_in c.row_of_kinds.result object) (λ e. sym (c.row_of_kinds.ensures object) ∙ e, λ e. c.row_of_kinds.ensures object ∙ e)
    (kinds_tell is_changing CHANGING refl changing_listed test actor object).0 (kinds_tell is_changing CHANGING refl changing_listed test actor object).1 in
    let received =
    waiting_tells test Receive _ c.row-send.result send object (is_in c.waiting.result object) (acts object) (c.waiting.ensures object) in
    let sent =
    waiting_tells test Send _ c.row-receive.result (row_tells test Receive actor c.row-receive.result c.row-receive.ensures) object
    (is_in c.waiting-2.result object) (acts object) (c.waiting-2.ensures object) in
    let awaited =
    waiting_tells test Await _ c.row-notify.result (row_tells test Notify actor c.row-notify.result c.row-notify.ensures) object
    (is_in c.waiting-3.result object) (acts object) (c.waiting-3.ensures object) in
    let linked = target_tells test Reply _ c.waiting-callees.result callees object (is_in c.targets.result object) (c.targets.ensures object) in
    let granted = target_tells test Control _ c.waiting-takers.result takers object (is_in c.targets-2.result object) (c.targets-2.ensures object) in
    told_as (is_in c.union-8.result object)
    (either (is_in c.union-8.result object) (is_in c.union-7.result object) (is_in c.answered.result object)
    (either (is_in c.union-7.result object) (is_in c.union-6.result object) (is_in c.targets-2.result object)
    (either (is_in c.union-6.result object) (is_in c.union-5.result object) (is_in c.targets.result object)
    (either (is_in c.union-5.result object) (is_in c.union-4.result object) (is_in c.waiting-3.result object)
    (either (is_in c.union-4.result object) (is_in c.union-3.result object) (is_in c.waiting-2.result object)
    (either (is_in c.union-3.result object) (is_in c.union-2.result object) (is_in c.waiting.result object)
    (either (is_in c.union-2.result object) (is_in c.union.result object) (is_in c.contexts.result object)
    (either (is_in c.union.result object) (is_in c.only.result object) (is_in c.row_of_kinds.result object) own modified (c.union.ensures object))
    (c.contexts.ensures object) (c.union-2.ensures object)) received (c.union-3.ensures object)) sent (c.union-4.ensures object)) awaited
    (c.union-5.ensures object)) linked (c.union-6.ensures object)) granted (c.union-7.ensures object)) (c.answered.ensures object)
    (c.union-8.ensures object))
    (λ w. record { actor = is_actor; way = change_to test acts actor object w }) (λ may. change_from test acts actor object may.way)
