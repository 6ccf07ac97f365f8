use Rattle.std.proofs.Common.{◌∙◌, ◌≡◌, refl, sym, true}
use Rattle.base.specs.{declared.kind.Kind.TheVariants.{Call, Notify, Receive, Send}, Labels.is_in}
use Rattle.policy.{specs.Policy.allows, proofs.Gathering.{both, either, kinds_tell, only_tells, row_tells, told_as, waiting_tells}}
use Rattle.flows.{specs.declared.seeing.TheConstants.SEEN, proofs.SeeSets.{is_seen, see_from, see_to, seen_listed}}
use Rattle.flows.proofs.seeing.seen_by.Goals as goal
use mathlib.Core.Bool.{false≢true}

-- one whose threads make no calls sees nothing
pub returns-then-not-has : goal.returns-then-not-has
returns-then-not-has c l = (
  λ is. absurd (false≢true (sym (c.none.ensures l) ∙ is)),
  λ sees. absurd (false≢true (sym (sym c.has.ensures ∙ c.if-not-has.true) ∙ sees.actor)),
)

pub returns : goal.returns
returns c l =
    let test = allows c.args.policy.now in
    let acts = is_in c.args.actors in
    let actor = c.args.actor in
    let is_actor : acts actor ≡ true = sym c.has.ensures ∙ c.if-not-has.false in
    let own = only_tells c.only.result actor c.only.ensures l in
    let kinds = kinds_tell is_seen SEEN refl seen_listed test actor l in
    let used =
    told_as (is_in c.row_of_kinds.result l) (λ e. sym (c.row_of_kinds.ensures l) ∙ e, λ e. c.row_of_kinds.ensures l ∙ e) kinds.0 kinds.1 in
    let senders =
    waiting_tells test Send _ c.row-receive.result (row_tells test Receive actor c.row-receive.result c.row-receive.ensures) l
    (is_in c.waiting.result l) (acts l) (c.waiting.ensures l) in
    let receivers =
    waiting_tells test Receive _ c.row-call.result (row_tells test Call actor c.row-call.result c.row-call.ensures) l
    (is_in c.waiting-2.result l) (acts l) (c.waiting-2.ensures l) in
    let woken =
    both (is_in c.intersection.result l) (is_in c.row-notify.result l) (is_in c.contested.result l)
    (row_tells test Notify actor c.row-notify.result c.row-notify.ensures l) (c.contested.ensures l) (c.intersection.ensures l) in
    told_as (is_in c.union-7.result l)
    (either (is_in c.union-7.result l) (is_in c.union-6.result l) (is_in c.intersection.result l)
    (either (is_in c.union-6.result l) (is_in c.union-5.result l) (is_in c.row_with-2.result l)
    (either (is_in c.union-5.result l) (is_in c.union-4.result l) (is_in c.row_with.result l)
    (either (is_in c.union-4.result l) (is_in c.union-3.result l) (is_in c.answered.result l)
    (either (is_in c.union-3.result l) (is_in c.union-2.result l) (is_in c.waiting-2.result l)
    (either (is_in c.union-2.result l) (is_in c.union.result l) (is_in c.waiting.result l)
    (either (is_in c.union.result l) (is_in c.only.result l) (is_in c.row_of_kinds.result l) own used (c.union.ensures l)) senders
    (c.union-2.ensures l)) receivers (c.union-3.ensures l)) (c.answered.ensures l) (c.union-4.ensures l)) (c.row_with.ensures l)
    (c.union-5.ensures l)) (c.row_with-2.ensures l) (c.union-6.ensures l)) woken (c.union-7.ensures l))
    (λ w. record { actor = is_actor; way = see_to test acts actor l w }) (λ sees. see_from test acts actor l sees.way)
