use Rattle.std.proofs.Common.{ℕ, ◌↔◌, ◌∙◌, ◌≡◌, subst, sym, true}
use Rattle.base.specs.{declared.kind.Kind.TheVariants.{Call, Receive, Reply, Send}, Labels.is_in}
use Rattle.policy.{specs.Policy.allows, proofs.Gathering.{both, either, row_tells, target_tells, told_as, waiting_tells}}
use Rattle.reach.specs.Extents.{limits_by}
use Rattle.summary.{specs.{Letters.{HasLetter, by_call}, Ways.WaysOf}, proofs.{LetterSets.{call_from, call_to}, Waiting.of_kind}}
use Rattle.summary.proofs.ways.Ways.calls.Goals as goal
use mathlib.Core.Bool.{false≢true}

-- a label whose threads make no calls changes nothing
pub returns-then-not-has : goal.returns-then-not-has
returns-then-not-has c l =
    subst (λ (w : WaysOf). (is_in c.none.result l ≡ true) ↔ HasLetter by_call (limits_by w.edges w.actors) c.args.actor l) c.self.view_is (
      λ is. absurd (false≢true (sym (c.none.ensures l) ∙ is)),
      λ has. absurd (false≢true (sym (sym c.has.ensures ∙ c.if-not-has.true) ∙ has.0.actor)),
    )

pub returns : goal.returns
returns c l =
    let edges = c.self.inside.policy.now in
    let test = allows edges in
    let actors = c.self.inside.actors in
    let acts = is_in actors in
    let actor = c.args.actor in
    let is_actor : acts actor ≡ true = sym c.has.ensures ∙ c.if-not-has.false in
    let send = row_tells test Send actor c.row-send.result c.row-send.ensures in
    let call = row_tells test Call actor c.row-call.result c.row-call.ensures in
    let answerable = λ (end : ℕ).
    both (is_in c.intersection-answerable.result end) (is_in c.row-send.result end) (is_in c.row-call.result end) (send end) (call end)
    (c.intersection-answerable.ensures end) in
    let callees = λ (receiver : ℕ).
    waiting_tells test Receive _ c.intersection-answerable.result answerable receiver (is_in c.waiting-callees.result receiver) (acts receiver)
    (of_kind edges Receive c.self.inside.receivers c.self.invariant.receivers c.intersection-answerable.result actors c.waiting-callees.result c.waiting-callees.ensures receiver) in
    let reached =
    waiting_tells test Receive _ c.row-send.result send l (is_in c.waiting-reached.result l) (acts l)
    (of_kind edges Receive c.self.inside.receivers c.self.invariant.receivers c.row-send.result actors c.waiting-reached.result c.waiting-reached.ensures l) in
    let linked = target_tells test Reply _ c.waiting-callees.result callees l (is_in c.targets-linked.result l) (c.targets-linked.ensures l) in
    subst (λ (w : WaysOf). (is_in c.union.result l ≡ true) ↔ HasLetter by_call (limits_by w.edges w.actors) actor l) c.self.view_is
    (told_as (is_in c.union.result l)
    (either (is_in c.union.result l) (is_in c.union-met.result l) (is_in c.targets-linked.result l) (either (is_in c.union-met.result l) (is_in c.row-send.result l) (is_in c.waiting-reached.result l) (send l) reached (c.union-met.ensures l)) linked (c.union.ensures l))
    (λ w. let way = call_to test acts actor l w in (record { actor = is_actor; way = way.0 }, way.1))
    (λ has. call_from test acts actor l has.0.way has.1))
