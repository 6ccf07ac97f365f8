use Rattle.std.proofs.{Common.{[], ℕ, ◌∙◌, ◌∷◌, ◌≡◌, sym, true}, lemmas.Result.IfOk-weaker}
use Rattle.base.specs.{declared.kind.Kind.TheVariants.Send, Labels.is_in}
use Rattle.policy.specs.{ActorReasons.IsChangeBy, Guarded.FindsLesserGuarded, Policy.allows, Walks.FindsWalk}
use Rattle.policy.proofs.{ChangeWalks.{change_least, lets_all, lets_some}, Gathering.{itself_tells, row_tells}}
use Rattle.policy.proofs.policy.Policy.change_reason.Goals as goal

pub returns : goal.returns
returns c =
    let test = allows c.args.self.now in
    let actor = c.args.actor in
    let acts = is_in c.args.actors in
    let actors = λ (label : ℕ). itself_tells (acts label) in
    let is_actor : acts actor ≡ true = sym c.has.ensures ∙ c.if-not-has.false in
    IfOk-weaker c.lesser_guarded-9.result
    (FindsLesserGuarded test (c.along-answer.result ∷ c.along-held.result ∷ []) actor c.args.object c.in_ok-grants.grants)
    (FindsWalk (IsChangeBy test acts actor c.args.object))
    (λ last finds.
    change_least test acts actor c.args.object is_actor c.along-modify.result c.along-bind.result c.along-lend.result c.along-send.result
    c.against-sender.result c.along-receive.result c.against-receiver.result c.along-notify.result c.against-awaiter.result c.along-call.result
    c.along-reply.result c.along-grant.result c.along-control.result c.along-answer.result c.along-held.result (record {
      modify_is = c.along-modify.ensures.along;
      modify_lets = lets_all c.along-modify.result c.along-modify.ensures.among;
      bind_is = c.along-bind.ensures.along;
      bind_lets = lets_some _ c.row_beside-bound.result c.along-bind.result c.along-bind.ensures.among c.row_beside-bound.ensures;
      lend_is = c.along-lend.ensures.along;
      lend_lets = lets_some _ c.moved-moved.result c.along-lend.result c.along-lend.ensures.among c.moved-moved.ensures;
      send_is = c.along-send.ensures.along;
      send_lets = lets_all c.along-send.result c.along-send.ensures.among;
      sender_is = c.against-sender.ensures.against;
      sender_lets = lets_some _ c.args.actors c.against-sender.result c.against-sender.ensures.among actors;
      receive_is = c.along-receive.ensures.along;
      receive_lets = lets_all c.along-receive.result c.along-receive.ensures.among;
      receiver_is = c.against-receiver.ensures.against;
      receiver_lets = lets_some _ c.args.actors c.against-receiver.result c.against-receiver.ensures.among actors;
      notify_is = c.along-notify.ensures.along;
      notify_lets = lets_all c.along-notify.result c.along-notify.ensures.among;
      awaiter_is = c.against-awaiter.ensures.against;
      awaiter_lets = lets_some _ c.args.actors c.against-awaiter.result c.against-awaiter.ensures.among actors;
      call_is = c.along-call.ensures.along;
      call_lets = lets_some _ c.row.result c.along-call.result c.along-call.ensures.among (row_tells test Send actor c.row.result c.row.ensures);
      reply_is = c.along-reply.ensures.along;
      reply_lets = lets_all c.along-reply.result c.along-reply.ensures.among;
      grant_is = c.along-grant.ensures.along;
      grant_lets = lets_all c.along-grant.result c.along-grant.ensures.among;
      control_is = c.along-control.ensures.along;
      control_lets = lets_all c.along-control.result c.along-control.ensures.among;
      answer_is = c.along-answer.ensures.along;
      answer_lets = lets_some _ c.holding-answered.result c.along-answer.result c.along-answer.ensures.among c.holding-answered.ensures;
      held_is = c.along-held.ensures.along;
      held_lets = lets_all c.along-held.result c.along-held.ensures.among;
    }) c.in_ok-own.own c.in_ok-modifies.modifies c.in_ok-binds.binds c.in_ok-lends.lends c.in_ok-sends.sends c.in_ok-receives.receives
    c.in_ok-notifies.notifies c.in_ok-links.links c.in_ok-grants.grants last c.in_ok-own.ensures c.in_ok-modifies.ensures
    c.in_ok-binds.ensures c.in_ok-lends.ensures c.in_ok-sends.ensures c.in_ok-receives.ensures
    c.in_ok-notifies.ensures c.in_ok-links.ensures c.in_ok-grants.ensures finds)
    c.lesser_guarded-9.ensures
