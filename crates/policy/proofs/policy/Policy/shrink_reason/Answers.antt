use Rattle.std.proofs.{Common.{[], ℕ, ◌∙◌, ◌∷◌, ◌≡◌, sym, true}, lemmas.Result.IfOk-weaker}
use Rattle.base.specs.{declared.kind.Kind.TheVariants.Reply, Labels.is_in}
use Rattle.policy.specs.{ActorReasons.IsShrinkBy, Guarded.FindsLesserGuarded, Policy.allows, Walks.FindsWalk}
use Rattle.policy.proofs.{ChangeWalks.{lets_all, lets_some}, Gathering.{itself_tells, row_tells}, ShrinkWalks.shrink_least}
use Rattle.policy.proofs.policy.Policy.shrink_reason.Goals as goal

pub returns : goal.returns
returns c =
    let test = allows c.args.self.now in
    let actor = c.args.actor in
    let object = c.args.object in
    let acts = is_in c.args.actors in
    let actors = λ (label : ℕ). itself_tells (acts label) in
    let is_actor : acts actor ≡ true = sym c.has.ensures ∙ c.if-not-has.false in
    IfOk-weaker c.lesser_guarded-8.result
    (FindsLesserGuarded test (c.along-control.result ∷ c.along-reset.result ∷ c.against-receiver.result ∷ c.along-use_reply.result ∷ []) actor object
    c.in_ok-wakes.wakes) (FindsWalk (IsShrinkBy test acts actor object))
    (λ last finds.
    shrink_least test acts actor object is_actor c.along-context.result c.against-runner.result c.along-named.result c.along-held.result
    c.along-use_reply.result c.against-holder.result c.along-queue.result c.along-send.result c.against-receiver.result c.along-control.result
    c.along-remove.result c.along-caller.result c.against-holding.result c.along-reset.result c.against-waiter.result (record {
      context_is = c.along-context.ensures.along;
      context_lets = lets_all c.along-context.result c.along-context.ensures.among;
      runner_is = c.against-runner.ensures.against;
      runner_lets = lets_all c.against-runner.result c.against-runner.ensures.among;
      named_is = c.along-named.ensures.along;
      named_lets = lets_some _ c.row.result c.along-named.result c.along-named.ensures.among (row_tells test Reply object c.row.result c.row.ensures);
      held_is = c.along-held.ensures.along;
      held_lets = lets_some _ c.args.actors c.along-held.result c.along-held.ensures.among actors;
      use_is = c.along-use_reply.ensures.along;
      use_lets = lets_all c.along-use_reply.result c.along-use_reply.ensures.among;
      holder_is = c.against-holder.ensures.against;
      holder_lets = lets_some _ c.args.actors c.against-holder.result c.against-holder.ensures.among actors;
      queue_is = c.along-queue.ensures.along;
      queue_lets = lets_all c.along-queue.result c.along-queue.ensures.among;
      send_is = c.along-send.ensures.along;
      send_lets = lets_all c.along-send.result c.along-send.ensures.among;
      receiver_is = c.against-receiver.ensures.against;
      receiver_lets = lets_some _ c.args.actors c.against-receiver.result c.against-receiver.ensures.among actors;
      control_is = c.along-control.ensures.along;
      control_lets = lets_all c.along-control.result c.along-control.ensures.among;
      remove_is = c.along-remove.ensures.along;
      remove_lets = lets_all c.along-remove.result c.along-remove.ensures.among;
      caller_is = c.along-caller.ensures.along;
      caller_lets = lets_some _ c.args.actors c.along-caller.result c.along-caller.ensures.among actors;
      holding_is = c.against-holding.ensures.against;
      holding_lets = lets_all c.against-holding.result c.against-holding.ensures.among;
      reset_is = c.along-reset.ensures.along;
      reset_lets = lets_all c.along-reset.result c.along-reset.ensures.among;
      waiter_is = c.against-waiter.ensures.against;
      waiter_lets = lets_some _ c.args.actors c.against-waiter.result c.against-waiter.ensures.among actors;
    }) c.in_ok-unbinds.unbinds c.in_ok-stops.stops c.in_ok-halts.halts c.in_ok-ends.ends c.in_ok-frees.frees c.in_ok-removes.removes
    c.in_ok-releases.releases c.in_ok-wakes.wakes last c.in_ok-unbinds.ensures c.in_ok-stops.ensures c.in_ok-halts.ensures
    c.in_ok-ends.ensures c.in_ok-frees.ensures c.in_ok-removes.ensures c.in_ok-releases.ensures
    c.in_ok-wakes.ensures finds)
    c.lesser_guarded-8.ensures
