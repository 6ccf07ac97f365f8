use Rattle.policy.{specs.Policy.allows, proofs.GuardedWalking.more_turns}
use Rattle.policy.proofs.policy.Policy.+guarded_reaching.Goals as goal

pub returns-in-Some : goal.returns-in-Some
returns-in-Some t c from =
    more_turns (allows c.args.self.now) c.in-Some.turn.now c.in-Some.rest.now c.guarded_reaching.result c.guarded-goals.result c.args.to
    c.guarded_reaching.ensures c.guarded-goals.ensures c.args.turns.now c.in-Some.ensures.cases.0 from _ (c.before-in-Some.ensures from)
