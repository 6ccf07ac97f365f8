use Rattle.std.proofs.Common.{ℕ, ◌∙◌, ◌≡◌, refl, subst, sym, true}
use Rattle.base.specs.{declared.kind.Kind.TheVariants.{Call, Holds, Receive, Reply}, Labels.is_in}
use Rattle.policy.{specs.Policy.allows, proofs.Gathering.{both, only_tells, row_tells, source_tells, target_tells, told_as, waiting_tells}}
use Rattle.policy.proofs.policy.Policy.holding.Goals as goal

pub returns : goal.returns
returns c reply =
    let test = allows c.args.self.now in
    let acts = is_in c.args.actors in
    let caller = c.args.caller in
    let is_actor : acts caller ≡ true = sym c.has.ensures ∙ c.if-not-has.false in
    let servers = λ (server : ℕ).
    waiting_tells test Receive _ c.row.result (row_tells test Call caller c.row.result c.row.ensures) server (is_in c.waiting-servers.result server)
    (acts server) (c.waiting-servers.ensures server) in
    let named = target_tells test Reply _ c.waiting-servers.result servers reply (is_in c.targets.result reply) (c.targets.ensures reply) in
    let holds =
    source_tells test Holds (λ to. to ≡ caller) c.only.result (only_tells c.only.result caller c.only.ensures) reply (is_in c.sources-holders.result reply)
    (c.sources-holders.ensures reply) in
    told_as (is_in c.intersection.result reply)
    (both (is_in c.intersection.result reply) (is_in c.targets.result reply) (is_in c.sources-holders.result reply) named holds (c.intersection.ensures reply))
    (λ w. record {
      holds = subst (λ to. test reply Holds to ≡ true) w.1.1 w.1.2;
      server = w.0.0;
      names = w.0.2;
      serves = w.0.1.3;
      endpoint = w.0.1.0;
      receives = w.0.1.2;
      calls = w.0.1.1;
      waits = is_actor;
    })
    (λ h. ((h.server, (h.endpoint, h.calls, h.receives, h.serves), h.names), (caller, refl, h.holds)))
