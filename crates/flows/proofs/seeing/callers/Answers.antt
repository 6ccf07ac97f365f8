use Rattle.std.proofs.Common.{ℕ, ◌≡◌, refl, subst, true}
use Rattle.base.specs.{declared.kind.Kind.TheVariants.{Call, Holds, Receive, Reply}, Labels.is_in}
use Rattle.policy.{specs.Policy.allows, proofs.Gathering.{both, only_tells, row_tells, target_tells, told_as, waiting_tells}}
use Rattle.flows.proofs.seeing.callers.Goals as goal

pub returns : goal.returns
returns c caller =
    let test = allows c.args.policy.now in
    let acts = is_in c.args.actors in
    let reply = c.args.reply in
    let servers = λ (server : ℕ).
    waiting_tells test Reply (λ to. to ≡ reply) c.only.result (only_tells c.only.result reply c.only.ensures) server
    (is_in c.waiting-servers.result server) (acts server) (c.waiting-servers.ensures server) in
    let endpoints = λ (endpoint : ℕ).
    target_tells test Receive _ c.waiting-servers.result servers endpoint (is_in c.targets-endpoints.result endpoint) (c.targets-endpoints.ensures endpoint) in
    let callers =
    waiting_tells test Call _ c.targets-endpoints.result endpoints caller (is_in c.waiting-callers.result caller) (acts caller) (c.waiting-callers.ensures caller) in
    let all =
    both (is_in c.intersection.result caller) (is_in c.waiting-callers.result caller) (is_in c.row.result caller) callers
    (row_tells test Holds reply c.row.result c.row.ensures caller) (c.intersection.ensures caller) in
    told_as (is_in c.intersection.result caller) all
    (λ w.
    let server = w.0.1 in record {
      holds = w.1;
      server = server.0;
      names = subst (λ to. test server.0 Reply to ≡ true) server.1.1 server.1.2;
      serves = server.1.3;
      endpoint = w.0.0;
      receives = server.2;
      calls = w.0.2;
      waits = w.0.3;
    })
    (λ h. ((h.endpoint, (h.server, (reply, refl, h.names, h.serves), h.receives), h.calls, h.waits), h.holds))
