use Rattle.{std.proofs.Common.ℕ, base.specs.{declared.kind.Kind.TheVariants.{Call, Receive}, Labels.is_in}}
use Rattle.policy.{specs.Policy.allows, proofs.Gathering.{both, itself_tells, source_tells, target_tells, told_as}}
use Rattle.policy.proofs.policy.Policy.lenders.Goals as goal

pub returns : goal.returns
returns c a =
    let test = allows c.args.self.now in
    let acts = is_in c.args.actors in
    let servers = λ (server : ℕ).
    both (is_in c.intersection-servers.result server) (is_in c.borrowers.result server) (acts server) (c.borrowers.ensures server)
    (itself_tells (acts server)) (c.intersection-servers.ensures server) in
    let endpoints = λ (endpoint : ℕ).
    target_tells test Receive _ c.intersection-servers.result servers endpoint (is_in c.targets-endpoints.result endpoint)
    (c.targets-endpoints.ensures endpoint) in
    told_as (is_in c.sources.result a)
    (source_tells test Call _ c.targets-endpoints.result endpoints a (is_in c.sources.result a) (c.sources.ensures a))
    (λ w. record { endpoint = w.0; calls = w.2; receiver = w.1.0; receives = w.1.2; serves = w.1.1.1; borrows = w.1.1.0 })
    (λ h. (h.endpoint, (h.receiver, (h.borrows, h.serves), h.receives), h.calls))
