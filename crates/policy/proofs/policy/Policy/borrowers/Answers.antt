use Rattle.{std.proofs.Common.ℕ, base.specs.{declared.kind.Kind.TheVariants.Reply, Labels.is_in}}
use Rattle.policy.{specs.Policy.allows, proofs.Gathering.{both, itself_tells, source_tells, told_as}}
use Rattle.policy.proofs.policy.Policy.borrowers.Goals as goal

pub returns : goal.returns
returns c b =
    let test = allows c.args.self.now in
    let naming =
    source_tells test Reply _ c.all.result (λ (reply : ℕ). itself_tells (is_in c.all.result reply)) b (is_in c.sources-naming.result b)
    (c.sources-naming.ensures b) in
    told_as (is_in c.intersection.result b)
    (both (is_in c.intersection.result b) (is_in c.idlers.result b) (is_in c.sources-naming.result b) (c.idlers.ensures b) naming
    (c.intersection.ensures b))
    (λ w. record { idles = w.0; reply = w.1.0; names = w.1.2 })
    (λ h. (h.idles, (h.reply, (c.all.ensures h.reply).1 (c.edges_rise.ensures.labels b Reply h.reply h.names).1, h.names)))
