use Rattle.std.proofs.Common.{ℕ, ◌≡◌, true}
use Rattle.base.specs.{declared.kind.Kind.TheVariants.{Context, Runs}, Labels.is_in}
use Rattle.policy.{specs.Policy.allows, proofs.Gathering.{itself_tells, source_tells, target_tells, told_as}}
use Rattle.policy.proofs.policy.Policy.idlers.Goals as goal

pub returns : goal.returns
returns c b =
    let test = allows c.args.self.now in
    let contexts = c.targets-contexts.result in
    let owned = λ (context : ℕ).
    told_as (is_in contexts context)
    (target_tells test Context _ c.all.result (λ (owner : ℕ). itself_tells (is_in c.all.result owner)) context (is_in contexts context)
    (c.targets-contexts.ensures context))
    (λ (w : (owner : ℕ) × (is_in c.all.result owner ≡ true) × (test owner Context context ≡ true)). (w.0, w.2))
    (λ (w : (owner : ℕ) × (test owner Context context ≡ true)).
    (w.0, (c.all.ensures w.0).1 (c.edges_rise.ensures.labels w.0 Context context w.1).0, w.1)) in
    told_as (is_in c.sources.result b)
    (source_tells test Runs _ contexts owned b (is_in c.sources.result b) (c.sources.ensures b))
    (λ w. record { context = w.0; runs = w.2; owner = w.1.0; owns = w.1.1 })
    (λ h. (h.context, (h.owner, h.owns), h.runs))
