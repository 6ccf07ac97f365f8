use Rattle.{std.proofs.Common.ℕ, policy.{specs.Policy.allows, proofs.Stepping.domain_joined}}
use Rattle.policy.proofs.broken.steps.domain.Goals as goal

pub returns : goal.returns
returns c label =
    let joined = λ (subject : ℕ). domain_joined (allows c.args.policy.now) subject label in (
      λ is. let step = (c.targets.ensures label).0 is in (step.from, step.among, (joined step.from).0 step.joined),
      λ h. (c.targets.ensures label).1 (record { from = h.0; among = h.1; joined = (joined h.0).1 h.2 }),
    )
