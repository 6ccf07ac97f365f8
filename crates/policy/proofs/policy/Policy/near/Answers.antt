use Rattle.std.proofs.Common.{◌||◌, ◌∙◌, ◌≡◌, ap, sym}
use Rattle.{base.specs.Labels.is_in, policy.{specs.Policy.allows, proofs.CutSets.near_is}}
use Rattle.policy.proofs.policy.Policy.near.Goals as goal

pub returns : goal.returns
returns c other =
    let linked = is_in c.targets.result other in
    let linking = is_in c.sources.result other in
    let union : is_in c.union-2.result other ≡ ((is_in c.args.labels other || linked) || linking) =
    c.union-2.ensures other ∙ ap (λ b. b || linking) (c.union.ensures other) in
    let near = near_is (allows c.args.self.now) c.args.labels other linked linking (c.targets.ensures other) (c.sources.ensures other) in
    (λ is. near.0 (sym union ∙ is), λ holds. union ∙ near.1 holds)
