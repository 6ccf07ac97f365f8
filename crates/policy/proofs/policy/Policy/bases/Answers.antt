use Rattle.std.proofs.Common.{ℕ, ◌==◌, ◌||◌, ◌∙◌, ◌≡◌, sym}
use Rattle.{base.specs.{declared.kind.Kind.TheVariants.Control, Labels.is_in}, policy.{specs.Policy.allows, proofs.CutSets.base_is}}
use Rattle.policy.proofs.policy.Policy.bases.Goals as goal

pub returns : goal.returns
returns c base =
    let test = allows c.args.self.now in
    let actor = c.args.actor in
    let controlled : (label : ℕ) → is_in c.union-controlled.result label ≡ ((label == actor) || test actor Control label) =
    λ label. c.union-controlled.ensures label ∙ (λ i. c.only.ensures label i || c.row.ensures label i) in
    let derived = is_in c.targets.result base in
    let is_base = base_is test actor c.union-controlled.result controlled base derived (c.targets.ensures base) in
    (λ is. is_base.0 (sym (c.union.ensures base) ∙ is), λ holds. c.union.ensures base ∙ is_base.1 holds)
