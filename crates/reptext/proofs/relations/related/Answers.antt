use Rattle.std.proofs.Common.{ℕ, ◌↔◌, ◌≡◌, subst, sym, true}
use Rattle.{base.specs.Labels.is_in, policy.specs.Policy.allows, reptext.specs.Relations.relates}
use Rattle.reptext.proofs.relations.related.Goals as goal

pub returns-in-Cut : goal.returns-in-Cut
returns-in-Cut c =
    subst (λ r. (other : ℕ) → (is_in c.cut_labels.result other ≡ true) ↔ relates r (allows c.args.policy.now) c.args.label other)
    (sym c.in-Cut.is) c.cut_labels.ensures

pub returns-in-Full : goal.returns-in-Full
returns-in-Full c =
    subst (λ r. (other : ℕ) → (is_in c.full_labels.result other ≡ true) ↔ relates r (allows c.args.policy.now) c.args.label other)
    (sym c.in-Full.is) c.full_labels.ensures
