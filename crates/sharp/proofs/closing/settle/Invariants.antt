use Rattle.std.proofs.Common.{ℕ, ◌↔◌, ◌≡◌, true}
use Rattle.base.specs.Labels.{is_in}
use Rattle.policy.{specs.{Closing.IsWithin, Domain.EdgeTest, Policy.allows, Sharp.IsSharplyClosed}, proofs.ClosingGrowth.absent_count}
use Rattle.sharp.specs.Keeping.{KeepsFrom}
use Rattle.sharp.proofs.closing.settle.Given as goal

-- old edges are kept, every sharply closed policy that has them has the new ones, and these are the keepers
abbrev pub invariant-loop-policy : goal.invariant-loop-policy
invariant-loop-policy l = record {
  has : IsWithin (allows l.initial.policy) (allows l.policy);
  least : (other : EdgeTest) → IsSharplyClosed other (KeepsFrom other (is_in l.held)) → IsWithin (allows l.initial.policy) other
      → IsWithin (allows l.policy) other;
  keep : (a : ℕ) → (is_in l.keeping a ≡ true) ↔ KeepsFrom (allows l.policy) (is_in l.held) a;
}

abbrev pub decreases-loop-policy : goal.decreases-loop-policy
decreases-loop-policy l = absent_count l.policy
