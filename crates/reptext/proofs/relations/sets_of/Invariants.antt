use Rattle.std.proofs.Common.{ℕ, ◌<◌, ◌↔◌, ◌≡◌, length, true}
use Rattle.{policy.specs.Policy.allows, reptext.specs.Relations.{relates, relation_of}}
use Rattle.reptext.proofs.relations.sets_of.Given as goal

abbrev pub invariant-loop-number : goal.invariant-loop-number
invariant-loop-number l =
    (length l.sets.items ≡ l.number)
    × ((a : ℕ) → a < l.number → (other : ℕ) → (relation_of l.sets.items a other ≡ true) ↔ relates l.relation (allows l.policy) a other)
