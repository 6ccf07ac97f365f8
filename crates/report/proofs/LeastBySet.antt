-- The least policy by a set of rules: the policy that closing gives, also without given edges.
use Rattle.std.proofs.Common.{[], ℕ, ◌↔◌, ◌≡◌, List, true}
use Rattle.base.specs.{declared.{edge.Edge.Edge, labels.Labels.Labels}, Labels.is_in}
use Rattle.{machine.specs.Layout.Layout, table.proofs.BootState.{boot_state, boot_state_is}}
use Rattle.policy.{specs.{Closing.IsLeastClosed, Policy.allows}, proofs.Sharpness.fewer_keepers}
use Rattle.{sharp.specs.{Keeping.KeepsFrom, Least.IsLeastSharp}, integrity.specs.Keeping.{HoldsNode, MayKeep}}
use Rattle.reach.{specs.Reach.IsReach, proofs.LeastReach.{from_may, may_from}}
use Rattle.{verdict.specs.declared.rules.Rules.Rules as rules, report.specs.Closings.{IsClosing, IsLeastBy}}

pub least_closed : (t : Layout) (edges policy : List Edge) → IsLeastClosed edges policy → IsLeastBy rules.Closed t edges policy
least_closed t edges policy is = record { obeys = is.closed; has = is.has; least = is.least }

-- the keepers of the boot state are the labels that may keep
pub least_sharp :
    (t : Layout) (held : Labels) (edges policy : List Edge) → ((a : ℕ) → (is_in held a ≡ true) ↔ HoldsNode t a)
    → IsLeastSharp edges (is_in held) policy → IsLeastBy rules.Sharp t edges policy
least_sharp t held edges policy told is = record {
  obeys =
      fewer_keepers (allows policy) (KeepsFrom (allows policy) (is_in held)) (MayKeep t (allows policy))
      (λ a keeps. may_from t (allows policy) held told keeps) is.closed;
  has = is.has;
  least = λ other sharp.
      is.least other
      (fewer_keepers other (MayKeep t other) (KeepsFrom other (is_in held)) (λ a keeps. from_may t other held told keeps) sharp);
}

-- the sharply closed policy over a table alone is the table's reach
pub is_reach : (t : Layout) (policy : List Edge) → IsClosing rules.Sharp t [] policy → IsReach t policy
is_reach t policy is = record {
  sharp = is.least.obeys;
  boot = λ boot booted from kind to has. is.least.has from kind to ((is.of_boot boot from kind to booted).1 has);
  least = λ allowed sharp has.
      is.least.least allowed sharp
      (λ from kind to there. has (boot_state t) (boot_state_is t) from kind to ((is.of_boot (boot_state t) from kind to (boot_state_is t)).0 there));
}
