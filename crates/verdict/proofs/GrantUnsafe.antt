-- The system of a giver and a taker, which isn't safe with either of two policies that each break one rule: the taker reads what the policy
-- doesn't let it, or the giver's label derives on the taker's where the policy doesn't have it.
use Rattle.std.{specs.Prelude.option_map, proofs.Common.{ℕ, ◌≡◌, Bool, ap, false, lit≤, refl, true}}
use Rattle.base.specs.declared.kind.Kind.{Kind, TheVariants.{Derive, Read}}
use Rattle.machine.specs.{Authority.{HasAuthority, HasAuthority.{by_cap, by_pair}}, Boot.IsBoot, Machine.Machine, Objects.kind_of_object}
use Rattle.policy.specs.{Domain.EdgeTest, Needed.{derive_by_grant, grant_shares}, Policy.allows}
use Rattle.verdict.{specs.Counterexamples.UnsafeWithout, proofs.BootChanges.{cap_now, changing, label_now, object_now, parent_now}}
use Rattle.verdict.proofs.{BootChanges.with_changes, FewLabels.{among, derived_at_once}, GrantRun.{copy, events, given, outcomes}}
use Rattle.verdict.proofs.{GrantRun.runs, GrantSystem.{frame, granting, joins, taker_node}, SmallSystem.{node, reading, slot}}
use Rattle.verdict.proofs.UnsafeBy.{LeadsOutside, needs_by_tests, not_safe, tests, unsafe_by_tests, unsafe_keeping}

module _ (m : Machine) (boot : IsBoot granting m) where
  -- the taker's copy reads the frame
  reads : HasAuthority granting (with_changes m given) 1 Read 0
  unfolding changing granting reading
  reads =
      by_cap (slot 1 2) copy (cap_now granting m boot given (slot 1 2))
      (ap (option_map kind_of_object) (object_now granting m boot given (record { 0 = 1 }))) refl
      (label_now granting m boot given 1 taker_node taker_node refl refl refl) (label_now granting m boot given 7 frame frame refl refl refl)

  -- the giver's slot derives on the taker's
  derives : HasAuthority granting (with_changes m given) 0 Derive 1
  unfolding changing granting reading
  derives =
      by_pair (slot 1 2) (slot 0 1) (parent_now granting m boot given (slot 1 2))
      (label_now granting m boot given 0 node node refl refl refl) (label_now granting m boot given 1 taker_node taker_node refl refl refl)

-- the edge that one of the two policies lacks
leads :
    (shares : Bool) (from : ℕ) (k : Kind) (to : ℕ)
    → ((m : Machine) (boot : IsBoot granting m) → HasAuthority granting (with_changes m given) from k to)
    → among 2 (joins shares) from k to ≡ false → (m : Machine) → IsBoot granting m
    → LeadsOutside granting (among 2 (joins shares)) m
leads shares from k to outside missing m boot = record {
  events = events;
  outcomes = outcomes;
  next = with_changes m given;
  run = runs m boot;
  from = from;
  kind = k;
  to = to;
  has = outside m boot;
  missing = missing;
}

pub unsafe_without_sharing : UnsafeWithout grant_shares
unfolding granting tests
unsafe_without_sharing =
    unsafe_by_tests grant_shares granting 2 (joins false) (lit≤ tt) refl refl (leads false 1 Read 0 reads refl)

abbrev IsTransitive : EdgeTest → Type 0
IsTransitive test = (x middle y : ℕ) → test x Derive middle ≡ true → test middle Derive y ≡ true → test x Derive y ≡ true

pub unsafe_without_granted_derivation : (system : UnsafeWithout derive_by_grant) × IsTransitive (allows system.edges)
unfolding granting tests
unsafe_without_granted_derivation =
    unsafe_keeping derive_by_grant granting (among 2 (joins true)) IsTransitive
    (needs_by_tests derive_by_grant granting 2 (joins true) (lit≤ tt) refl refl
    (not_safe granting (among 2 (joins true)) (leads true 0 Derive 1 derives refl)))
    (derived_at_once 2 (joins true) refl)
