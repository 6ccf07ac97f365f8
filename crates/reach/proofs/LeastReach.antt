-- The least sharply closed policy with the edges of a table's boot state is the table's reach.
use Rattle.std.proofs.Common.{ℕ, ◌↔◌, ◌≡◌, Bool, List, false, refl, sym, true}
use Rattle.base.specs.{declared.{edge.Edge.Edge, kind.Kind.Kind, labels.Labels.Labels}, Labels.is_in}
use Rattle.machine.specs.{Authority.HasAuthority, Boot.IsBoot, Layout.Layout, Machine.Machine}
use Rattle.policy.{specs.{Closed.IsClosed, Closing.IsWithin, Domain.EdgeTest, Policy.allows}, proofs.Sharpness.{closed_sharply, fewer_keepers}}
use Rattle.table.proofs.BootState.{boot_state, boot_state_is}
use Rattle.integrity.specs.Keeping.{HoldsNode, MayKeep, MayKeep.{finds, handed, holds}}
use Rattle.sharp.specs.{Keeping.{KeepsFrom, KeepsFrom.{finds as found, handed as put, held}}, Least.IsLeastSharp}
use Rattle.integrity.specs.Acting.{HoldsOfActors}
use Rattle.reach.specs.Reach.{HasBootAuthority, IsReach, IsTableReach, TableReach}

-- the keepers by the labels that hold such capabilities at boot are the labels that may keep
module _ (t : Layout) (test : EdgeTest) (labels : Labels) (told : (a : ℕ) → (is_in labels a ≡ true) ↔ HoldsNode t a) where
  pub from_may : {a : ℕ} → KeepsFrom test (is_in labels) a → MayKeep t test a
  from_may (held {a} is) = holds ((told a).0 is)
  from_may (found keeps space) = finds (from_may keeps) space
  from_may (put keeps control) = handed (from_may keeps) control

  pub may_from : {a : ℕ} → MayKeep t test a → KeepsFrom test (is_in labels) a
  may_from (holds {a} has) = held ((told a).1 has)
  may_from (finds keeps space) = found (may_from keeps) space
  may_from (handed keeps control) = put (may_from keeps) control

module _ (t : Layout) (labels : Labels) (told : (a : ℕ) → (is_in labels a ≡ true) ↔ HoldsNode t a) (edges : List Edge)
    (authority : (boot : Machine) (from : ℕ) (kind : Kind) (to : ℕ) → IsBoot t boot
    → (allows edges from kind to ≡ true) ↔ HasAuthority t boot from kind to) where
  pub least_reach : (policy : List Edge) → IsLeastSharp edges (is_in labels) policy → IsReach t policy
  least_reach policy is = record {
    sharp =
        fewer_keepers (allows policy) (KeepsFrom (allows policy) (is_in labels)) (MayKeep t (allows policy))
        (λ a keeps. may_from t (allows policy) labels told keeps) is.closed;
    boot = λ boot booted from kind to has. is.has from kind to ((authority boot from kind to booted).1 has);
    least = λ allowed sharp has.
        is.least allowed
        (fewer_keepers allowed (MayKeep t allowed) (KeepsFrom allowed (is_in labels)) (λ a keeps. from_may t allowed labels told keeps) sharp)
        (λ from kind to there.
        has (boot_state t) (boot_state_is t) from kind to ((authority (boot_state t) from kind to (boot_state_is t)).0 there));
  }

-- it lies within each closed policy that has the boot state's authority
pub closed_within :
    (t : Layout) (edges : List Edge) (allowed : EdgeTest) → IsReach t edges → IsClosed allowed → HasBootAuthority t allowed
    → IsWithin (allows edges) allowed
closed_within t edges allowed reach closed has = reach.least allowed (closed_sharply allowed (MayKeep t allowed) closed) has

-- a table has one reach
alike : (a b : Bool) → (a ≡ true → b ≡ true) → (b ≡ true → a ≡ true) → a ≡ b
alike true b on back = sym (on refl)
alike false true on back = back refl
alike false false on back = refl

pub one_reach :
    (t : Layout) (edges other : List Edge) → IsReach t edges → IsReach t other → (from : ℕ) (kind : Kind) (to : ℕ)
    → allows edges from kind to ≡ allows other from kind to
one_reach t edges other one two from kind to =
    alike (allows edges from kind to) (allows other from kind to) (one.least (allows other) two.sharp two.boot from kind to)
    (two.least (allows edges) one.sharp one.boot from kind to)

-- the labels whose threads make calls are all that may act and may have threads
pub actors_told : (reach : TableReach) → IsTableReach reach → HoldsOfActors reach.table (allows reach.policy) (is_in reach.actors)
actors_told reach is a acts threads = (is.actors a).1 (acts, threads)
