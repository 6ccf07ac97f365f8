-- Claims that hold: what they keep in every run; and that a claim that fails doesn't hold.
use Rattle.std.{specs.Prelude.IfNone, proofs.{Common.{ℕ, ◌∙◌, ◌≡◌, List, None, Option, Some, inl, inr, subst, sym}, lemmas.Bool.false≢true}}
use Rattle.{base.specs.declared.kind.Kind.Kind, machine.specs.Layout.Layout, policy.specs.Policy.allows, integrity.specs.Safe.IsSafe}
use Rattle.reach.{specs.{Extents.{Limits, limits_of}, Reach.{IsTableReach, TableReach}}, proofs.Extents.{apart, takes}}
use Rattle.flows.proofs.Leading.{no_chain, shielded}
use Rattle.claims.specs.declared.claim.{Claim.{Claim, Claim as claim}, Most.{Most, Most as most}, Who.Who}
use Rattle.claims.specs.{declared.deciding.Failure.{Failure, Failure as failure}, Claims.is_one_of, Holding.ClaimFails}
use Rattle.claims.specs.Holding.{FailsOnEdge, FailsOnPair, HasAtMost, Holds, HoldsOnEdges, HoldsOnPairs, ClaimIsKept, KeepsAtMost, KeepsEdges}

module _ (reach : TableReach) (is : IsTableReach reach) (safe : IsSafe reach.table (allows reach.policy)) where
  abbrev t : Layout
  t = reach.table

  abbrev limits : Limits
  limits = limits_of reach

  most_kept : (a l : ℕ) (m : Most) → HasAtMost limits a l m → KeepsAtMost t a l m
  most_kept a l most.Nothing has = apart reach is safe.narrow a l has.0 has.1
  most_kept a l most.Take has = takes reach is safe.narrow a l has

  edges_kept : (claim : Claim) → HoldsOnEdges t limits.test claim → KeepsEdges t claim
  edges_kept claim holds =
      λ a kind l excluded m reached has. false≢true (sym (holds a kind l excluded) ∙ safe.confined m reached a kind l has)

  pub claim_kept : (claim : Claim) → Holds t limits claim → ClaimIsKept t limits claim
  claim_kept (claim.AtMost limit actor object) holds = λ a l bounded. most_kept a l limit (holds a l bounded)
  claim_kept (claim.Only object actors) holds = λ a l bounded. most_kept a l most.Nothing (holds a l bounded)
  claim_kept (claim.Within actor objects) holds = λ a l bounded. most_kept a l most.Nothing (holds a l bounded)
  claim_kept (claim.Readers object readers) holds = edges_kept (claim.Readers object readers) holds
  claim_kept (claim.Through from to filters) holds =
      shielded t limits (is_one_of filters) (λ a l never. most_kept a l most.Nothing ((λ may. never (inl may)), (λ may. never (inr may)))) from to holds
  claim_kept (claim.Without actor kind object) holds = edges_kept (claim.Without actor kind object) holds

module _ (t : Layout) (limits : Limits) where
  pair_breaks : (claim : Claim) (told : Failure) → FailsOnPair t limits claim told → HoldsOnPairs t limits claim → ⊥
  pair_breaks claim (failure.Pair breach) fails holds = fails.breaks (holds breach.actor breach.object fails.bounded)
  pair_breaks claim failure.Chain fails holds = fails
  pair_breaks claim (failure.Edge edge) fails holds = fails

  edge_breaks : (claim : Claim) (told : Failure) → FailsOnEdge t limits.test claim told → HoldsOnEdges t limits.test claim → ⊥
  edge_breaks claim (failure.Edge edge) fails holds =
      false≢true (sym (holds edge.from edge.kind edge.to fails.excluded) ∙ fails.has)
  edge_breaks claim failure.Chain fails holds = fails
  edge_breaks claim (failure.Pair breach) fails holds = fails

  pub fails_breaks : (claim : Claim) (told : Failure) → ClaimFails t limits claim told → ¬ Holds t limits claim
  fails_breaks (claim.AtMost limit actor object) told fails holds = pair_breaks (claim.AtMost limit actor object) told fails holds
  fails_breaks (claim.Only object actors) told fails holds = pair_breaks (claim.Only object actors) told fails holds
  fails_breaks (claim.Within actor objects) told fails holds = pair_breaks (claim.Within actor objects) told fails holds
  fails_breaks (claim.Readers object readers) told fails holds = edge_breaks (claim.Readers object readers) told fails holds
  fails_breaks (claim.Through from to filters) told fails holds = no_chain limits (is_one_of filters) from to holds fails.1
  fails_breaks (claim.Without actor kind object) told fails holds = edge_breaks (claim.Without actor kind object) told fails holds

  -- a claim on pairs that holds

  pub ends_hold : (one : Claim) (limit : Most) (actor object : Who) → one ≡ claim.AtMost limit actor object
      → HoldsOnPairs t limits one → Holds t limits one
  ends_hold one limit actor object is holds =
      subst (λ c. Holds t limits c) (sym is) (subst (λ c. HoldsOnPairs t limits c) is holds)

  pub only_holds : (one : Claim) (object : ℕ) (actors : List ℕ) → one ≡ claim.Only object actors
      → HoldsOnPairs t limits one → Holds t limits one
  only_holds one object actors is holds =
      subst (λ c. Holds t limits c) (sym is) (subst (λ c. HoldsOnPairs t limits c) is holds)

  pub within_holds : (one : Claim) (actor : ℕ) (objects : List ℕ) → one ≡ claim.Within actor objects
      → HoldsOnPairs t limits one → Holds t limits one
  within_holds one actor objects is holds =
      subst (λ c. Holds t limits c) (sym is) (subst (λ c. HoldsOnPairs t limits c) is holds)

  -- a claim on edges that holds

  pub readers_hold : (one : Claim) (object : ℕ) (readers : List ℕ) → one ≡ claim.Readers object readers
      → HoldsOnEdges t limits.test one → Holds t limits one
  readers_hold one object readers is holds =
      subst (λ c. Holds t limits c) (sym is) (subst (λ c. HoldsOnEdges t limits.test c) is holds)

  pub without_holds : (one : Claim) (actor : Who) (kind : Kind) (object : Who) → one ≡ claim.Without actor kind object
      → HoldsOnEdges t limits.test one → Holds t limits one
  without_holds one actor kind object is holds =
      subst (λ c. Holds t limits c) (sym is) (subst (λ c. HoldsOnEdges t limits.test c) is holds)

pub if_none : {X : Type 0} (o : Option X) (P Q : Type 0) → (P → Q) → IfNone o P → IfNone o Q
if_none None P Q follows is = follows is
if_none (Some x) P Q follows is = tt
