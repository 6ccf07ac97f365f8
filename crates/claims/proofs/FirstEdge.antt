-- The search for the first edge that a claim excludes.
use Rattle.std.specs.{List.Contains, Prelude.{IfSome, None, Option, Some}}
use Rattle.std.proofs.Common.{ℕ, ◌<◌, ◌↔◌, ◌∙◌, ◌≡◌, Bool, List, ap, arith, false, inl, inr, refl, subst, sym, true}
use Rattle.base.specs.{declared.{edge.Edge.Edge, kind.Kind.Kind, labels.Labels.Labels}, Kinds.kind_number, Labels.is_in}
use Rattle.{machine.specs.Layout.Layout, policy.specs.Domain.EdgeTest}
use Rattle.claims.specs.declared.claim.{Claim.{Claim, Claim as claim}, Who.Who}
use Rattle.claims.specs.Edges.{IsFirstEdgeBy, IsFirstOfKind, IsFirstRead, LacksEdgesOf, LacksKind, LacksReads}
use Rattle.claims.specs.Holding.{AreLabelNames, AreTwo, PairComesBefore, EdgeComesBefore, Excludes, HoldsOnEdges, IsFirstEdge}

-- claim by claim

pub if_some : {X : Type 0} (o : Option X) (P Q : X → Type 0) → ((x : X) → P x → Q x) → IfSome o P → IfSome o Q
if_some None P Q follows is = tt
if_some (Some x) P Q follows is = follows x is

module _ (t : Layout) (test : EdgeTest) (a : ℕ) (objects : Labels) where
  module _ (one : Claim) (object : ℕ) (readers : List ℕ) (is : one ≡ claim.Readers object readers) (others : Labels)
      (are_others : (l : ℕ) → (is_in others l ≡ true) ↔ AreTwo t a l)
      (are : (l : ℕ) → (is_in objects l ≡ true) ↔ ((is_in others l ≡ true) × (l ≡ object) × (¬ Contains readers a)))
    where
      pub readers_first : (edge : Edge) → IsFirstRead test a objects edge → IsFirstEdgeBy t test one a edge
      readers_first edge found = subst (λ c. IsFirstEdgeBy t test c a edge) (sym is) (record {
        by = found.by;
        excluded =
            let has = (are edge.to).0 found.among in
            ((are_others edge.to).0 has.0, has.1, has.2, found.reads);
        has = found.has;
        first = λ kind l excluded comes.
            found.first kind l excluded.3 ((are l).1 ((are_others l).1 excluded.0, excluded.1, excluded.2)) comes;
      })

      pub readers_lack : LacksReads test a objects → LacksEdgesOf t test one a
      readers_lack lacks = subst (λ c. LacksEdgesOf t test c a) (sym is)
          (λ kind l excluded. lacks kind l excluded.3 ((are l).1 ((are_others l).1 excluded.0, excluded.1, excluded.2)))

  module _ (one : Claim) (actors : Who) (sort : Kind) (whose : Who) (is : one ≡ claim.Without actors sort whose)
      (are : (l : ℕ) → (is_in objects l ≡ true) ↔ AreLabelNames t actors whose a l)
    where
      pub without_first : (edge : Edge) → IsFirstOfKind test a sort objects edge → IsFirstEdgeBy t test one a edge
      without_first edge found = subst (λ c. IsFirstEdgeBy t test c a edge) (sym is) (record {
        by = found.by;
        excluded = ((are edge.to).0 found.among, found.of_kind);
        has = subst (λ k. test a k edge.to ≡ true) (sym found.of_kind) found.has;
        first = λ kind l excluded comes. earlier kind l excluded comes;
      }) where
        earlier : (kind : Kind) (l : ℕ) → Excludes t (claim.Without actors sort whose) a kind l
            → PairComesBefore (kind_number kind) l (kind_number edge.kind) edge.to → test a kind l ≡ false
        earlier kind l excluded (inl less) =
            absurd (omega (arith, less, ap kind_number (excluded.1 ∙ sym found.of_kind)))
        earlier kind l excluded (inr (same, below)) =
            subst (λ k. test a k l ≡ false) (sym excluded.1) (found.first l ((are l).1 excluded.0) below)

      pub without_lack : LacksKind test a sort objects → LacksEdgesOf t test one a
      without_lack lacks = subst (λ c. LacksEdgesOf t test c a) (sym is)
          (λ kind l excluded. subst (λ k. test a k l ≡ false) (sym excluded.1) (lacks l ((are l).1 excluded.0)))

-- label by label

module _ (t : Layout) (test : EdgeTest) (claim : Claim) where
  -- labels below a number have no edge that the claim excludes
  abbrev pub LacksBelow : ℕ → Type 0
  LacksBelow n = (a : ℕ) → a < n → LacksEdgesOf t test claim a

  pub first_edge_of_all : (a : ℕ) (edge : Edge) → LacksBelow a → IsFirstEdgeBy t test claim a edge → IsFirstEdge t test claim edge
  first_edge_of_all a edge before is = record {
    excluded = subst (λ n. Excludes t claim n edge.kind edge.to) (sym is.by) is.excluded;
    has = subst (λ n. test n edge.kind edge.to ≡ true) (sym is.by) is.has;
    first = λ x kind l excluded comes. earlier x kind l excluded comes;
  } where
    earlier : (x : ℕ) (kind : Kind) (l : ℕ) → Excludes t claim x kind l → EdgeComesBefore x kind l edge → test x kind l ≡ false
    earlier x kind l excluded (inl below) = before x (subst (λ n. x < n) is.by below) kind l excluded
    earlier x kind l excluded (inr (same, below)) =
        let here = same ∙ is.by in
        subst (λ n. test n kind l ≡ false) (sym here) (is.first kind l (subst (λ n. Excludes t claim n kind l) here excluded) below)

  -- all labels are tried if edges come only from labels below a number
  pub all_below : (n : ℕ) → ((a : ℕ) (kind : Kind) (l : ℕ) → test a kind l ≡ true → a < n) → LacksBelow n → HoldsOnEdges t test claim
  all_below n few lacks a kind l excluded = by (test a kind l) refl where
    by : (is : Bool) → test a kind l ≡ is → test a kind l ≡ false
    by true has = lacks a (few a kind l has) kind l excluded
    by false none = none
