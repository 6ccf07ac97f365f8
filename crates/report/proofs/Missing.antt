-- The edges of a policy that another lacks: there are none exactly if the policy is within the other.
use Rattle.std.{specs.Prelude.filter, proofs.Common.{[], ℕ, ◌∙◌, ◌∷◌, ◌≡◌, Bool, List, ap, false, if◌then◌else◌, inl, inr, not, refl, sym}}
use Rattle.{std.proofs.{Common.true, lemmas.Bool.or_cases}, base.specs.declared.{edge.Edge.Edge, kind.Kind.Kind}}
use Rattle.policy.{specs.{Closing.IsWithin, Domain.EdgeTest, Policy.allows}, proofs.{KindNumbers.same_kind, RowEdges.same_parts}}
use Rattle.report.proofs.ClosedLabels.{first_allowed, later_allowed}

module _ (test : EdgeTest) where
  abbrev lacked : Edge → Bool
  lacked edge = not (test edge.from edge.kind edge.to)

  none_kept : (has : Bool) (edge : Edge) (edges : List Edge) → (if not has then edge ∷ edges else edges) ≡ [] → (has ≡ true) × (edges ≡ [])
  none_kept true edge edges e = (refl, e)
  none_kept false edge edges e = cc

  not_kept : (has : Bool) (edge : Edge) (edges : List Edge) → has ≡ true → edges ≡ [] → (if not has then edge ∷ edges else edges) ≡ []
  not_kept true edge edges has e = e
  not_kept false edge edges has e = cc

  moved : (a b : ℕ) (k l : Kind) (c d : ℕ) → a ≡ b → k ≡ l → c ≡ d → test a k c ≡ true → test b l d ≡ true
  moved a b k l c d p q r has = ap (λ x. test x l d) (sym p) ∙ ap (λ x. test a x d) (sym q) ∙ ap (test a k) (sym r) ∙ has

  pub within_if_none : (policy : List Edge) → filter lacked policy ≡ [] → IsWithin (allows policy) test
  unfolding allows
  within_if_none [] none from kind to e = cc
  within_if_none (edge ∷ policy) none from kind to e =
      let first = none_kept (test edge.from edge.kind edge.to) edge (filter lacked policy) none in
      elim (or_cases _ _ e) [
        | inl here ↦
            let same = same_parts edge from kind to here in
            moved edge.from from edge.kind kind edge.to to same.0 (same_kind edge.kind kind same.1) same.2 first.0
        | inr there ↦ within_if_none policy first.1 from kind to there
      ]

  pub none_if_within : (policy : List Edge) → IsWithin (allows policy) test → filter lacked policy ≡ []
  none_if_within [] within = refl
  none_if_within (edge ∷ policy) within =
      not_kept (test edge.from edge.kind edge.to) edge (filter lacked policy)
      (within edge.from edge.kind edge.to (first_allowed edge policy))
      (none_if_within policy (λ from kind to e. within from kind to (later_allowed edge policy from kind to e)))
