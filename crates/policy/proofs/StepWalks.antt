-- The edge of a step: its ends, and its kind among those of the step.
use mathlib.Core.Bool.{false≢true}
use Rattle.std.proofs.{Common.{[], ℕ, ◌∙◌, ◌∷◌, ◌≡◌, List, ap, false, refl, sym, true}, Math.Bool.or-false}
use Rattle.{std.proofs.lemmas.Bool.{eq-eqb, eqb-true, or_left}, base.specs.{declared.{edge.Edge.Edge, kind.Kind.Kind}, Kinds.kind_number}}
use Rattle.policy.specs.{declared.walks.Step.Step, Domain.EdgeTest, Reasons.edge, Walks.{GoesAgainst, GoesAlong}}
use Rattle.policy.{specs.Walks.{IsThere, Passes, Passes.{against, along}, is_of}, proofs.KindNumbers.{is_kind, same_kind}}

-- the only kind of a list
pub only_of : (kind other : Kind) → is_of (kind ∷ []) other ≡ true → other ≡ kind
only_of kind other is = same_kind other kind (eqb-true (kind_number other) (kind_number kind) (sym (or-false (is_kind other kind)) ∙ is))

pub of_itself : (kind : Kind) → is_of (kind ∷ []) kind ≡ true
of_itself kind = or_left (is_kind kind kind) false (eq-eqb (kind_number kind) (kind_number kind) refl)

-- the edge of a step from one label to another

goes_along : (step : Step) (kinds : List Kind) (from : ℕ) (e : Edge) (next : ℕ) → GoesAlong kinds step → Passes step from e next
    → (is_of kinds e.kind ≡ true) × (e.from ≡ from) × (e.to ≡ next)
goes_along step kinds from e next goes (along is starts ends) = (sym (ap (λ ks. is_of ks e.kind) goes.0) ∙ is, starts, ends)
goes_along step kinds from e next goes (against is starts ends) = absurd (false≢true (sym (ap (λ ks. is_of ks e.kind) goes.1) ∙ is))

goes_against : (step : Step) (kinds : List Kind) (from : ℕ) (e : Edge) (next : ℕ) → GoesAgainst kinds step → Passes step from e next
    → (is_of kinds e.kind ≡ true) × (e.to ≡ from) × (e.from ≡ next)
goes_against step kinds from e next goes (along is starts ends) = absurd (false≢true (sym (ap (λ ks. is_of ks e.kind) goes.0) ∙ is))
goes_against step kinds from e next goes (against is starts ends) = (sym (ap (λ ks. is_of ks e.kind) goes.1) ∙ is, starts, ends)

module _ (test : EdgeTest) where
  -- the edge that has these parts, and is there
  pub record IsEdge (from : ℕ) (kind : Kind) (to : ℕ) (e : Edge) : Type 0 where
    pub there : test from kind to ≡ true
    pub is : e ≡ edge from kind to

  edge_of : (e : Edge) (from : ℕ) (kind : Kind) (to : ℕ) → IsThere test e → e.from ≡ from → e.kind ≡ kind → e.to ≡ to → IsEdge from kind to e
  edge_of e from kind to there starts is ends = record {
    there = (λ i. test (sym starts i) (sym is i) (sym ends i)) ∙ there;
    is = λ i. record { from = starts i; kind = is i; to = ends i };
  }

  pub edge_along : (step : Step) (kinds : List Kind) (from : ℕ) (e : Edge) (next : ℕ) → GoesAlong kinds step → IsThere test e → Passes step from e next
      → (is_of kinds e.kind ≡ true) × IsEdge from e.kind next e
  edge_along step kinds from e next goes there passes =
      let parts = goes_along step kinds from e next goes passes in
      (parts.0, edge_of e from e.kind next there parts.1 refl parts.2)

  pub edge_against : (step : Step) (kinds : List Kind) (from : ℕ) (e : Edge) (next : ℕ) → GoesAgainst kinds step → IsThere test e → Passes step from e next
      → (is_of kinds e.kind ≡ true) × IsEdge next e.kind from e
  edge_against step kinds from e next goes there passes =
      let parts = goes_against step kinds from e next goes passes in
      (parts.0, edge_of e next e.kind from there parts.2 refl parts.1)
