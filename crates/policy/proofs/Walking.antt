-- Steps of walks: the labels from which a step leads to a set, and the end of a step.
use Rattle.std.{specs.List.{list_all, list_any}, proofs.Common.{[], ℕ, ◌==◌, ◌||◌, ◌↔◌, ◌∙◌, ◌∷◌, ◌≡◌, Bool, List, ap, cond, false, inl}}
use Rattle.std.proofs.{Common.{inr, not, refl, sym, true}, lemmas.Bool.{eq-eqb, eqb-true, or_cases, or_left, or_right}}
use Rattle.base.specs.{declared.{edge.Edge.Edge, kind.Kind.Kind, labels.Labels.Labels}, Kinds.kind_number, Labels.is_in}
use Rattle.base.specs.contracts.kind.KindPartialEq.TheImpl as kind_equal
use Rattle.policy.specs.{declared.walks.Step.Step, Domain.EdgeTest, Steps.{IsSource, IsTarget, is_joined}, Walks.{IsThere, Leads, Passes}}
use Rattle.policy.{specs.Walks.{is_of, other_end, Passes.{against, along}}, proofs.KindNumbers.{all_kinds, each_kind, is_kind}}
use Rattle.policy.proofs.Stepping.{found_kind}
use mathlib.Core.Bool.{false≢true}

-- an edge of one of the kinds is an edge of some kind among them
joined_of : (test : EdgeTest) (kinds : List Kind) (from to : ℕ) → is_joined test kinds from to ≡ true
    → (kind : Kind) × (is_of kinds kind ≡ true) × (test from kind to ≡ true)
joined_of test [] from to is = absurd (false≢true is)
joined_of test (first ∷ rest) from to is = elim (or_cases (test from first to) (is_joined test rest from to) is) [
  | inl here ↦ (first, or_left _ (is_of rest first) (eq-eqb (kind_number first) (kind_number first) refl), here)
  | inr later ↦ let more = joined_of test rest from to later in (more.0, or_right _ (is_of rest more.0) more.1, more.2)
]

-- whether two truths are one
abbrev alike : Bool → Bool → Bool
alike true b = b
alike false b = not b

alike_is : (a b : Bool) → alike a b ≡ true → a ≡ b
alike_is true b is = sym is
alike_is false true is = absurd (false≢true is)
alike_is false false is = refl

abbrev is_same_kind : Kind → Kind → Bool
is_same_kind a b = alike (kind_equal.ghosts.eq b a) (is_kind a b)

-- the code's `==` of kinds
kind_eq : (a b : Kind) → kind_equal.ghosts.eq b a ≡ is_kind a b
kind_eq a b = alike_is _ _ (each_kind (is_same_kind a) (each_kind (λ k. list_all (is_same_kind k) all_kinds) refl a) b)

pub any_is : (kinds : List Kind) (kind : Kind) → list_any (λ other. kind_equal.ghosts.eq other kind) kinds ≡ is_of kinds kind
any_is [] kind = refl
any_is (first ∷ rest) kind = (λ i. kind_eq kind first i || any_is rest kind i)

-- the labels from which a step leads to a set
module _ (test : EdgeTest) (step : Step) (goals : Labels) (from : ℕ) (one other : Bool)
    (one_is : (one ≡ true) ↔ IsSource test step.along.now goals from) (other_is : (other ≡ true) ↔ IsTarget test step.against.now goals from) where
  leads_from : (one || other) ≡ true → (edge : Edge) × Leads test step from goals edge
  leads_from is = elim (or_cases one other is) [
    | inl source ↦
        let met = one_is.0 source in
        let kind = joined_of test step.along.now from met.to met.joined in
        (record { from = from; kind = kind.0; to = met.to }, (met.to, met.among, kind.2, along kind.1 refl refl))
    | inr target ↦
        let met = other_is.0 target in
        let kind = joined_of test step.against.now met.from from met.joined in
        (record { from = met.from; kind = kind.0; to = from }, (met.from, met.among, kind.2, against kind.1 refl refl))
  ]

  leads_to : (edge : Edge) (next : ℕ) → is_in goals next ≡ true → IsThere test edge → Passes step from edge next → (one || other) ≡ true
  leads_to edge next among there (along is starts ends) =
      or_left one other
      (one_is.1 (record {
        to = edge.to;
        among = ap (is_in goals) ends ∙ among;
        joined = found_kind (λ k. test from k edge.to) step.along.now edge.kind is (ap (λ x. test x edge.kind edge.to) (sym starts) ∙ there);
      }))
  leads_to edge next among there (against is starts ends) =
      or_right one other
      (other_is.1 (record {
        from = edge.from;
        among = ap (is_in goals) ends ∙ among;
        joined = found_kind (λ k. test edge.from k from) step.against.now edge.kind is (ap (λ x. test edge.from edge.kind x) (sym starts) ∙ there);
      }))

  pub before_is : ((one || other) ≡ true) ↔ ((edge : Edge) × Leads test step from goals edge)
  before_is = (leads_from, λ leads. leads_to leads.0 leads.1.0 leads.1.1 leads.1.2 leads.1.3)

pub end_is : (step : Step) (from : ℕ) (edge : Edge) (next : ℕ) → Passes step from edge next → other_end edge from ≡ next
end_is step from edge next (along is starts ends) = ap (λ b. cond b edge.to edge.from) (eq-eqb edge.from from starts) ∙ ends
end_is step from edge next (against is starts ends) = by (edge.from == from) refl where
  by : (b : Bool) → (edge.from == from) ≡ b → cond b edge.to edge.from ≡ next
  by true same = starts ∙ sym (eqb-true edge.from from same) ∙ ends
  by false apart = ends
