-- That the least policy over the labels of a table joins only these labels, by each set of rules.
use Rattle.std.{specs.List.AllByRecursion, proofs.Common.{[], ℕ, ◌++◌, ◌<◌, ◌||◌, ◌∙◌, ◌∷◌, ◌≡◌, Bool, List, arith, false, inl, inr}}
use Rattle.{std.proofs.{Common.{length, refl, sym, true}, lemmas.Bool.or_cases}, base.specs.declared.{edge.Edge.Edge, kind.Kind.Kind}}
use Rattle.{machine.specs.Layout.Layout, policy.{specs.Policy.allows, proofs.{RowEdges.{of_parts, same_parts}, Sharpness.closed_sharply}}}
use Rattle.{labels.proofs.EdgeLists.allows-append, integrity.specs.Keeping.MayKeep}
use Rattle.{reach.proofs.Among.{all_closed, among, joined, joins}, verdict.specs.declared.rules.Rules.{Rules, Rules as rules}}
use Rattle.{captext.specs.PolicyText.IsEdgeOf, report.specs.Closings.{IsLeastBy, ObeysSet}}

-- the policy with every edge between labels below a number obeys each set of rules
all_obeyed : (n : ℕ) (set : Rules) (t : Layout) → ObeysSet set t (among n)
all_obeyed n rules.Closed t = all_closed n
all_obeyed n rules.Sharp t = closed_sharply (among n) (MayKeep t (among n)) (all_closed n)

-- a policy within each obeying policy that has some edges joins only labels that these edges join
pub least_within :
    (n : ℕ) (set : Rules) (t : Layout) (edges policy : List Edge) → IsLeastBy set t edges policy
    → ((from : ℕ) (kind : Kind) (to : ℕ) → allows edges from kind to ≡ true → (from < n) × (to < n))
    → (from : ℕ) (kind : Kind) (to : ℕ) → allows policy from kind to ≡ true → (from < n) × (to < n)
least_within n set t edges policy least below from kind to e =
    joined n from kind to
    (least.least (among n) (all_obeyed n set t)
    (λ f k t has. joins n f k t (below f k t has).0 (below f k t has).1)
    from kind to e)

pub either_within :
    (n : ℕ) (one other : List Edge)
    → ((from : ℕ) (kind : Kind) (to : ℕ) → allows one from kind to ≡ true → (from < n) × (to < n))
    → ((from : ℕ) (kind : Kind) (to : ℕ) → allows other from kind to ≡ true → (from < n) × (to < n))
    → (from : ℕ) (kind : Kind) (to : ℕ) → allows (one ++ other) from kind to ≡ true → (from < n) × (to < n)
either_within n one other first second from kind to e =
    elim (or_cases _ _ (sym (allows-append one other from kind to) ∙ e)) [
      | inl here ↦ first from kind to here
      | inr there ↦ second from kind to there
    ]

-- the edges of a table's labels, one by one and as a list

pub listed_within :
    (t : Layout) (edges : List Edge) → AllByRecursion (IsEdgeOf t) edges
    → (from : ℕ) (kind : Kind) (to : ℕ) → allows edges from kind to ≡ true
    → (from < length t.labels) × (to < length t.labels)
unfolding allows
listed_within t [] each from kind to e = cc
listed_within t (edge ∷ edges) each from kind to e = elim (or_cases _ _ e) [
  | inl here ↦
      let same = same_parts edge from kind to here in
      let a : edge.from < length t.labels = each.0.0 in
      let b : edge.to < length t.labels = each.0.1 in
      (omega (arith, same.0, a), omega (arith, same.2, b))
  | inr there ↦ listed_within t edges each.1 from kind to there
]

or_left : (a b : Bool) → a ≡ true → (a || b) ≡ true
or_left true b e = refl
or_left false b e = cc

or_right : (a b : Bool) → b ≡ true → (a || b) ≡ true
or_right true b e = refl
or_right false b e = e

pub first_allowed : (edge : Edge) (edges : List Edge) → allows (edge ∷ edges) edge.from edge.kind edge.to ≡ true
unfolding allows
first_allowed edge edges = or_left _ _ (of_parts edge edge.from edge.kind edge.to refl refl refl)

pub later_allowed :
    (edge : Edge) (edges : List Edge) (from : ℕ) (kind : Kind) (to : ℕ) → allows edges from kind to ≡ true
    → allows (edge ∷ edges) from kind to ≡ true
unfolding allows
later_allowed edge edges from kind to e = or_right _ _ e

pub within_listed :
    (t : Layout) (edges : List Edge)
    → ((from : ℕ) (kind : Kind) (to : ℕ) → allows edges from kind to ≡ true → (from < length t.labels) × (to < length t.labels))
    → AllByRecursion (IsEdgeOf t) edges
within_listed t [] within = tt
within_listed t (edge ∷ edges) within = (
  within edge.from edge.kind edge.to (first_allowed edge edges),
  within_listed t edges (λ from kind to e. within from kind to (later_allowed edge edges from kind to e)),
)
