-- Policies given by a test: such a policy has the edges that pass.
use Rattle.std.{specs.List.filter, proofs.{Common.{ℕ, ◌&&◌, ◌<◌, ◌∙◌, ◌≡◌, Bool, List, ap, false, refl, sym, true}, Math.Bool.and-true}}
use Rattle.std.proofs.{Math.Path.fun_ext, lemmas.{List.Kept.IsStrictlySortedBy-filter, Map.Views.any-filter_same}}
use Rattle.base.specs.declared.{edge.Edge.Edge, kind.Kind.Kind}
use Rattle.base.specs.declared.label.TheConstants.Label as Label
use Rattle.policy.{specs.{Domain.EdgeTest, Policy.{IsPolicy, allows, edge_cmp, is_edge}, Rows.all_edges}, proofs.KindNumbers.same_kind}
use Rattle.policy.proofs.RowEdges.{all_rising, is_possible, possible, same_parts}

abbrev passes : EdgeTest → Edge → Bool
passes test edge = test edge.from edge.kind edge.to

unfoldable pub policy_of : EdgeTest → List Edge
policy_of test = filter (passes test) (all_edges Label.COUNT)

-- the test says yes to edges of labels that there can be, and to no others
abbrev pub IsWithin : EdgeTest → Type 0
IsWithin test = (a : ℕ) (k : Kind) (b : ℕ) → test a k b ≡ true → (a < Label.COUNT) × (b < Label.COUNT)

passes_alike :
    (test : EdgeTest) (a : ℕ) (k : Kind) (b : ℕ) (edge : Edge) → is_edge a k b edge ≡ true → passes test edge ≡ test a k b
passes_alike test a k b edge is =
    let parts = same_parts edge a k b is in
    λ i. test (parts.0 i) (same_kind edge.kind k parts.1 i) (parts.2 i)

allowed_at : (test : EdgeTest) → IsWithin test → (a : ℕ) (k : Kind) (b : ℕ) → allows (policy_of test) a k b ≡ test a k b
unfolding allows policy_of
allowed_at test small a k b =
    any-filter_same (is_edge a k b) (passes test) (test a k b) (passes_alike test a k b) (all_edges Label.COUNT) ∙ by_case (test a k b) refl
  where
    by_case : (there : Bool) → test a k b ≡ there → (test a k b && is_possible Label.COUNT a k b) ≡ test a k b
    by_case true is =
        let labels = small a k b is in
        ap (λ x. test a k b && x) (possible Label.COUNT a k b labels.0 labels.1) ∙ and-true (test a k b)
    by_case false is = ap (λ x. x && is_possible Label.COUNT a k b) is ∙ sym is

pub allows_policy : (test : EdgeTest) → IsWithin test → allows (policy_of test) ≡ test
allows_policy test small = fun_ext (λ a. fun_ext (λ k. fun_ext (λ b. allowed_at test small a k b)))

pub is_policy : (test : EdgeTest) → IsWithin test → IsPolicy (policy_of test)
unfolding policy_of
is_policy test small = record {
  rising = IsStrictlySortedBy-filter edge_cmp (passes test) (all_edges Label.COUNT) (all_rising Label.COUNT);
  labels = λ a k b is. small a k b (sym (allowed_at test small a k b) ∙ is);
}
