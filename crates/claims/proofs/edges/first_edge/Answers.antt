-- The first label with an edge has the first edge of all.
use Rattle.std.proofs.{Common.{◌∙◌, arith, inl, inr, subst, sym}, lemmas.Bool.{cases_order, false≢true}}
use Rattle.policy.specs.Policy.{allows}
use Rattle.claims.{specs.Edges.LacksEdgesOf, proofs.FirstEdge.{LacksBelow, all_below, first_edge_of_all}}
use Rattle.claims.proofs.edges.first_edge.Goals.{in-Some+in_default-first_edge_by, in_default}
use Rattle.claims.proofs.edges.first_edge.Goals as goal

pub returns-in-Some-first_edge_by-clause-some : goal.returns-in-Some-first_edge_by-clause-some
returns-in-Some-first_edge_by-clause-some c = λ t are.
    let claim = c.args.claim.now in
    let test = allows c.args.policy.now in
    let before = c.loop-number.invariant t are in
    first_edge_of_all t test claim c.in-Some.actor c.in-Some-first_edge_by.edge
    (subst (λ n. LacksBelow t test claim n) (sym c.in-Some.ensures.value) before)
    (c.in-Some-first_edge_by.ensures.some t are)

pub loop-number-preserved : goal.loop-number-preserved
loop-number-preserved c t are a below =
    elim c.match-new.branch [
      | in-Some+in_default-first_edge_by w ↦ elim (cases_order a c.loop-number.number) [
        | inl same ↦
            subst (λ n. LacksEdgesOf t (allows c.args.policy.now) c.args.claim.now n) (w.in-Some.ensures.value ∙ sym same)
            (w.in_default-first_edge_by.ensures.none t are)
        | inr (inl before) ↦ c.loop-number.invariant t are a before
        | inr (inr after) ↦ absurd (omega (arith, below, after))
      ]
      | in_default w ↦ absurd (false≢true (w.in_default.ensures.valid.1 (omega arith)))
    ]

pub returns-clause-none : goal.returns-clause-none
returns-clause-none c = λ t are.
    all_below t (allows c.args.policy.now) c.args.claim.now c.loop-number.number (λ a kind l has. omega (arith, (c.edges_rise.ensures.labels a kind l has).0))
    (c.loop-number.invariant t are)
