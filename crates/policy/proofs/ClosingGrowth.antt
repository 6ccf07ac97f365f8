-- Policies that grow: steps of growth make one, and each step that adds edges leaves fewer absent.
use Rattle.std.{specs.List.list_any, proofs.Common.{[], ℕ, ◌++◌, ◌+◌, ◌<◌, ◌||◌, ◌∙◌, ◌∷◌, ◌≡◌, ◌≤◌, Bool, List, ap, arith, cond, false}}
use Rattle.std.proofs.{Common.{inl, inr, refl, subst, sym, true}, Math.Bool.{or-false, or_comm}, lemmas.Bool.or_cases}
use Rattle.std.proofs.lemmas.List.Folds.{list_any-append}
use Rattle.base.specs.{declared.{edge.Edge.Edge, kind.Kind.Kind, labels.Labels.Labels}, Labels.is_in}
use Rattle.base.specs.declared.label.TheConstants.Label as Label
use Rattle.policy.specs.{Closed.IsClosed, Closing.{IsLeastClosed, IsWithin}, Domain.EdgeTest, Policy.{JoinsLabels, allows, is_edge}}
use Rattle.policy.{specs.{Rows.all_edges, Settling.{Grows, IsMissing, Joins}}, proofs.{ClosingRules.has_asked, KindNumbers.same_kind}}
use Rattle.policy.proofs.RowEdges.{possible, same_parts}
use mathlib.Core.Bool.{false≢true}

absent_before : (a b : Bool) → (a ≡ true → b ≡ true) → b ≡ false → a ≡ false
absent_before false b forth is = refl
absent_before true b forth is = sym (forth refl) ∙ is

module _ (old middle new : List Edge) where
  -- a step that adds edges, after others
  pub grows_more : (before : Bool) → Grows old middle before → Grows middle new true → Grows old new true
  grows_more before first second = record {
    kept = λ from kind to has. second.kept from kind to (first.kept from kind to has);
    forced = λ other closed within. second.forced other closed (first.forced other closed within);
    added = λ is. let new_edge = second.added refl in
        record {
          from = new_edge.from;
          kind = new_edge.kind;
          to = new_edge.to;
          absent = absent_before (allows old new_edge.from new_edge.kind new_edge.to) (allows middle new_edge.from new_edge.kind new_edge.to)
              (first.kept new_edge.from new_edge.kind new_edge.to) new_edge.absent;
          present = new_edge.present;
        };
    same = λ is. absurd (false≢true (sym is));
  }

  -- a step that adds no edge, after others
  pub grows_no_more : (before : Bool) → Grows old middle before → Grows middle new false → Grows old new before
  grows_no_more before first second = subst (λ edges. Grows old edges before) (sym (second.same refl)) first

pub grows_by_join :
    (old new : List Edge) (from : ℕ) (kind : Kind) (lacks : Labels) (first : ℕ)
    → ((to : ℕ) → is_in lacks to ≡ true → IsMissing (allows old) from kind to) → Joins old new from kind lacks → first < Label.COUNT
    → is_in lacks first ≡ true → Grows old new true
grows_by_join old new from kind lacks first missing joins below is = record {
  kept = joins.kept;
  forced = forced;
  added = λ yes. record { from = from; kind = kind; to = first; absent = (missing first is).missing; present = joins.joined first below is };
  same = λ no. absurd (false≢true (sym no));
} where
  forced : (other : EdgeTest) → IsClosed other → IsWithin (allows old) other → IsWithin (allows new) other
  forced other closed within start way end has = elim (joins.only start way end has) [
    | inl before ↦ within start way end before
    | inr (starts, kinds, among) ↦ rw (starts, kinds) (has_asked (allows old) other within closed from kind end (missing end among).asked)
  ]

-- the number of possible edges that a policy lacks

pub absent_among : EdgeTest → List Edge → ℕ
absent_among test [] = 0
absent_among test (edge ∷ rest) = cond {A = ℕ} (test edge.from edge.kind edge.to) 0 1 + absent_among test rest

abbrev pub absent_count : List Edge → ℕ
absent_count edges = absent_among (allows edges) (all_edges Label.COUNT)

one_no_more : (before after : Bool) → (before ≡ true → after ≡ true) → cond {A = ℕ} after 0 1 ≤ cond {A = ℕ} before 0 1
one_no_more true true kept = omega arith
one_no_more true false kept = let both : false ≡ true = kept refl in cc
one_no_more false true kept = omega arith
one_no_more false false kept = omega arith

module _ (before after : EdgeTest) (kept : IsWithin before after) where
  no_more : (edges : List Edge) → absent_among after edges ≤ absent_among before edges
  unfolding absent_among
  no_more [] = omega arith
  no_more (edge ∷ rest) =
      let here = one_no_more (before edge.from edge.kind edge.to) (after edge.from edge.kind edge.to) (kept edge.from edge.kind edge.to) in
      let others = no_more rest in
      omega arith

  fewer : (from : ℕ) (kind : Kind) (to : ℕ) → before from kind to ≡ false → after from kind to ≡ true → (edges : List Edge)
      → list_any (is_edge from kind to) edges ≡ true → absent_among after edges < absent_among before edges
  unfolding absent_among
  fewer from kind to was is [] found = absurd (false≢true found)
  fewer from kind to was is (edge ∷ rest) found = elim (or_cases (is_edge from kind to edge) (list_any (is_edge from kind to) rest) found) [
    | inl here ↦
        let parts = same_parts edge from kind to here in
        let kinds = same_kind edge.kind kind parts.1 in
        let none : cond {A = ℕ} (after edge.from edge.kind edge.to) 0 1 ≡ 0 =
        ap (λ t. cond {A = ℕ} t 0 1) ((λ i. after (parts.0 i) (kinds i) (parts.2 i)) ∙ is) in
        let one : cond {A = ℕ} (before edge.from edge.kind edge.to) 0 1 ≡ 1 =
        ap (λ t. cond {A = ℕ} t 0 1) ((λ i. before (parts.0 i) (kinds i) (parts.2 i)) ∙ was) in
        let others = no_more rest in
        omega arith
    | inr later ↦
        let here = one_no_more (before edge.from edge.kind edge.to) (after edge.from edge.kind edge.to) (kept edge.from edge.kind edge.to) in
        let others = fewer from kind to was is rest later in
        omega arith
  ]

pub absent_falls : (old new : List Edge) → JoinsLabels new → Grows old new true → absent_count new < absent_count old
absent_falls old new labels grows =
    let edge = grows.added refl in
    let ends = labels edge.from edge.kind edge.to edge.present in
    fewer (allows old) (allows new) grows.kept edge.from edge.kind edge.to edge.absent edge.present (all_edges Label.COUNT)
    (possible Label.COUNT edge.from edge.kind edge.to ends.0 ends.1)

-- the least closed policy of edges is that of a list with the same edges
pub least_of_same : (one other policy : List Edge) → ((from : ℕ) (kind : Kind) (to : ℕ) → allows one from kind to ≡ allows other from kind to)
    → IsLeastClosed other policy → IsLeastClosed one policy
least_of_same one other policy same least = record {
  closed = least.closed;
  has = λ from kind to has. least.has from kind to (sym (same from kind to) ∙ has);
  least = λ test closed within. least.least test closed (λ from kind to has. within from kind to (same from kind to ∙ has));
}

-- a list of edges and another are added to a policy with no edge
pub both_added : (old edges listed empty first second : List Edge) → listed ≡ old → empty ≡ []
    → ((from : ℕ) (kind : Kind) (to : ℕ) → allows first from kind to ≡ (allows listed from kind to || allows empty from kind to))
    → ((from : ℕ) (kind : Kind) (to : ℕ) → allows second from kind to ≡ (allows edges from kind to || allows first from kind to))
    → (from : ℕ) (kind : Kind) (to : ℕ) → allows (old ++ edges) from kind to ≡ allows second from kind to
unfolding allows
both_added old edges listed empty first second is none one other from kind to =
    let before : allows first from kind to ≡ allows old from kind to =
    one from kind to ∙ (λ i. allows (is i) from kind to || allows (none i) from kind to) ∙ or-false (allows old from kind to) in
    list_any-append (is_edge from kind to) old edges ∙ or_comm (allows old from kind to) (allows edges from kind to)
    ∙ sym (other from kind to ∙ ap (λ b. allows edges from kind to || b) before)
