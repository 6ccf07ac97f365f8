-- The order of walks: one with fewer edges comes first, of equally long ones the first edge that differs decides; and the lesser of two
-- least walks is the least.
use Rattle.std.specs.declared.{alloc.Global.Global, cmp.Ordering.{Ordering, TheVariants.{Equal, Greater, Less}}}
use Rattle.std.specs.{Cmp.Lexicographic.{slice_cmp, slice_partial_cmp}, Ordering.{is_lt, nat_cmp, ordering_reverse, ordering_then}}
use Rattle.std.{specs.Ordering.partial_ordering_then, proofs.Common.{[], ℕ, ◌<◌, ◌∙◌, ◌∷◌, ◌≡◌, ◌⊎◌, Bool, List, None, Option, Some, Vec}}
use Rattle.std.proofs.{Common.{ap, arith, cond, false, inl, inr, length, nat_eq, nat_lt, refl, subst, sym, true}, lemmas.Bool.cases_order}
use Rattle.std.proofs.lemmas.{Bool.{eqb-true, false_from_ne_true, le-ltb, lt-ltb}, Cmp.nat_list_cmp_total, Map.Lookups.exact_bytes}
use Rattle.base.specs.{declared.edge.Edge.Edge, Kinds.kind_number}
use Rattle.base.specs.contracts.edge.EdgePartialOrd.TheImpl as edge_partial_order
use Rattle.policy.specs.{Places.ComesBefore, Policy.edge_cmp, Reasons.{edge_numbers, reason_place}, Walks.{FindsWalk, lesser_of}}
use Rattle.policy.proofs.{KindNumbers.same_kind, Order.{partial_cmp-of_code, partial_ordering_then-Some}, Places.decided, RowEdges.by_parts}
use Rattle.policy.proofs.RowEdges.{nat_less, nat_same}
use mathlib.Core.Bool.{false≢true}

thens : (a b c rest : Ordering)
    → ordering_then (ordering_then a (ordering_then b c)) rest ≡ ordering_then a (ordering_then b (ordering_then c rest))
thens Less b c rest = refl
thens Greater b c rest = refl
thens Equal Less c rest = refl
thens Equal Greater c rest = refl
thens Equal Equal c rest = refl

-- the code compares edges as their numbers are compared
pub numbers_cmp : (xs ys : List Edge)
    → slice_partial_cmp edge_partial_order.ghosts.partial_cmp xs ys ≡ Some (slice_cmp nat_cmp (edge_numbers xs) (edge_numbers ys))
numbers_cmp [] [] = refl
numbers_cmp [] (y ∷ ys) = refl
numbers_cmp (x ∷ xs) [] = refl
numbers_cmp (x ∷ xs) (y ∷ ys) =
    ap (λ r. partial_ordering_then r (slice_partial_cmp edge_partial_order.ghosts.partial_cmp xs ys)) (partial_cmp-of_code x y)
    ∙ ap (partial_ordering_then (Some (edge_cmp x y))) (numbers_cmp xs ys)
    ∙ partial_ordering_then-Some (edge_cmp x y) (slice_cmp nat_cmp (edge_numbers xs) (edge_numbers ys))
    ∙ ap Some (thens (nat_cmp x.from y.from) (nat_cmp (kind_number x.kind) (kind_number y.kind)) (nat_cmp x.to y.to) (slice_cmp nat_cmp (edge_numbers xs) (edge_numbers ys)))

nat_more : (a b : ℕ) → b < a → nat_cmp a b ≡ Greater
nat_more a b more =
    ap (λ t. cond t Less (cond (nat_eq a b) Equal Greater)) (le-ltb a b (omega (arith, more)))
    ∙ ap (λ t. cond t Equal Greater) (false_from_ne_true (nat_eq a b) (λ same. let is = eqb-true a b same in omega (arith, is, more)))

-- first numbers that differ decide
pub apart_first : (a b : ℕ) (rest : Ordering) → (a ≡ b → ⊥) → nat_lt a b ≡ is_lt (ordering_then (nat_cmp a b) rest)
apart_first a b rest apart = elim (cases_order a b) [
  | inl same ↦ absurd (apart same)
  | inr (inl less) ↦ lt-ltb a b less ∙ sym (ap (λ o. is_lt (ordering_then o rest)) (nat_less a b less))
  | inr (inr more) ↦ le-ltb a b (omega (arith, more)) ∙ sym (ap (λ o. is_lt (ordering_then o rest)) (nat_more a b more))
]

-- equal first numbers leave the rest to decide
pub same_first : (a b : ℕ) (rest : Ordering) → a ≡ b → ordering_then (nat_cmp a b) rest ≡ rest
same_first a b rest same = ap (λ o. ordering_then o rest) (nat_same a b same)

-- walks of equal length are ordered by their first edges, or by the rest
pub before_front : (e f : Edge) (es fs : List Edge) → length es ≡ length fs → ComesBefore (reason_place (e ∷ es)) (reason_place (f ∷ fs))
    → (edge_cmp e f ≡ Less) ⊎ ((e ≡ f) × ComesBefore (reason_place es) (reason_place fs))
before_front e f es fs long less = elim (decided (length (e ∷ es)) (length (f ∷ fs)) _ less) [
  | inl fewer ↦ absurd (omega (arith, long, fewer))
  | inr as_many ↦ elim (decided e.from f.from _ as_many.1) [
    | inl from ↦ inl (by_parts e.from (kind_number e.kind) e.to f.from (kind_number f.kind) f.to (inl from))
    | inr same_from ↦ elim (decided (kind_number e.kind) (kind_number f.kind) _ same_from.1) [
      | inl kind ↦ inl (by_parts e.from (kind_number e.kind) e.to f.from (kind_number f.kind) f.to (inr (same_from.0, inl kind)))
      | inr same_kinds ↦ elim (decided e.to f.to _ same_kinds.1) [
        | inl to ↦ inl (by_parts e.from (kind_number e.kind) e.to f.from (kind_number f.kind) f.to (inr (same_from.0, inr (same_kinds.0, to))))
        | inr same_to ↦
            let kinds = same_kind e.kind f.kind same_kinds.0 in
            inr (
              (λ i. record { from = same_from.0 i; kind = kinds i; to = same_to.0 i }),
              same_first (length es) (length fs) _ long ∙ same_to.1,
            )
      ]
    ]
  ]
]

less_from : (o : Ordering) → is_lt o ≡ true → o ≡ Less
less_from Less is = refl
less_from Equal is = absurd (false≢true is)
less_from Greater is = absurd (false≢true is)

-- what comes before a walk comes before each that isn't before that walk
before_other : (x a b : List ℕ) → is_lt (slice_cmp nat_cmp b a) ≡ false → ComesBefore x a → ComesBefore x b
before_other x a b not less = by (slice_cmp nat_cmp b a) refl where
  by : (o : Ordering) → slice_cmp nat_cmp b a ≡ o → ComesBefore x b
  by Less is = absurd (false≢true (sym not ∙ ap is_lt is))
  by Equal is = subst (ComesBefore x) (sym (exact_bytes b a is)) less
  by Greater is = nat_list_cmp_total.trans x a b less (nat_list_cmp_total.antisymm a b ∙ ap ordering_reverse is)

-- the least of two kinds of walks
pub least_either : {P Q R : List Edge → Type 0} (one other : Option (Vec Edge Global)) → FindsWalk P one → FindsWalk Q other
    → ((x : List Edge) → P x → R x) → ((x : List Edge) → Q x → R x) → ((x : List Edge) → R x → P x ⊎ Q x) → FindsWalk R (lesser_of one other)
least_either None None p q of_p of_q split = λ x has. elim (split x has) [ inl h ↦ p x h | inr h ↦ q x h ]
least_either None (Some b) p q of_p of_q split = record {
  has = of_q b.items q.has;
  first = λ x has before. elim (split x has) [ inl h ↦ p x h | inr h ↦ q.first x h before ];
}
least_either (Some a) None p q of_p of_q split = record {
  has = of_p a.items p.has;
  first = λ x has before. elim (split x has) [ inl h ↦ p.first x h before | inr h ↦ q x h ];
}
least_either {P} {Q} {R} (Some a) (Some b) p q of_p of_q split = by (is_lt (slice_cmp nat_cmp (reason_place b.items) (reason_place a.items))) refl where
  by : (t : Bool) → is_lt (slice_cmp nat_cmp (reason_place b.items) (reason_place a.items)) ≡ t → FindsWalk R (cond t (Some b) (Some a))
  by true is = record {
    has = of_q b.items q.has;
    first = λ x has before. elim (split x has) [
      | inl h ↦ p.first x h (nat_list_cmp_total.trans (reason_place x) (reason_place b.items) (reason_place a.items) before (less_from _ is))
      | inr h ↦ q.first x h before
    ];
  }
  by false is = record {
    has = of_p a.items p.has;
    first = λ x has before. elim (split x has) [
      | inl h ↦ p.first x h before
      | inr h ↦ q.first x h (before_other (reason_place x) (reason_place a.items) (reason_place b.items) is before)
    ];
  }

pub finds_same : {P Q : List Edge → Type 0} (found : Option (Vec Edge Global)) → ((x : List Edge) → P x → Q x) → ((x : List Edge) → Q x → P x)
    → FindsWalk P found → FindsWalk Q found
finds_same None to from none = λ x has. none x (from x has)
finds_same (Some a) to from least = record { has = to a.items least.has; first = λ x has before. least.first x (from x has) before }
