-- Lists of edges between two labels: the edges that they have.
use mathlib.Core.Bool.{false≢true}
use Rattle.std.proofs.Common.{[], ℕ, ◌++◌, ◌+◌, ◌<◌, ◌==◌, ◌||◌, ◌∙◌, ◌∷◌, ◌≡◌, Bool, List, None, Option, Some, ap, append_assoc, arith}
use Rattle.std.proofs.Common.{cond, false, filter, flat_map, get_or, inl, inr, length, refl, slice_get, subst, suc, sym, take, true, zero}
use Rattle.std.proofs.lemmas.{Bool.{Decides.nat_tests, and_parts, eqb-true, or_cases}, List.{Concat.flat_map-append, Elements.filter_more}}
use Rattle.std.proofs.lemmas.{List.{Folds.{list_any-append, list_any_more}, append-nil}, Option.{none-some, same_Some}}
use Rattle.base.specs.{declared.{edge.Edge.Edge, kind.Kind.Kind}, Kinds.kind_number}
use Rattle.{policy.{specs.Policy.{allows, is_edge}, proofs.KindNumbers.same_kind}, labels.specs.SlotEdges.edge_between}

-- one kind more

one_kind : (f : Kind → List Edge) (kind : Kind) (given : Bool) → flat_map f (cond given (kind ∷ []) []) ≡ cond given (f kind) []
one_kind f kind true = append-nil (f kind)
one_kind f kind false = refl

pub edges_more :
    (f : Kind → List Edge) (given : Kind → Bool) (kinds : List Kind) (i : ℕ) (d : Kind) (first before after : List Edge)
    → i < length kinds → before ≡ first ++ flat_map f (filter given (take i kinds))
    → after ≡ before ++ cond (given (get_or kinds i d)) (f (get_or kinds i d)) []
    → after ≡ first ++ flat_map f (filter given (take (i + 1) kinds))
edges_more f given kinds i d first before after lt so_far is =
    let kind = get_or kinds i d in
    let here = filter given (take i kinds) in
    let more : flat_map f (filter given (take (i + 1) kinds)) ≡ flat_map f here ++ cond (given kind) (f kind) [] =
    ap (flat_map f) (filter_more given kinds i d lt) ∙ flat_map-append f here (cond (given kind) (kind ∷ []) [])
    ∙ ap (λ last. flat_map f here ++ last) (one_kind f kind (given kind)) in
    is ∙ ap (λ edges. edges ++ cond (given kind) (f kind) []) so_far
    ∙ append_assoc first (flat_map f here) (cond (given kind) (f kind) []) ∙ ap (λ rest. first ++ rest) (sym more)

-- lists that are joined

pub allows-append :
    (one other : List Edge) (from : ℕ) (k : Kind) (to : ℕ)
    → allows (one ++ other) from k to ≡ (allows one from k to || allows other from k to)
unfolding allows
allows-append one other from k to = list_any-append (is_edge from k to) one other

pub allows_before :
    (one other : List Edge) (from : ℕ) (k : Kind) (to : ℕ) → allows one from k to ≡ true → allows (one ++ other) from k to ≡ true
allows_before one other from k to has = allows-append one other from k to ∙ ap (λ b. b || allows other from k to) has

or_right : (a b : Bool) → b ≡ true → (a || b) ≡ true
or_right true b e = refl
or_right false b e = e

pub allows_after :
    (one other : List Edge) (from : ℕ) (k : Kind) (to : ℕ) → allows other from k to ≡ true → allows (one ++ other) from k to ≡ true
allows_after one other from k to has = allows-append one other from k to ∙ or_right _ _ has

pub none_allowed : (from : ℕ) (k : Kind) (to : ℕ) → allows [] from k to ≡ false
unfolding allows
none_allowed from k to = refl

-- edges that are added

or_turn : (x a b : Bool) → (x || (a || b)) ≡ (a || (b || x))
or_turn true true b = refl
or_turn true false true = refl
or_turn true false false = refl
or_turn false true b = refl
or_turn false false true = refl
or_turn false false false = refl

pub one_more :
    (edges : List Edge) (i : ℕ) (edge : Edge) (old now new : List Edge) (from : ℕ) (k : Kind) (to : ℕ) → i < length edges
    → edge ≡ get_or edges i edge
    → allows now from k to ≡ (allows old from k to || allows (take i edges) from k to)
    → allows new from k to ≡ (is_edge from k to edge || allows now from k to)
    → allows new from k to ≡ (allows old from k to || allows (take (i + 1) edges) from k to)
unfolding allows
one_more edges i edge old now new from k to lt here so_far step =
    let is = is_edge from k to in
    step ∙ ap (λ b. is edge || b) so_far ∙ or_turn (is edge) (allows old from k to) (allows (take i edges) from k to)
    ∙ ap (λ b. allows old from k to || (allows (take i edges) from k to || b)) (ap is here)
    ∙ ap (λ b. allows old from k to || b) (sym (list_any_more is edges i edge lt))

pub one_added :
    (edges old new : List Edge) (edge : Edge) (from : ℕ) (k : Kind) (to : ℕ) → edge ∷ [] ≡ edges
    → allows new from k to ≡ (is_edge from k to edge || allows old from k to)
    → allows new from k to ≡ (allows old from k to || allows edges from k to)
unfolding allows
one_added edges old new edge from k to same step =
    step ∙ turned (is_edge from k to edge) (allows old from k to) ∙ ap (λ all. allows old from k to || allows all from k to) same
  where
    turned : (x a : Bool) → (x || a) ≡ (a || (x || false))
    turned true true = refl
    turned true false = refl
    turned false true = refl
    turned false false = refl

pub none_added :
    (edges old : List Edge) (from : ℕ) (k : Kind) (to : ℕ) → [] ≡ edges
    → allows old from k to ≡ (allows old from k to || allows edges from k to)
unfolding allows
none_added edges old from k to none = kept (allows old from k to) ∙ ap (λ all. allows old from k to || allows all from k to) none where
  kept : (a : Bool) → a ≡ (a || false)
  kept true = refl
  kept false = refl

-- an edge is between two labels, by its ends and its kind

pub record IsBetween (a b : Option ℕ) (kind : Kind) (from : ℕ) (k : Kind) (to : ℕ) : Type 0 where
  pub source : a ≡ Some from
  pub target : b ≡ Some to
  pub same : kind ≡ k

is_one :
    (edge : Edge) (from : ℕ) (k : Kind) (to : ℕ) → is_edge from k to edge ≡ true
    → IsBetween (Some edge.from) (Some edge.to) edge.kind from k to
is_one edge from k to e =
    let outer = and_parts (edge.from == from) _ e in
    let inner = and_parts (kind_number edge.kind == kind_number k) (edge.to == to) outer.1 in
    record {
      source = ap Some (eqb-true edge.from from outer.0);
      target = ap Some (eqb-true edge.to to inner.1);
      same = same_kind edge.kind k (eqb-true (kind_number edge.kind) (kind_number k) inner.0);
    }

pub edge_in :
    (a b : Option ℕ) (kind : Kind) (from : ℕ) (k : Kind) (to : ℕ) → allows (edge_between a b kind) from k to ≡ true
    → IsBetween a b kind from k to
unfolding allows
edge_in (Some a) (Some b) kind from k to e =
    let edge : Edge = record { from = a; kind = kind; to = b } in
    elim (or_cases (is_edge from k to edge) false e) [ inl is ↦ is_one edge from k to is | inr f ↦ absurd (false≢true f) ]
edge_in (Some a) None kind from k to e = absurd (false≢true e)
edge_in None b kind from k to e = absurd (false≢true e)

itself : (from : ℕ) (k : Kind) (to : ℕ) → is_edge from k to (record { from = from; kind = k; to = to }) ≡ true
itself from k to = grind (arith, nat_tests)

pub edge_has :
    (a b : Option ℕ) (from : ℕ) (k : Kind) (to : ℕ) → a ≡ Some from → b ≡ Some to → allows (edge_between a b k) from k to ≡ true
unfolding allows
edge_has a b from k to source target = rw (source, target) (ap (λ first. first || false) (itself from k to))

-- the edges of several kinds

pub edges_in :
    (a b : Option ℕ) (given : Kind → Bool) (kinds : List Kind) (from : ℕ) (k : Kind) (to : ℕ)
    → allows (flat_map (edge_between a b) (filter given kinds)) from k to ≡ true
    → (given k ≡ true) × (a ≡ Some from) × (b ≡ Some to)
edges_in a b given [] from k to e = absurd (false≢true (sym (none_allowed from k to) ∙ e))
edges_in a b given (kind ∷ kinds) from k to e = by (given kind) refl e (edges_in a b given kinds from k to) where
  rest : List Edge
  rest = flat_map (edge_between a b) (filter given kinds)

  by :
      (is : Bool) → given kind ≡ is
      → allows (flat_map (edge_between a b) (cond is (kind ∷ filter given kinds) (filter given kinds))) from k to ≡ true
      → (allows rest from k to ≡ true → (given k ≡ true) × (a ≡ Some from) × (b ≡ Some to))
      → (given k ≡ true) × (a ≡ Some from) × (b ≡ Some to)
  by true is e later = elim (or_cases _ _ (sym (allows-append (edge_between a b kind) rest from k to) ∙ e)) [
    | inl here ↦
        let between = edge_in a b kind from k to here in (sym (ap given between.same) ∙ is, between.source, between.target)
    | inr there ↦ later there
  ]
  by false is e later = later e

pub edges_have :
    (a b : Option ℕ) (given : Kind → Bool) (kinds : List Kind) (i : ℕ) (from : ℕ) (k : Kind) (to : ℕ)
    → slice_get kinds i ≡ Some k → given k ≡ true → a ≡ Some from → b ≡ Some to
    → allows (flat_map (edge_between a b) (filter given kinds)) from k to ≡ true
edges_have a b given [] i from k to at is source target = absurd (none-some k at)
edges_have a b given (kind ∷ kinds) zero from k to at is source target =
    let same : kind ≡ k = same_Some kind k at in
    rw (ap given same ∙ is)
    (allows_before (edge_between a b kind) _ from k to
    (subst (λ x. allows (edge_between a b x) from k to ≡ true) (sym same) (edge_has a b from k to source target)))
edges_have a b given (kind ∷ kinds) (suc i) from k to at is source target =
    by (given kind) (edges_have a b given kinds i from k to at is source target) where
      rest : List Edge
      rest = flat_map (edge_between a b) (filter given kinds)

      by :
          (here : Bool) → allows rest from k to ≡ true
          → allows (flat_map (edge_between a b) (cond here (kind ∷ filter given kinds) (filter given kinds))) from k to ≡ true
      by true later = allows_after (edge_between a b kind) rest from k to later
      by false later = later
