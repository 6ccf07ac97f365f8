-- The order of edges: it is total, only equal edges tie, and the code compares edges by it.
use Rattle.std.specs.{declared.cmp.Ordering.{Ordering, TheVariants.{Equal, Greater, Less}}, Cmp.{IsTotalOrder, nat_cmp_total}}
use Rattle.std.specs.{Cmp.unsigned_tied, List.list_all, Ordering.{is_eq, nat_cmp, ordering_then, partial_ordering_then}}
use Rattle.std.proofs.{Common.{◌&&◌, ◌==◌, ◌∙◌, ◌≡◌, Bool, Option, Some, ap, false, refl, sym, true}, lemmas.Cmp.{on_total, then_total}}
use Rattle.base.specs.{declared.{edge.Edge.Edge, kind.Kind.Kind}, Kinds.kind_number}
use Rattle.base.specs.contracts.edge.EdgePartialOrd.TheImpl as edge_partial_order
use Rattle.base.specs.contracts.kind.KindPartialOrd.TheImpl as kind_partial_order
use Rattle.policy.{specs.Policy.{edge_cmp, is_edge}, proofs.KindNumbers.{all_kinds, each_kind}}
use mathlib.Core.Bool.{false≢true}

pub edge_total : IsTotalOrder edge_cmp
edge_total =
    then_total (on_total (λ edge. edge.from) nat_cmp_total)
    (then_total (on_total (λ edge. kind_number edge.kind) nat_cmp_total) (on_total (λ edge. edge.to) nat_cmp_total))

-- whether an order that may be there is this one
abbrev is_order : Option Ordering → Ordering → Bool
is_order (Some Less) Less = true
is_order (Some Equal) Equal = true
is_order (Some Greater) Greater = true
is_order _ _ = false

order_is : (found : Option Ordering) (order : Ordering) → is_order found order ≡ true → found ≡ Some order
order_is (Some Less) Less is = refl
order_is (Some Equal) Equal is = refl
order_is (Some Greater) Greater is = refl
order_is _ _ is = absurd (false≢true is)

abbrev is_by_number : Kind → Kind → Bool
is_by_number a b = is_order (kind_partial_order.ghosts.partial_cmp a b) (nat_cmp (kind_number a) (kind_number b))

-- the kinds are compared by their numbers
kind_cmp : (a b : Kind) → kind_partial_order.ghosts.partial_cmp a b ≡ Some (nat_cmp (kind_number a) (kind_number b))
kind_cmp a b = order_is _ _ (each_kind (is_by_number a) (each_kind (λ k. list_all (is_by_number k) all_kinds) refl a) b)

pub partial_ordering_then-Some : (r s : Ordering) → partial_ordering_then (Some r) (Some s) ≡ Some (ordering_then r s)
partial_ordering_then-Some Less s = refl
partial_ordering_then-Some Equal s = refl
partial_ordering_then-Some Greater s = refl

-- the code's `<` of edges
pub partial_cmp-of_code : (a b : Edge) → edge_partial_order.ghosts.partial_cmp a b ≡ Some (edge_cmp a b)
partial_cmp-of_code a b =
    let from = nat_cmp a.from b.from in
    let kind = nat_cmp (kind_number a.kind) (kind_number b.kind) in
    let to = nat_cmp a.to b.to in
    ap (λ order. partial_ordering_then (Some from) (partial_ordering_then order (Some to))) (kind_cmp a.kind b.kind)
    ∙ ap (partial_ordering_then (Some from)) (partial_ordering_then-Some kind to)
    ∙ partial_ordering_then-Some from (ordering_then kind to)

is_eq-ordering_then : (r s : Ordering) → is_eq (ordering_then r s) ≡ (is_eq r && is_eq s)
is_eq-ordering_then Less s = refl
is_eq-ordering_then Equal s = refl
is_eq-ordering_then Greater s = refl

pub is_edge-edge_cmp : (edge other : Edge) → is_edge edge.from edge.kind edge.to other ≡ is_eq (edge_cmp other edge)
is_edge-edge_cmp edge other =
    let from = nat_cmp other.from edge.from in
    let kind = nat_cmp (kind_number other.kind) (kind_number edge.kind) in
    let to = nat_cmp other.to edge.to in
    let parts = is_eq-ordering_then from (ordering_then kind to) ∙ ap (λ b. is_eq from && b) (is_eq-ordering_then kind to) in
    sym (parts
    ∙ ap (λ b. b && (is_eq kind && is_eq to)) (unsigned_tied other.from edge.from)
    ∙ ap (λ b. (other.from == edge.from) && (b && is_eq to)) (unsigned_tied (kind_number other.kind) (kind_number edge.kind))
    ∙ ap (λ b. (other.from == edge.from) && ((kind_number other.kind == kind_number edge.kind) && b))
    (unsigned_tied other.to edge.to))
