-- Steps of walks, each along an edge or against one, and the least of several walks (confine's own).
use Rattle.std.specs.{declared.{alloc.Global.Global, cmp.Ordering.TheVariants.Less}, Cmp.Lexicographic.slice_cmp, List.list_any}
use Rattle.std.specs.{Ordering.{is_lt, nat_cmp}, Prelude.{[], ℕ, ◌==◌, ◌≡◌, Bool, List, MatchOption, None, Option, Some, Vec}}
use Rattle.std.specs.Prelude.{if◌then◌else◌, true}
use Rattle.base.specs.{declared.{edge.Edge.Edge, kind.Kind.Kind, labels.Labels.Labels}, Kinds.kind_number, Labels.is_in}
use Rattle.policy.specs.{declared.walks.Step.Step, Domain.EdgeTest, Places.{IsLeast, IsNone}, Policy.edge_cmp, Reasons.reason_place}

abbrev pub is_of : List Kind → Kind → Bool
is_of kinds kind = list_any (λ other. kind_number kind == kind_number other) kinds

abbrev pub GoesAlong : List Kind → Step → Type 0
GoesAlong kinds step = (step.along.now ≡ kinds) × (step.against.now ≡ [])

abbrev pub GoesAgainst : List Kind → Step → Type 0
GoesAgainst kinds step = (step.along.now ≡ []) × (step.against.now ≡ kinds)

-- the step goes from one label to the next by this edge
pub data Passes (step : Step) (from : ℕ) (edge : Edge) (next : ℕ) : Type 0 where
  along : is_of step.along.now edge.kind ≡ true → edge.from ≡ from → edge.to ≡ next → Passes step from edge next
  against : is_of step.against.now edge.kind ≡ true → edge.to ≡ from → edge.from ≡ next → Passes step from edge next

abbrev pub IsThere : EdgeTest → Edge → Type 0
IsThere test edge = test edge.from edge.kind edge.to ≡ true

-- a step leads by this edge to a label of the set
abbrev pub Leads : EdgeTest → Step → ℕ → Labels → Edge → Type 0
Leads test step from goals edge = (next : ℕ) × (is_in goals next ≡ true) × IsThere test edge × Passes step from edge next

-- a step leads there by one of the edges that a label has
abbrev pub LeadsOf : EdgeTest → Step → ℕ → Labels → ℕ → Edge → Type 0
LeadsOf test step from goals start edge = (edge.from ≡ start) × Leads test step from goals edge

-- the other end of an edge, seen from this one
abbrev pub other_end : Edge → ℕ → ℕ
other_end edge from = if edge.from == from then edge.to else edge.from

-- the first edge that has a property, or nothing if none has it
abbrev pub FindsFirst : (Edge → Type 0) → Option Edge → Type 0
FindsFirst P found = MatchOption found (IsNone P) (λ edge. P edge × ((other : Edge) → P other → edge_cmp other edge ≡ Less → ⊥))

-- the least walk that has a property, or nothing if none has it
abbrev pub FindsWalk : (List Edge → Type 0) → Option (Vec Edge Global) → Type 0
FindsWalk P found = MatchOption found (IsNone P) (λ edges. IsLeast reason_place P edges.items)

-- the lesser of two walks, if there are any
abbrev pub lesser_of : Option (Vec Edge Global) → Option (Vec Edge Global) → Option (Vec Edge Global)
lesser_of None other = other
lesser_of (Some one) None = Some one
lesser_of (Some one) (Some other) =
    if is_lt (slice_cmp nat_cmp (reason_place other.items) (reason_place one.items)) then Some other else Some one
