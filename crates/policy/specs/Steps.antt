-- Steps along edges, from a set of labels and to one (confine's own).
use Rattle.std.specs.{List.list_any, Prelude.{ℕ, ◌≡◌, Bool, List, true}}
use Rattle.{base.specs.{declared.{kind.Kind.Kind, labels.Labels.Labels}, Labels.is_in}, policy.specs.{Cut.IsNear, Domain.EdgeTest}}

-- whether there is an edge of one of the kinds
abbrev pub is_joined : EdgeTest → List Kind → ℕ → ℕ → Bool
is_joined test kinds from to = list_any (λ kind. test from kind to) kinds

-- a label to which a label of the set has an edge of one of the kinds
pub record IsTarget (test : EdgeTest) (kinds : List Kind) (froms : Labels) (to : ℕ) : Type 0 where
  pub from : ℕ
  pub among : is_in froms from ≡ true
  pub joined : is_joined test kinds from to ≡ true

-- a label that has an edge of one of the kinds to a label of the set
pub record IsSource (test : EdgeTest) (kinds : List Kind) (tos : Labels) (from : ℕ) : Type 0 where
  pub to : ℕ
  pub among : is_in tos to ≡ true
  pub joined : is_joined test kinds from to ≡ true

-- a label at most one step along a link away from a label of the set
pub record IsNearSome (test : EdgeTest) (labels : Labels) (other : ℕ) : Type 0 where
  pub label : ℕ
  pub among : is_in labels label ≡ true
  pub near : IsNear test label other
