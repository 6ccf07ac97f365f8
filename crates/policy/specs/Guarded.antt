-- Walks whose steps lead to labels of given sets (confine's own).
use Rattle.std.specs.{declared.alloc.Global.Global, Prelude.{[], ℕ, ◌∷◌, ◌≡◌, Bool, List, None, Option, Some, Vec, true}}
use Rattle.base.specs.{declared.{edge.Edge.Edge, labels.Labels.Labels}, Labels.is_in}
use Rattle.policy.specs.{declared.guarded.Turn.Turn, Domain.EdgeTest, Walks.{FindsWalk, IsThere, Passes, lesser_of}}

-- a set has a label, or no set is given
abbrev pub lets_through : Option Labels → ℕ → Bool
lets_through None label = true
lets_through (Some labels) label = is_in labels label

-- edges that lead from one label to another, one for each turn, by labels that the turns let through
abbrev pub IsGuardedWalk : EdgeTest → List Turn → ℕ → ℕ → List Edge → Type 0
IsGuardedWalk test [] from to [] = from ≡ to
IsGuardedWalk test [] from to (edge ∷ edges) = ⊥
IsGuardedWalk test (turn ∷ turns) from to [] = ⊥
IsGuardedWalk test (turn ∷ turns) from to (edge ∷ edges) =
    (next : ℕ) × IsThere test edge × Passes turn.step from edge next × (lets_through turn.among next ≡ true)
    × IsGuardedWalk test turns next to edges

-- the lesser of a walk and the least walk that takes these turns, if there are any
abbrev pub FindsLesserGuarded : EdgeTest → List Turn → ℕ → ℕ → Option (Vec Edge Global) → Option (Vec Edge Global) → Type 0
FindsLesserGuarded test turns from to found lesser =
    (walk : Option (Vec Edge Global)) × FindsWalk (IsGuardedWalk test turns from to) walk × (lesser ≡ lesser_of found walk)
