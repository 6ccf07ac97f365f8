-- Lists that elements leave in rounds, until none leaves: an element may fall because of those that fell before (confine's own).
use Rattle.std.specs.Prelude.{ℕ, Bool, List, filter, length, not, suc, zero}

-- a number of rounds: in each, the elements leave that fall by the list that is left
unfoldable pub rounds : {A : Type 0} → (List A → A → Bool) → ℕ → List A → List A
rounds falls zero left = left
rounds falls (suc more) left = rounds falls more (filter (λ x. not (falls left x)) left)

-- the elements that are left when no more fall
abbrev pub staying : {A : Type 0} → (List A → A → Bool) → List A → List A
staying falls all = rounds falls (length all) all
