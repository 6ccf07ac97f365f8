-- Lists seen through a function, with one more item.
use Rattle.std.proofs.Common.{[], ◌++◌, ◌∷◌, ◌≡◌, List, ap, map, refl}

pub seen_more : {X Y : Type 0} (see : X → Y) (xs : List X) (x : X) → map see (xs ++ x ∷ []) ≡ map see xs ++ see x ∷ []
seen_more see [] x = refl
seen_more see (y ∷ xs) x = ap (λ ys. see y ∷ ys) (seen_more see xs x)
