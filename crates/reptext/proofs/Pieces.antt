-- Lists with one piece more, for the next of some values.
use Rattle.std.{specs.List.flat_map, proofs.Common.{ℕ, ◌++◌, ◌+◌, ◌<◌, ◌∙◌, ◌≡◌, List, ap, get_or, length, sym, take}}
use Rattle.std.proofs.lemmas.List.{flat_map_more, take_more}

pub piece_more : {X Y : Type 0} (f : X → List Y) (xs : List X) (i : ℕ) (d : X) (before text longer : List Y) → i < length xs
    → text ≡ before ++ flat_map f (take i xs) → longer ≡ text ++ f (get_or xs i d) → longer ≡ before ++ flat_map f (take (i + 1) xs)
piece_more f xs i d before text longer within so_far grown =
    grown
    ∙ ap (λ bytes. bytes ++ f (get_or xs i d)) so_far
    ∙ flat_map_more f before (take i xs) (get_or xs i d)
    ∙ ap (λ front. before ++ flat_map f front) (sym (take_more xs i d within))
