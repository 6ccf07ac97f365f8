-- Lists that grow by the piece of one value more.
use Rattle.std.{specs.List.{flat_map, range_with_len}, proofs.Common.{ℕ, ◌++◌, ◌+◌, ◌<◌, ◌∙◌, ◌≡◌, List, ap, get_or, length, sym, take}}
use Rattle.{std.proofs.lemmas.List.{flat_map_more, take_more}, summary.proofs.OneMore.range_more}

-- the piece of the next of some values
pub change_more : {X Y : Type 0} (f : X → List Y) (xs : List X) (i : ℕ) (d : X) (before list longer : List Y) → i < length xs
    → list ≡ before ++ flat_map f (take i xs) → longer ≡ list ++ f (get_or xs i d) → longer ≡ before ++ flat_map f (take (i + 1) xs)
change_more f xs i d before list longer within so_far grown =
    grown
    ∙ ap (λ ys. ys ++ f (get_or xs i d)) so_far
    ∙ flat_map_more f before (take i xs) (get_or xs i d)
    ∙ ap (λ front. before ++ flat_map f front) (sym (take_more xs i d within))

-- the piece of the next number
pub number_more : {Y : Type 0} (f : ℕ → List Y) (n : ℕ) (before list longer : List Y) → list ≡ before ++ flat_map f (range_with_len 0 n)
    → longer ≡ list ++ f n → longer ≡ before ++ flat_map f (range_with_len 0 (n + 1))
number_more f n before list longer so_far grown =
    grown
    ∙ ap (λ ys. ys ++ f n) so_far
    ∙ flat_map_more f before (range_with_len 0 n) n
    ∙ ap (λ front. before ++ flat_map f front) (sym (range_more n))
