-- Lists and their views: tests, places and lengths.
use Rattle.std.{specs.{List.{list_any, position, position_or_len}, Option.option_map, Prelude.slice_get}, proofs.Common.{[], ℕ, ◌++◌, ◌+◌}}
use Rattle.std.proofs.Common.{◌||◌, ◌∙◌, ◌∷◌, ◌≡◌, Bool, List, None, Some, ap, cond, length, map, nat_lt, not, refl, suc, zero}

-- any element of the view passes a test if one of the list does so by its view
pub any_seen : {X Y : Type 0} (see : X → Y) (test : Y → Bool) (xs : List X)
    → list_any test (map see xs) ≡ list_any (λ x. test (see x)) xs
any_seen see test [] = refl
any_seen see test (x ∷ xs) = ap (λ b. test (see x) || b) (any_seen see test xs)

-- the element at a place of the view
pub get_seen : {X Y : Type 0} (see : X → Y) (xs : List X) (n : ℕ)
    → slice_get (map see xs) n ≡ option_map see (slice_get xs n)
get_seen see [] n = refl
get_seen see (x ∷ xs) zero = refl
get_seen see (x ∷ xs) (suc n) = get_seen see xs n

pub length_seen : {X Y : Type 0} (see : X → Y) (xs : List X) → length (map see xs) ≡ length xs
length_seen see [] = refl
length_seen see (x ∷ xs) = ap suc (length_seen see xs)

-- the place of the first element of the view that passes a test
pub position_seen : {X Y : Type 0} (see : X → Y) (test : Y → Bool) (xs : List X)
    → position test (map see xs) ≡ position (λ x. test (see x)) xs
position_seen {X = X} see test xs =
    ap (λ n. cond (nat_lt n (length (map see xs))) (Some n) None) (before xs)
    ∙ ap (λ n. cond (nat_lt (position_or_len (λ x. test (see x)) xs) n) (Some (position_or_len (λ x. test (see x)) xs)) None)
    (length_seen see xs)
  where
    before : (ys : List X) → position_or_len test (map see ys) ≡ position_or_len (λ x. test (see x)) ys
    before [] = refl
    before (y ∷ ys) = ap (λ n. cond (not (test (see y))) (1 + n) 0) (before ys)

-- the view with one more element
pub seen_more : {X Y : Type 0} (see : X → Y) (xs : List X) (x : X) → map see (xs ++ x ∷ []) ≡ map see xs ++ see x ∷ []
seen_more see [] x = refl
seen_more see (y ∷ xs) x = ap (λ ys. see y ∷ ys) (seen_more see xs x)
