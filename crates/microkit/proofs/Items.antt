-- Lists and their views: a test of what a list shows is a test of the list.
use Rattle.std.specs.{List.{find, list_any, position, position_or_len}, Option.option_map, Prelude.slice_get, Str.bytes_eq}
use Rattle.std.proofs.Common.{[], ℕ, ◌++◌, ◌+◌, ◌||◌, ◌∙◌, ◌∷◌, ◌≡◌, Bool, List, None, Some, ap, cond, false, length, map, nat_lt, not}
use Rattle.{std.proofs.Common.{refl, suc, sym, take, true, zero}, xml.specs.{declared.element.Attribute.Attribute, Tag.Pair, View.pairs_of}}

pub any_pair : (name : List ℕ) (found : List Attribute)
    → list_any (λ (pair : Pair). bytes_eq pair.name name) (pairs_of found)
    ≡ list_any (λ (attribute : Attribute). bytes_eq attribute.name.now name) found
any_pair name [] = refl
any_pair name (attribute ∷ found) = ap (λ b. bytes_eq attribute.name.now name || b) (any_pair name found)

-- any element of the view passes a test if one of the list does so by its view
pub any_seen : {X Y : Type 0} (see : X → Y) (test : Y → Bool) (xs : List X)
    → list_any test (map see xs) ≡ list_any (λ x. test (see x)) xs
any_seen see test [] = refl
any_seen see test (x ∷ xs) = ap (λ b. test (see x) || b) (any_seen see test xs)

-- the first element of the view that passes a test
pub find_seen : {X Y Z : Type 0} (see : X → Y) (show : Y → Z) (test : Y → Bool) (xs : List X)
    → option_map show (find test (map see xs)) ≡ option_map (λ x. show (see x)) (find (λ x. test (see x)) xs)
find_seen see show test [] = refl
find_seen {X = X} see show test (x ∷ xs) = by_test (find_seen see show test xs) (test (see x))
  where
    by_test : option_map show (find test (map see xs)) ≡ option_map (λ x. show (see x)) (find (λ x. test (see x)) xs)
        → (t : Bool)
        → option_map show (cond t (Some (see x)) (find test (map see xs)))
        ≡ option_map (λ x. show (see x)) (cond t (Some x) (find (λ x. test (see x)) xs))
    by_test later true = refl
    by_test later false = later

-- the place of the first element of the view that passes a test
pub position_seen : {X Y : Type 0} (see : X → Y) (test : Y → Bool) (xs : List X)
    → position test (map see xs) ≡ position (λ x. test (see x)) xs
position_seen {X = X} see test xs =
    ap (λ n. cond (nat_lt n (length (map see xs))) (Some n) None) (before xs)
    ∙ ap (λ n. cond (nat_lt (position_or_len (λ x. test (see x)) xs) n) (Some (position_or_len (λ x. test (see x)) xs)) None)
    (length_seen xs)
  where
    before : (ys : List X) → position_or_len test (map see ys) ≡ position_or_len (λ x. test (see x)) ys
    before [] = refl
    before (y ∷ ys) = ap (λ n. cond (not (test (see y))) (1 + n) 0) (before ys)

    length_seen : (ys : List X) → length (map see ys) ≡ length ys
    length_seen [] = refl
    length_seen (y ∷ ys) = ap suc (length_seen ys)

-- equal tests find the same place
position_same : {X : Type 0} (one other : X → Bool) → ((x : X) → one x ≡ other x) → (xs : List X) → position one xs ≡ position other xs
position_same {X = X} one other same xs =
    ap (λ n. cond (nat_lt n (length xs)) (Some n) None) (before xs)
  where
    before : (ys : List X) → position_or_len one ys ≡ position_or_len other ys
    before [] = refl
    before (y ∷ ys) =
        ap (λ b. cond (not b) (1 + position_or_len one ys) 0) (same y)
        ∙ ap (λ n. cond (not (other y)) (1 + n) 0) (before ys)

-- the first element of the view that passes no test by the others
pub none_seen : {X Y A B : Type 0} (see : X → Y) (show : A → B) (test : Y → B → Bool) (rows : List A) (xs : List X)
    → position (λ x. not (list_any (λ a. test (see x) (show a)) rows)) xs
    ≡ position (λ y. not (list_any (test y) (map show rows))) (map see xs)
none_seen see show test rows xs =
    sym
    (position_seen see (λ y. not (list_any (test y) (map show rows))) xs
    ∙ position_same _ _ (λ x. ap (λ b. not b) (any_seen show (test (see x)) rows)) xs)

-- the element at a place of the view
pub get_seen : {X Y : Type 0} (see : X → Y) (xs : List X) (n : ℕ)
    → slice_get (map see xs) n ≡ option_map see (slice_get xs n)
get_seen see [] n = refl
get_seen see (x ∷ xs) zero = refl
get_seen see (x ∷ xs) (suc n) = get_seen see xs n

-- the view of the first elements
pub take_seen : {X Y : Type 0} (see : X → Y) (n : ℕ) (xs : List X) → take n (map see xs) ≡ map see (take n xs)
take_seen see zero xs = refl
take_seen see (suc n) [] = refl
take_seen see (suc n) (x ∷ xs) = ap (λ ys. see x ∷ ys) (take_seen see n xs)

-- the view with one more element
pub seen_more : {X Y : Type 0} (see : X → Y) (xs : List X) (x : X) → map see (xs ++ x ∷ []) ≡ map see xs ++ see x ∷ []
seen_more see [] x = refl
seen_more see (y ∷ xs) x = ap (λ ys. see y ∷ ys) (seen_more see xs x)
