-- Capabilities in successive slots, and lists that are joined one after another.
use Rattle.std.{specs.List.{flat_map, range_with_len}, proofs.Common.{[], ℕ, ◌++◌, ◌+◌, ◌<◌, ◌∙◌, ◌∷◌, ◌≡◌, ◌≤◌, List, add-one, ap}}
use Rattle.std.proofs.{Common.{append_assoc, arith, drop, get_or, length, map, refl, suc, sym, zero}, lemmas.Grind.flat_map-append}
use Rattle.std.proofs.lemmas.List.{append-nil, drop_all}
use Rattle.importing.specs.{declared.{pieces.{Grant.Grant, Piece.Piece}, slots.Held.Held}, Grants.{grant, numbered}}
use Rattle.importing.proofs.Regions.{drop_more}

pub one_more : (holder : Piece) (first i : ℕ) (helds : List Held) (held : Held) (grants : List Grant) → i < length helds
    → get_or helds i held ≡ held
    → (grants ++ grant holder (first + i) held ∷ []) ++ numbered holder (first + (i + 1)) (drop (i + 1) helds)
    ≡ grants ++ numbered holder (first + i) (drop i helds)
one_more holder first i helds held grants below at =
    let next : first + (i + 1) ≡ first + i + 1 = omega arith in
    append_assoc grants (grant holder (first + i) held ∷ []) _
    ∙ ap (λ n. grants ++ grant holder (first + i) held ∷ numbered holder n (drop (i + 1) helds)) next
    ∙ sym (ap (λ left. grants ++ numbered holder (first + i) left)
    (drop_more helds i held below ∙ ap (λ h. h ∷ drop (i + 1) helds) at))

pub none_left : (holder : Piece) (first i : ℕ) (helds : List Held) (grants : List Grant) → length helds ≤ i
    → grants ++ numbered holder (first + i) (drop i helds) ≡ grants
none_left holder first i helds grants past =
    ap (λ left. grants ++ numbered holder (first + i) left) (drop_all i helds past) ∙ append-nil grants

-- one number more
range_more : (a n : ℕ) → range_with_len a (suc n) ≡ range_with_len a n ++ (a + n) ∷ []
range_more a zero = ap (λ k. k ∷ []) (let same : a ≡ a + 0 = omega arith in same)
range_more a (suc n) =
    let same : a + 1 + n ≡ a + suc n = omega arith in
    ap (λ xs. a ∷ xs) (range_more (a + 1) n ∙ ap (λ k. range_with_len (a + 1) n ++ k ∷ []) same)

-- one list more
pub flat_more : {X : Type 0} (f : ℕ → List X) (n : ℕ)
    → flat_map f (range_with_len 0 (n + 1)) ≡ flat_map f (range_with_len 0 n) ++ f n
flat_more f n =
    let same : 0 + n ≡ n = omega arith in
    rw add-one
    (ap (flat_map f) (range_more 0 n ∙ ap (λ k. range_with_len 0 n ++ k ∷ []) same)
    ∙ flat_map-append f (range_with_len 0 n) (n ∷ []) ∙ ap (λ xs. flat_map f (range_with_len 0 n) ++ xs) (append-nil (f n)))

map_end : {X : Type 0} (f : ℕ → X) (xs : List ℕ) (x : ℕ) → map f (xs ++ x ∷ []) ≡ map f xs ++ f x ∷ []
map_end f [] x = refl
map_end f (y ∷ xs) x = ap (λ ys. f y ∷ ys) (map_end f xs x)

-- the view of a row of numbers, with one more number
pub map_more : {X : Type 0} (f : ℕ → X) (n : ℕ) → map f (range_with_len 0 (n + 1)) ≡ map f (range_with_len 0 n) ++ f n ∷ []
map_more f n =
    let same : 0 + n ≡ n = omega arith in
    rw add-one (ap (map f) (range_more 0 n ∙ ap (λ k. range_with_len 0 n ++ k ∷ []) same) ∙ map_end f (range_with_len 0 n) n)
