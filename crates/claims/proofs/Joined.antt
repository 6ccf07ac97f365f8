-- Words that are joined by spaces, one more at a time.
use Rattle.std.{specs.List.join_with_byte, proofs.Common.{[], ℕ, ◌++◌, ◌+◌, ◌<◌, ◌∙◌, ◌∷◌, ◌≡◌, List, ap, append_assoc, get_or, length}}
use Rattle.std.proofs.{Common.{map, refl, sym, take}, lemmas.List.map_more}

join_more : (c : ℕ) (x : List ℕ) (xs : List (List ℕ)) (y : List ℕ)
    → join_with_byte c (x ∷ (xs ++ y ∷ [])) ≡ join_with_byte c (x ∷ xs) ++ (c ∷ y)
join_more c x [] y = refl
join_more c x (z ∷ zs) y =
    ap (λ rest. x ++ (c ∷ rest)) (join_more c z zs y) ∙ sym (append_assoc x (c ∷ join_with_byte c (z ∷ zs)) (c ∷ y))

-- one more after the first ones, for the next of some values
pub joined_more : {X : Type 0} (f : X → List ℕ) (xs : List X) (i : ℕ) (d : X) (a : List ℕ) (bs : List (List ℕ)) (text longer : List ℕ) → i < length xs
    → text ≡ join_with_byte 32 (a ∷ (bs ++ map f (take i xs))) → longer ≡ text ++ (32 ∷ f (get_or xs i d))
    → longer ≡ join_with_byte 32 (a ∷ (bs ++ map f (take (i + 1) xs)))
joined_more f xs i d a bs text longer within so_far grown =
    grown ∙ ap (λ t. t ++ (32 ∷ f (get_or xs i d))) so_far
    ∙ sym (join_more 32 a (bs ++ map f (take i xs)) (f (get_or xs i d)))
    ∙ ap (λ rest. join_with_byte 32 (a ∷ rest))
    (append_assoc bs (map f (take i xs)) (f (get_or xs i d) ∷ []) ∙ ap (λ rest. bs ++ rest) (sym (map_more f xs i d within)))
