-- Lists that grow by one piece: one that passes a test, or one that doesn't.
use Rattle.std.specs.List.{filter, range_with_len}
use Rattle.std.proofs.Common.{[], ℕ, ◌++◌, ◌+◌, ◌<◌, ◌∙◌, ◌∷◌, ◌≡◌, Bool, List, ap, false, get_or, length, map, sym, take, true}
use Rattle.{std.proofs.lemmas.List.{Elements.filter-append, append-nil, map-append, map-id, take_more}, summary.proofs.OneMore.range_more}

pub filter_more : (p : ℕ → Bool) (n : ℕ) → filter p (range_with_len 0 (n + 1)) ≡ filter p (range_with_len 0 n) ++ filter p (n ∷ [])
filter_more p n = ap (filter p) (range_more n) ∙ filter-append p (range_with_len 0 n) (n ∷ [])

-- a number that passes is kept, and one that doesn't isn't

pub number_passes : (p : ℕ → Bool) (n label : ℕ) (kept longer : List ℕ) → label ≡ n → p label ≡ true → kept ≡ filter p (range_with_len 0 n)
    → longer ≡ kept ++ label ∷ [] → longer ≡ filter p (range_with_len 0 (n + 1))
number_passes p n label kept longer same passes so_far grown =
    let one : filter p (n ∷ []) ≡ n ∷ [] = let here : p n ≡ true = ap p (sym same) ∙ passes in rw here in
    grown ∙ ap (λ xs. xs ++ label ∷ []) so_far ∙ ap (λ x. filter p (range_with_len 0 n) ++ x ∷ []) same
    ∙ ap (λ xs. filter p (range_with_len 0 n) ++ xs) (sym one) ∙ sym (filter_more p n)

pub number_fails : (p : ℕ → Bool) (n label : ℕ) (kept : List ℕ) → label ≡ n → p label ≡ false → kept ≡ filter p (range_with_len 0 n)
    → kept ≡ filter p (range_with_len 0 (n + 1))
number_fails p n label kept same fails so_far =
    let one : filter p (n ∷ []) ≡ [] = let here : p n ≡ false = ap p (sym same) ∙ fails in rw here in
    so_far ∙ sym (append-nil (filter p (range_with_len 0 n)))
    ∙ ap (λ xs. filter p (range_with_len 0 n) ++ xs) (sym one) ∙ sym (filter_more p n)

-- a value that passes is kept, and one that doesn't isn't

pub item_passes : {X Y : Type 0} (g : X → Y) (p : X → Bool) (xs : List X) (i : ℕ) (x : X) (kept longer : List Y) → i < length xs
    → x ≡ get_or xs i x → p x ≡ true → kept ≡ map g (filter p (take i xs)) → longer ≡ kept ++ g x ∷ []
    → longer ≡ map g (filter p (take (i + 1) xs))
item_passes g p xs i x kept longer within is passes so_far grown =
    let one : filter p (x ∷ []) ≡ x ∷ [] = rw passes in
    let more : take (i + 1) xs ≡ take i xs ++ x ∷ [] = take_more xs i x within ∙ ap (λ y. take i xs ++ y ∷ []) (sym is) in
    grown ∙ ap (λ ys. ys ++ g x ∷ []) so_far ∙ ap (λ ys. map g (filter p (take i xs)) ++ map g ys) (sym one)
    ∙ sym (map-append g (filter p (take i xs)) (filter p (x ∷ [])))
    ∙ ap (map g) (sym (filter-append p (take i xs) (x ∷ []))) ∙ ap (λ ys. map g (filter p ys)) (sym more)

pub item_fails : {X Y : Type 0} (g : X → Y) (p : X → Bool) (xs : List X) (i : ℕ) (x : X) (kept : List Y) → i < length xs
    → x ≡ get_or xs i x → p x ≡ false → kept ≡ map g (filter p (take i xs)) → kept ≡ map g (filter p (take (i + 1) xs))
item_fails g p xs i x kept within is fails so_far =
    let none : filter p (x ∷ []) ≡ [] = rw fails in
    let more : take (i + 1) xs ≡ take i xs ++ x ∷ [] = take_more xs i x within ∙ ap (λ y. take i xs ++ y ∷ []) (sym is) in
    so_far ∙ sym (append-nil (map g (filter p (take i xs)))) ∙ ap (λ ys. map g (filter p (take i xs)) ++ map g ys) (sym none)
    ∙ sym (map-append g (filter p (take i xs)) (filter p (x ∷ [])))
    ∙ ap (map g) (sym (filter-append p (take i xs) (x ∷ []))) ∙ ap (λ ys. map g (filter p ys)) (sym more)

pub kept_more : {X : Type 0} (p : X → Bool) (xs : List X) (i : ℕ) (x : X) (kept longer : List X) → i < length xs → x ≡ get_or xs i x
    → p x ≡ true → kept ≡ filter p (take i xs) → longer ≡ kept ++ x ∷ [] → longer ≡ filter p (take (i + 1) xs)
kept_more p xs i x kept longer within is passes so_far grown =
    item_passes (λ y. y) p xs i x kept longer within is passes (so_far ∙ sym (map-id (filter p (take i xs)))) grown
    ∙ map-id (filter p (take (i + 1) xs))

pub kept_same : {X : Type 0} (p : X → Bool) (xs : List X) (i : ℕ) (x : X) (kept : List X) → i < length xs → x ≡ get_or xs i x
    → p x ≡ false → kept ≡ filter p (take i xs) → kept ≡ filter p (take (i + 1) xs)
kept_same p xs i x kept within is fails so_far =
    item_fails (λ y. y) p xs i x kept within is fails (so_far ∙ sym (map-id (filter p (take i xs)))) ∙ map-id (filter p (take (i + 1) xs))
