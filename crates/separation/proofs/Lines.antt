-- Lists that grow by one part after another: lines of claims, and what is seen of rows of numbers.
use Rattle.std.{specs.List.range_with_len, proofs.Common.{[], ℕ, ◌++◌, ◌+◌, ◌<◌, ◌∙◌, ◌∷◌, ◌≡◌, List, add-one, ap, arith, get_or, length}}
use Rattle.std.proofs.{Common.{map, refl, suc, sym, take, zero}, Math.Seq.take-suc, lemmas.List.flat_map_more}
use Rattle.separation.specs.{declared.claims.Pair.Pair, Claims.{claim_line, lines_of}}

pub line_more : (names : List (List ℕ)) (pairs : List Pair) (i : ℕ) (d : Pair) (before text longer : List ℕ) → i < length pairs
    → text ≡ before ++ lines_of names (take i pairs) → longer ≡ text ++ claim_line names (get_or pairs i d)
    → longer ≡ before ++ lines_of names (take (i + 1) pairs)
line_more names pairs i d before text longer within so_far grown =
    grown
    ∙ ap (λ bytes. bytes ++ claim_line names (get_or pairs i d)) so_far
    ∙ flat_map_more (claim_line names) before (take i pairs) (get_or pairs i d)
    ∙ ap (λ few. before ++ lines_of names few) (sym (rw add-one (take-suc pairs i d within)))

range_more : (a n : ℕ) → range_with_len a (suc n) ≡ range_with_len a n ++ (a + n) ∷ []
range_more a zero = ap (λ k. k ∷ []) (let same : a ≡ a + 0 = omega arith in same)
range_more a (suc n) =
    let same : a + 1 + n ≡ a + suc n = omega arith in
    ap (λ xs. a ∷ xs) (range_more (a + 1) n ∙ ap (λ k. range_with_len (a + 1) n ++ k ∷ []) same)

map_end : {X : Type 0} (f : ℕ → X) (xs : List ℕ) (x : ℕ) → map f (xs ++ x ∷ []) ≡ map f xs ++ f x ∷ []
map_end f [] x = refl
map_end f (y ∷ xs) x = ap (λ ys. f y ∷ ys) (map_end f xs x)

-- what is seen of a row of numbers, with one number more
pub shown_more : {X : Type 0} (f : ℕ → X) (n : ℕ) → map f (range_with_len 0 (n + 1)) ≡ map f (range_with_len 0 n) ++ f n ∷ []
shown_more f n =
    let same : 0 + n ≡ n = omega arith in
    rw add-one (ap (map f) (range_more 0 n ∙ ap (λ k. range_with_len 0 n ++ k ∷ []) same) ∙ map_end f (range_with_len 0 n) n)
