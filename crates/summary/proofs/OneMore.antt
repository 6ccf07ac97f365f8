-- Texts and rows with one piece more.
use Rattle.std.{specs.{List.{flat_map, range_with_len}, Prelude.All}, proofs.Common.{[], ℕ, ◌++◌, ◌+◌, ◌<◌, ◌∙◌, ◌∷◌, ◌≡◌, List, ap, arith, get_or}}
use Rattle.std.proofs.Common.{length, map, subst, sym, take}
use Rattle.std.proofs.lemmas.List.{flat_map_more, map-append, map-id, take_more, Elements.All-push, FromFn.map-range_with_len_more}

-- one text more, for the next of some values
pub piece_more : {X : Type 0} (f : X → List ℕ) (xs : List X) (i : ℕ) (d : X) (before text longer : List ℕ) → i < length xs
    → text ≡ before ++ flat_map f (take i xs) → longer ≡ text ++ f (get_or xs i d) → longer ≡ before ++ flat_map f (take (i + 1) xs)
piece_more f xs i d before text longer within so_far grown =
    grown
    ∙ ap (λ bytes. bytes ++ f (get_or xs i d)) so_far
    ∙ flat_map_more f before (take i xs) (get_or xs i d)
    ∙ ap (λ front. before ++ flat_map f front) (sym (take_more xs i d within))

pub range_more : (n : ℕ) → range_with_len 0 (n + 1) ≡ range_with_len 0 n ++ n ∷ []
range_more n =
    sym (map-id (range_with_len 0 (n + 1)))
    ∙ map-range_with_len_more (λ (k : ℕ). k) 0 n n (omega arith)
    ∙ ap (λ front. front ++ n ∷ []) (map-id (range_with_len 0 n))

-- one text more, for the next number
pub number_more : (f : ℕ → List ℕ) (n : ℕ) (before text longer : List ℕ) → text ≡ before ++ flat_map f (range_with_len 0 n)
    → longer ≡ text ++ f n → longer ≡ before ++ flat_map f (range_with_len 0 (n + 1))
number_more f n before text longer so_far grown =
    grown
    ∙ ap (λ bytes. bytes ++ f n) so_far
    ∙ flat_map_more f before (range_with_len 0 n) n
    ∙ ap (λ front. before ++ flat_map f front) (sym (range_more n))

from_one_more : (i : ℕ) → range_with_len 1 (i + 1) ≡ range_with_len 1 i ++ (i + 1) ∷ []
from_one_more i =
    sym (map-id (range_with_len 1 (i + 1)))
    ∙ map-range_with_len_more (λ (k : ℕ). k) 1 i (i + 1) (omega arith)
    ∙ ap (λ front. front ++ (i + 1) ∷ []) (map-id (range_with_len 1 i))

-- one row more, and the list of the rows' numbers or labels

pub labels_more : {R : Type 0} (label_of : R → ℕ) (rows longer : List R) (row : R) (labels : List ℕ) (i label : ℕ) → i < length labels
    → map label_of rows ≡ take i labels → longer ≡ rows ++ row ∷ [] → label_of row ≡ label → label ≡ get_or labels i label
    → map label_of longer ≡ take (i + 1) labels
labels_more label_of rows longer row labels i label within so_far grown same is =
    ap (map label_of) grown ∙ map-append label_of rows (row ∷ []) ∙ ap (λ xs. xs ++ label_of row ∷ []) so_far
    ∙ ap (λ l. take i labels ++ l ∷ []) (same ∙ is) ∙ sym (take_more labels i label within)

pub numbers_more : {R : Type 0} (number_of : R → ℕ) (rows longer : List R) (row : R) (i : ℕ) → map number_of rows ≡ range_with_len 1 i
    → longer ≡ rows ++ row ∷ [] → number_of row ≡ i + 1 → map number_of longer ≡ range_with_len 1 (i + 1)
numbers_more number_of rows longer row i so_far grown is =
    ap (map number_of) grown ∙ map-append number_of rows (row ∷ []) ∙ ap (λ xs. xs ++ number_of row ∷ []) so_far
    ∙ ap (λ n. range_with_len 1 i ++ n ∷ []) is ∙ sym (from_one_more i)

pub each_more : {R : Type 0} (P : R → Type 0) (rows longer : List R) (row : R) → All P rows → longer ≡ rows ++ row ∷ [] → P row → All P longer
each_more P rows longer row so_far grown here = subst (All P) (sym grown) (All-push P rows row so_far here)
