-- Texts that grow line by line, and what is written where a name is missing.
use Rattle.std.{specs.List.zip, proofs.Common.{[], ℕ, ◌++◌, ◌+◌, ◌<◌, ◌∙◌, ◌∷◌, ◌≡◌, ◌≤◌, List, None, ap, append_assoc, arith}}
use Rattle.std.proofs.{Common.{get_or, length, map, slice_get, sym, take, unwrap_or}, lemmas.{Grind.flat_map-append, List.{flat_map_more, map_more}}}
use Rattle.std.proofs.lemmas.{List.take_all, Option.unwrap_or-slice_get, Slice.Zip.{get_or-zip, length-zip}}
use Rattle.words.specs.Text.{line_text, text_of}

pub nameless : (names : List (List ℕ)) (number : ℕ) → slice_get names number ≡ None → get_or names number [] ≡ []
nameless names number none = sym (unwrap_or-slice_get names number []) ∙ ap (λ name. unwrap_or name []) none

-- a line goes on after its first three words as one whose first word is empty
pub line_begun : (a b c : List ℕ) (words : List (List ℕ))
    → line_text (a ∷ b ∷ c ∷ words) ≡ (a ++ 32 ∷ (b ++ 32 ∷ c)) ++ line_text ([] ∷ words)
line_begun a b c [] = simp append_assoc
line_begun a b c (next ∷ words) = simp append_assoc

-- one line more, for the next of some values
pub line_more : {X : Type 0} (f : X → List (List ℕ)) (xs : List X) (i : ℕ) (d : X) (before text longer : List ℕ) → i < length xs
    → text ≡ before ++ text_of (map f (take i xs)) → longer ≡ text ++ line_text (f (get_or xs i d))
    → longer ≡ before ++ text_of (map f (take (i + 1) xs))
line_more f xs i d before text longer within so_far grown =
    grown
    ∙ ap (λ bytes. bytes ++ line_text (f (get_or xs i d))) so_far
    ∙ flat_map_more line_text before (map f (take i xs)) (f (get_or xs i d))
    ∙ ap (λ lines. before ++ text_of lines) (sym (map_more f xs i d within))

-- values and their names, a line for each

named_length : {X Y : Type 0} (xs : List X) (ys : List Y) → length xs ≡ length ys → length (zip xs ys) ≡ length ys
named_length xs ys each = length-zip xs ys ∙ omega arith

pub named_more : {X Y : Type 0} (f : X × Y → List (List ℕ)) (xs : List X) (ys : List Y) (i : ℕ) (x : X) (y : Y)
    (before text longer : List ℕ) → length xs ≡ length ys → i < length ys → y ≡ get_or ys i y
    → text ≡ before ++ text_of (map f (take i (zip xs ys))) → longer ≡ text ++ line_text (f (get_or xs i x, y))
    → longer ≡ before ++ text_of (map f (take (i + 1) (zip xs ys)))
named_more f xs ys i x y before text longer each within is so_far grown =
    let first : i < length xs = omega arith in
    let pair : (get_or xs i x, y) ≡ get_or (zip xs ys) i (x, y) =
    ap (λ v. (get_or xs i x, v)) is ∙ sym (get_or-zip xs ys i (x, y) first within) in
    line_more f (zip xs ys) i (x, y) before text longer (omega (arith, named_length xs ys each)) so_far
    (grown ∙ ap (λ named. text ++ line_text (f named)) pair)

pub named_all : {X Y : Type 0} (f : X × Y → List (List ℕ)) (xs : List X) (ys : List Y) (i : ℕ) (before text : List ℕ)
    → length xs ≡ length ys → length ys ≤ i → text ≡ before ++ text_of (map f (take i (zip xs ys)))
    → text ≡ before ++ text_of (map f (zip xs ys))
named_all f xs ys i before text each past written =
    written ∙ ap (λ named. before ++ text_of (map f named)) (take_all i (zip xs ys) (omega (arith, named_length xs ys each)))

-- the sections of a table, one after another
pub sections : (before : List ℕ) (a b c d e : List (List (List ℕ)))
    → ((((before ++ text_of a) ++ text_of b) ++ text_of c) ++ text_of d) ++ text_of e ≡ before ++ text_of (a ++ (b ++ (c ++ (d ++ e))))
sections before a b c d e = simp (flat_map-append, append_assoc)
