-- Lines that are written at the end of a text, word by word.
use Rattle.std.proofs.Common.{[], ℕ, ◌++◌, ◌+◌, ◌<◌, ◌∙◌, ◌∷◌, ◌≡◌, ◌≤◌, List, ap, append_assoc, codes, get_or, length}
use Rattle.std.proofs.{Common.{map, refl, sym, take}, lemmas.List.{Sums.fold-append, flat_map_more, map_more, take_all}}
use Rattle.{words.specs.{Reading.{last_line, list_text}, Text.{line_text, text_of}}, evtext.specs.Written.{spelled, written}}

-- words are written after a first one as they are spelled with it
written-spelled : (text word : List ℕ) (words : List (List ℕ)) → written (text ++ word) words ≡ text ++ spelled (word ∷ words)
written-spelled text word [] = refl
written-spelled text word (next ∷ words) =
    let spaced : List ℕ = text ++ (word ++ 32 ∷ []) in
    ap (λ so_far. written so_far words)
    (append_assoc text word (32 ∷ next) ∙ ap (λ rest. text ++ rest) (sym (append_assoc word (32 ∷ []) next))
    ∙ sym (append_assoc text (word ++ 32 ∷ []) next))
    ∙ written-spelled spaced next words ∙ append_assoc text (word ++ 32 ∷ []) (spelled (next ∷ words))
    ∙ ap (λ rest. text ++ rest) (append_assoc word (32 ∷ []) (spelled (next ∷ words)))

-- and a line feed ends the line
pub line_written : (text word : List ℕ) (words : List (List ℕ))
    → written (text ++ word) words ++ 10 ∷ [] ≡ text ++ line_text (word ∷ words)
line_written text word words =
    ap (λ bytes. bytes ++ 10 ∷ []) (written-spelled text word words) ∙ append_assoc text (spelled (word ∷ words)) (10 ∷ [])

-- one word more, for the next of some values
pub words_more : {X : Type 0} (word : X → List ℕ) (xs : List X) (i : ℕ) (d : X) (before text longer : List ℕ) → i < length xs
    → text ≡ written before (map word (take i xs)) → longer ≡ text ++ 32 ∷ word (get_or xs i d)
    → longer ≡ written before (map word (take (i + 1) xs))
words_more word xs i d before text longer within so_far grown =
    grown
    ∙ ap (λ bytes. bytes ++ 32 ∷ word (get_or xs i d)) so_far
    ∙ sym (fold-append (λ bytes word. bytes ++ 32 ∷ word) before (map word (take i xs)) (word (get_or xs i d) ∷ []))
    ∙ ap (λ words. written before words) (sym (map_more word xs i d within))

-- one line more
pub lines_more : {X : Type 0} (header : List (List ℕ)) (line : X → List (List ℕ)) (xs : List X) (i : ℕ) (x : X) (text longer : List ℕ)
    → i < length xs → x ≡ get_or xs i x → text ≡ text_of (header ∷ map line (take i xs)) → longer ≡ text ++ line_text (line x)
    → longer ≡ text_of (header ∷ map line (take (i + 1) xs))
lines_more header line xs i x text longer within is so_far grown =
    grown
    ∙ ap (λ value. text ++ line_text (line value)) is
    ∙ ap (λ bytes. bytes ++ line_text (line (get_or xs i x))) so_far
    ∙ flat_map_more line_text (line_text header) (map line (take i xs)) (line (get_or xs i x))
    ∙ ap (λ lines. text_of (header ∷ lines)) (sym (map_more line xs i x within))

-- the last line ends the lines of all values
pub lines_all : {X : Type 0} (header : List (List ℕ)) (line : X → List (List ℕ)) (xs : List X) (i : ℕ) (text : List ℕ)
    → length xs ≤ i → text ≡ text_of (header ∷ map line (take i xs)) → text ++ codes "end\n" ≡ list_text header line xs
lines_all header line xs i text past so_far =
    ap (λ bytes. bytes ++ codes "end\n") so_far
    ∙ ap (λ values. text_of (header ∷ map line values) ++ codes "end\n") (take_all i xs past)
    ∙ flat_map_more line_text (line_text header) (map line xs) last_line
