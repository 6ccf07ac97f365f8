-- How the text of a value, and the number of a reference, go on by one byte.
use Rattle.std.proofs.Common.{[], ℕ, ◌++◌, ◌+◌, ◌<◌, ◌==◌, ◌∷◌, ◌≡◌, ◌≤◌, List, None, Some, add-one, drop, drop-cons, false}
use Rattle.{std.proofs.{Common.{get_or, length, refl, true}, lemmas.List.drop_all}, xml.specs.Value.{character_of, text_of}}

-- a byte that stands for itself
pub plain_byte : (text bytes : List ℕ) (i : ℕ) → i < length bytes → (get_or bytes i 0 == 38) ≡ false
    → text_of text None (drop i bytes) ≡ text_of (text ++ get_or bytes i 0 ∷ []) None (drop (i + 1) bytes)
unfolding text_of
plain_byte text bytes i below plain =
    let first : drop i bytes ≡ get_or bytes i 0 ∷ drop (i + 1) bytes = rw add-one (drop-cons bytes i 0 below) in
    rw first (rw plain refl)

-- `&`, where a reference begins
pub reference_begins : (text bytes : List ℕ) (i : ℕ) → i < length bytes → (get_or bytes i 0 == 38) ≡ true
    → text_of text None (drop i bytes) ≡ text_of text (Some []) (drop (i + 1) bytes)
unfolding text_of
reference_begins text bytes i below begins =
    let first : drop i bytes ≡ get_or bytes i 0 ∷ drop (i + 1) bytes = rw add-one (drop-cons bytes i 0 below) in
    rw first (rw begins refl)

-- a byte of the name of a reference
pub name_byte : (text name bytes : List ℕ) (i : ℕ) → i < length bytes → (get_or bytes i 0 == 59) ≡ false
    → text_of text (Some name) (drop i bytes) ≡ text_of text (Some (name ++ get_or bytes i 0 ∷ [])) (drop (i + 1) bytes)
unfolding text_of
name_byte text name bytes i below more =
    let first : drop i bytes ≡ get_or bytes i 0 ∷ drop (i + 1) bytes = rw add-one (drop-cons bytes i 0 below) in
    rw first (rw more refl)

-- `;`, where a reference ends that names a character
pub reference_ends : (text name bytes : List ℕ) (i character : ℕ) → i < length bytes → (get_or bytes i 0 == 59) ≡ true
    → character_of name ≡ Some character
    → text_of text (Some name) (drop i bytes) ≡ text_of (text ++ character ∷ []) None (drop (i + 1) bytes)
unfolding text_of
reference_ends text name bytes i character below ends known =
    let first : drop i bytes ≡ get_or bytes i 0 ∷ drop (i + 1) bytes = rw add-one (drop-cons bytes i 0 below) in
    rw first (rw (ends, known) refl)

-- `;`, where a reference ends that names none
pub reference_unknown : (text name bytes : List ℕ) (i : ℕ) → i < length bytes → (get_or bytes i 0 == 59) ≡ true
    → character_of name ≡ None → text_of text (Some name) (drop i bytes) ≡ None
unfolding text_of
reference_unknown text name bytes i below ends unknown =
    let first : drop i bytes ≡ get_or bytes i 0 ∷ drop (i + 1) bytes = rw add-one (drop-cons bytes i 0 below) in
    rw first (rw (ends, unknown) refl)

-- no byte is left, and no reference is being read
pub text_ends : (text bytes : List ℕ) (i : ℕ) → length bytes ≤ i → text_of text None (drop i bytes) ≡ Some text
unfolding text_of
text_ends text bytes i past = let none : drop i bytes ≡ [] = drop_all i bytes past in rw none refl

-- no byte is left, and a reference isn't ended
pub reference_cut : (text name bytes : List ℕ) (i : ℕ) → length bytes ≤ i → text_of text (Some name) (drop i bytes) ≡ None
unfolding text_of
reference_cut text name bytes i past = let none : drop i bytes ≡ [] = drop_all i bytes past in rw none refl
