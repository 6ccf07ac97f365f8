-- How the count of the bytes of a comment goes on by one byte, or ends.
use Rattle.std.proofs.Common.{ℕ, ◌+◌, ◌-◌, ◌<◌, ◌∷◌, ◌≡◌, ◌≤◌, List, add-one, drop, drop-cons, false, get_or, length, refl, take, true}
use Rattle.{std.proofs.lemmas.List.{drop_all, take_rest}, xml.specs.Characters.{comment_length, in_comment}}

-- a byte of a comment, and those behind it
pub comment_more : (bytes : List ℕ) (i : ℕ) → i < length bytes → in_comment (take (length bytes - i) (drop i bytes)) ≡ true
    → comment_length (drop i bytes) ≡ 1 + comment_length (drop (i + 1) bytes)
unfolding comment_length
comment_more bytes i below goes =
    let first : drop i bytes ≡ get_or bytes i 0 ∷ drop (i + 1) bytes = rw add-one (drop-cons bytes i 0 below) in
    let goes : in_comment (get_or bytes i 0 ∷ drop (i + 1) bytes) ≡ true = rw (take_rest, first) at goes in
    rw first (rw goes refl)

-- a byte behind a comment
pub comment_ends : (bytes : List ℕ) (i : ℕ) → i < length bytes → in_comment (take (length bytes - i) (drop i bytes)) ≡ false
    → comment_length (drop i bytes) ≡ 0
unfolding comment_length
comment_ends bytes i below stops =
    let first : drop i bytes ≡ get_or bytes i 0 ∷ drop (i + 1) bytes = rw add-one (drop-cons bytes i 0 below) in
    let stops : in_comment (get_or bytes i 0 ∷ drop (i + 1) bytes) ≡ false = rw (take_rest, first) at stops in
    rw first (rw stops refl)

-- no byte is left
pub comment_past : (bytes : List ℕ) (i : ℕ) → length bytes ≤ i → comment_length (drop i bytes) ≡ 0
unfolding comment_length
comment_past bytes i past = rw drop_all refl
