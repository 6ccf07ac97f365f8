-- That a word spells a value exactly if it is the value's word: for decimal and hexadecimal numbers, and for names.
use Rattle.std.{specs.{Char.is_ascii_digit, Fmt.decimal, List.list_all}, proofs.Common.{[], ℕ, ◌<◌, ◌^◌, ◌↔◌, ◌∙◌, ◌∷◌, ◌≡◌, ◌≢◌, List}}
use Rattle.std.proofs.{Common.{None, Some, ap, arith, get_or, length, refl, subst, sym, true}, lemmas.Bool.{and_parts, cond-true}}
use Rattle.std.proofs.lemmas.{Fmt.{decimal_nonempty, digits_decimal}, Option.{cond_some, none-some}}
use Rattle.words.{specs.{Name.{is_name, name_of}, Number.{dec_of, hex_of, hexadecimal}}, proofs.Decimals.{dec_again, dec_takes, own}}
use Rattle.words.proofs.Hexadecimals.{hex_again, hex_takes}

-- decimal words

pub decimal_iff : (word : List ℕ) (n : ℕ) → (dec_of word ≡ Some n) ↔ ((word ≡ decimal n) × (n < 2 ^ 64))
decimal_iff word n = (dec_takes word n, λ h. ap (λ w. dec_of w) h.0 ∙ dec_again n h.1)

pub decimal_word : (one other : List ℕ) (n : ℕ) → dec_of one ≡ Some n → dec_of other ≡ Some n → one ≡ other
decimal_word one other n is_one is_other = (dec_takes one n is_one).0 ∙ sym (dec_takes other n is_other).0

-- hexadecimal words

pub hexadecimal_iff : (word : List ℕ) (n : ℕ) → (hex_of word ≡ Some n) ↔ ((word ≡ hexadecimal n) × (n < 2 ^ 64))
hexadecimal_iff word n = (hex_takes word n, λ h. ap (λ w. hex_of w) h.0 ∙ hex_again n h.1)

pub hexadecimal_word : (one other : List ℕ) (n : ℕ) → hex_of one ≡ Some n → hex_of other ≡ Some n → one ≡ other
hexadecimal_word one other n is_one is_other = (hex_takes one n is_one).0 ∙ sym (hex_takes other n is_other).0

pub hexadecimal_once : (one other : ℕ) → one < 2 ^ 64 → other < 2 ^ 64 → hexadecimal one ≡ hexadecimal other → one ≡ other
hexadecimal_once one other small_one small_other same =
    let both : Some one ≡ Some other = sym (hex_again one small_one) ∙ ap (λ w. hex_of w) same ∙ hex_again other small_other in cc

-- a hexadecimal word begins with `0x`, so it is no decimal word
pub hexadecimal_no_decimal : (n : ℕ) → dec_of (hexadecimal n) ≡ None
unfolding dec_of
hexadecimal_no_decimal n = refl

pub apart : (one other : ℕ) → one < 2 ^ 64 → decimal one ≢ hexadecimal other
apart one other small same =
    none-some one (sym (hexadecimal_no_decimal other) ∙ ap (λ w. dec_of w) (sym same) ∙ dec_again one small)

-- digits begin with a digit
first_digit : (ds : List ℕ) → 0 < length ds → list_all is_ascii_digit ds ≡ true → is_ascii_digit (get_or ds 0 0) ≡ true
first_digit [] full all = absurd (omega arith)
first_digit (d ∷ ds) full all = (and_parts _ _ all).0

pub decimal_first : (n : ℕ) → n < 2 ^ 64 → is_ascii_digit (get_or (decimal n) 0 0) ≡ true
decimal_first n small = first_digit (decimal n) (decimal_nonempty n small) (digits_decimal own n small)

pub hexadecimal_first : (n : ℕ) → is_ascii_digit (get_or (hexadecimal n) 0 0) ≡ true
hexadecimal_first n = refl

-- names

pub name_iff : (word name : List ℕ) → (name_of word ≡ Some name) ↔ ((word ≡ name) × (is_name name ≡ true))
unfolding name_of
name_iff word name = (
  λ h. let is = cond_some _ _ _ h in (is.1, subst (λ w. is_name w ≡ true) is.1 is.0),
  λ h. cond-true _ _ _ (subst (λ w. is_name w ≡ true) (sym h.0) h.1) ∙ ap (λ w. Some w) h.0,
)
