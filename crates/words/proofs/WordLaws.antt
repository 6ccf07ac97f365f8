-- The words of a line that was read, and that spelled words are plain.
use Rattle.std.{specs.{Char.is_ascii_digit, Fmt.decimal, List.{AllByRecursion, list_all}}, proofs.Common.{[], ℕ, ◌++◌, ◌<◌, ◌^◌, ◌∷◌, ◌≡◌}}
use Rattle.std.proofs.{Common.{Bool, Err, List, Ok, Result, arith, codes, lit<, map, nat_lt, refl, true}, lemmas.Bool.and_parts}
use Rattle.std.proofs.lemmas.{Bool.Decides.{Decides-ltb, nat_tests}, Fmt.digits_decimal}
use Rattle.words.specs.{declared.faults.Wrong.Wrong, Name.{is_name, is_name_byte}, Number.{hexadecimal, is_hex_digit}, Reading.bind}
use Rattle.words.{specs.{Reading.{ended_at, last_line, word_at}, Text.{IsPlainLine, IsPlainWord}}, proofs.Decimals.own}
use Rattle.words.proofs.HexLaws.{is_hexadecimal-digits}

-- a sequence of two readers that gave a value: the first gave one, and the second the result
pub bind_ok : {E X Y : Type 0} (r : Result X E) (f : X → Result Y E) (y : Y) → bind r f ≡ Ok y
    → (x : X) × (r ≡ Ok x) × (f x ≡ Ok y)
unfolding bind
bind_ok (Ok x) f y h = (x, refl, h)
bind_ok (Err e) f y h = cc

-- a word was read, and reading went on with the words after it
pub record ReadsWord {Y : Type 0} (f : List ℕ × List (List ℕ) → Result Y Wrong) (words : List (List ℕ)) (y : Y) : Type 0 where
  pub word : List ℕ
  pub rest : List (List ℕ)
  pub words_are : words ≡ word ∷ rest
  pub goes_on : f (word, rest) ≡ Ok y

pub word_then : {Y : Type 0} (f : List ℕ × List (List ℕ) → Result Y Wrong) (words : List (List ℕ)) (y : Y)
    → bind (word_at words) f ≡ Ok y → ReadsWord f words y
unfolding bind word_at
word_then f [] y h = cc
word_then f (word ∷ rest) y h = record { word = word; rest = rest; words_are = refl; goes_on = h }

-- no word was left
pub ended_then : {Y : Type 0} (f : Unit {0} → Result Y Wrong) (words : List (List ℕ)) (y : Y) → bind (ended_at words) f ≡ Ok y
    → (words ≡ []) × (f tt ≡ Ok y)
unfolding bind ended_at
ended_then f [] y h = (refl, h)
ended_then f (word ∷ rest) y h = cc

-- spelled bytes are plain
plain_from_test : (p : ℕ → Bool) → ((b : ℕ) → p b ≡ true → 32 < b) → (bs : List ℕ) → list_all p bs ≡ true → IsPlainWord bs
plain_from_test p high [] h = tt
plain_from_test p high (b ∷ bs) h = let test = and_parts _ _ h in (high b test.0, plain_from_test p high bs test.1)

digit_above : (b : ℕ) → is_ascii_digit b ≡ true → 32 < b
digit_above b h = grind (arith, nat_tests)

hex_digit_above : (b : ℕ) → is_hex_digit b ≡ true → 32 < b
hex_digit_above b h = grind (arith, nat_tests)

name_byte_above : (b : ℕ) → is_name_byte b ≡ true → 32 < b
name_byte_above b h = grind (arith, nat_tests)

pub plain_decimal : (n : ℕ) → n < 2 ^ 64 → IsPlainWord (decimal n)
plain_decimal n small = plain_from_test is_ascii_digit digit_above _ (digits_decimal own n small)

pub plain_hexadecimal : (n : ℕ) → n < 2 ^ 64 → IsPlainWord (hexadecimal n)
plain_hexadecimal n small =
    (lit< tt, (lit< tt, plain_from_test is_hex_digit hex_digit_above _ (and_parts _ _ (is_hexadecimal-digits n small)).1))

pub plain_name : (word : List ℕ) → is_name word ≡ true → IsPlainWord word
plain_name word h = plain_from_test is_name_byte name_byte_above word (and_parts _ _ h).1

pub plain_bytes : (bytes : List ℕ) → list_all (λ b. nat_lt 32 b) bytes ≡ true → IsPlainWord bytes
plain_bytes bytes h = plain_from_test (λ b. nat_lt 32 b) (λ b. (Decides-ltb 32 b).0) bytes h

-- the lines of values with plain lines are plain, with `end` after them
pub plain_lines : {X : Type 0} (P : X → Type 0) (f : X → List (List ℕ)) → ((x : X) → P x → IsPlainLine (f x)) → (xs : List X)
    → AllByRecursion P xs → AllByRecursion IsPlainLine (map f xs ++ last_line ∷ [])
plain_lines P f plain [] all = ((plain_bytes (codes "end") refl, tt), tt)
plain_lines P f plain (x ∷ xs) all = (plain x all.0, plain_lines P f plain xs all.1)
