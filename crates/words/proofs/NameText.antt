-- That a name is text.
use Rattle.std.{specs.Str.IsUtf8, proofs.{Common.{ℕ, ◌<◌, ◌≡◌, List, arith, true}, lemmas.Bool.{and_parts, Decides.nat_tests}}}
use Rattle.words.{specs.Name.{is_name, is_name_byte}, proofs.Ascii.IsUtf8-from_test}

name_byte_is_ascii : (b : ℕ) → is_name_byte b ≡ true → b < 128
name_byte_is_ascii b h = grind (arith, nat_tests)

pub name_is_text : (word : List ℕ) → is_name word ≡ true → IsUtf8 word
name_is_text word h = IsUtf8-from_test is_name_byte name_byte_is_ascii word (and_parts _ _ h).1
