-- That bytes are text if all of them pass a test that only ASCII bytes pass.
use Rattle.std.{specs.{List.list_all, Str.{IsAscii, IsUtf8}}, proofs.Common.{[], ℕ, ◌<◌, ◌∷◌, ◌≡◌, Bool, List, lit<, suc, true, zero}}
use Rattle.std.proofs.lemmas.{Bool.and_parts, Str.IsUtf8-from_ascii}

IsAscii-from_test : (p : ℕ → Bool) → ((b : ℕ) → p b ≡ true → b < 128) → (bs : List ℕ) → list_all p bs ≡ true → IsAscii bs
IsAscii-from_test p low [] h i = lit< tt
IsAscii-from_test p low (b ∷ bs) h zero = low b (and_parts _ _ h).0
IsAscii-from_test p low (b ∷ bs) h (suc i) = IsAscii-from_test p low bs (and_parts _ _ h).1 i

pub IsUtf8-from_test : (p : ℕ → Bool) → ((b : ℕ) → p b ≡ true → b < 128) → (bs : List ℕ) → list_all p bs ≡ true → IsUtf8 bs
IsUtf8-from_test p low bs h = IsUtf8-from_ascii bs (IsAscii-from_test p low bs h)
