use Rattle.std.{specs.Str.bytes_eq, proofs.{Common.{ℕ, ◌<◌, ◌≡◌, List, get_or, length, sym, true}, lemmas.Grind.same_number_lists}}
use Rattle.std.proofs.lemmas.Slice.Eq.{bytes_eq-Decides}

pub same_by_bytes :
    (a b : List ℕ) → length a ≡ length b → ((k : ℕ) → k < length a → get_or a k 0 ≡ get_or b k 0) → true ≡ bytes_eq a b
same_by_bytes a b lengths bytes = sym ((bytes_eq-Decides a b).1 (same_number_lists a b lengths bytes))
