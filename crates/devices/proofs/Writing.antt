-- Bytes that are written in several calls.
use Rattle.std.{specs.Io.KnownBytes.{Appends, Keeps}, proofs.Common.{ℕ, ◌+◌, ◌-◌, ◌≤◌, List, Option, arith, drop}}
use Rattle.std.proofs.{Common.{length, length-drop, subst, sym, take, take_all}, KnownBytes.{Appends-kept, Appends-trans}}
use Rattle.{std.proofs.{Math.Seq.take-add, lemmas.List.take_rest}, devices.specs.Devices.AppendsBeginning}

-- after the first `written` bytes, a call took the next `n` of them
pub more : (a b c : Option (List ℕ)) (bytes : List ℕ) (written n : ℕ) → written ≤ length bytes → Appends a b (take written bytes)
    → n ≤ length (take (length bytes - written) (drop written bytes))
    → Appends b c (take n (take (length bytes - written) (drop written bytes)))
    → Appends a c (take (written + n) bytes) × (written + n ≤ length bytes)
more a b c bytes written n fits first bound next =
    let whole = take_rest bytes written in
    let small : n ≤ length (drop written bytes) = subst (λ rest. n ≤ length rest) whole bound in
    let after : Appends b c (take n (drop written bytes)) = subst (λ rest. Appends b c (take n rest)) whole next in
    let both = Appends-trans a b c _ _ first after in
    (subst (Appends a c) (sym (take-add written n bytes)) both, grind (arith, length-drop))

-- the two parts of `more`
pub more_written : (a b c : Option (List ℕ)) (bytes : List ℕ) (written n : ℕ) → written ≤ length bytes → Appends a b (take written bytes)
    → n ≤ length (take (length bytes - written) (drop written bytes))
    → Appends b c (take n (take (length bytes - written) (drop written bytes)))
    → Appends a c (take (written + n) bytes)
more_written a b c bytes written n fits first bound next = (more a b c bytes written n fits first bound next).0

pub more_fits : (bytes : List ℕ) (written n : ℕ) → written ≤ length bytes
    → n ≤ length (take (length bytes - written) (drop written bytes)) → written + n ≤ length bytes
more_fits bytes written n fits bound =
    let small : n ≤ length (drop written bytes) = subst (λ rest. n ≤ length rest) (take_rest bytes written) bound in
    grind (arith, length-drop)

-- a beginning was written
pub some_written : (a b c : Option (List ℕ)) (bytes : List ℕ) (written : ℕ) → Appends a b (take written bytes) → Keeps b c
    → AppendsBeginning a c bytes
some_written a b c bytes written first kept = (written, Appends-kept a b c (take written bytes) first kept)

-- all was written
pub all_written : (a b c : Option (List ℕ)) (bytes : List ℕ) (written : ℕ) → Appends a b (take written bytes) → length bytes ≤ written → Keeps b c
    → Appends a c bytes
all_written a b c bytes written first whole kept =
    subst (Appends a c) (take_all written bytes whole) (Appends-kept a b c (take written bytes) first kept)
