-- Bytes that are read in several calls.
use Rattle.std.{specs.Io.KnownBytes.{Consumes, IsAtEnd}, proofs.Common.{[], ℕ, ◌++◌, ◌-◌, ◌∙◌, ◌∷◌, ◌≡◌, IfSome, List, None, Option, Some}}
use Rattle.std.proofs.{Common.{ap, append-nil, arith, refl, subst, sym, take}, KnownBytes.{Consumes-nil, Consumes-trans}}

take_none : (xs : List ℕ) → take 0 xs ≡ []
take_none [] = refl
take_none (x ∷ xs) = refl

-- nothing was read
pub none_read : (a : Option (List ℕ)) (got : List ℕ) → got ≡ [] → Consumes a a got
none_read a got is = subst (Consumes a a) (sym is) (Consumes-nil a)

-- a call gave the first n bytes of a buffer
pub more_read : (a b c : Option (List ℕ)) (got buffer now : List ℕ) (n : ℕ) → Consumes a b got → Consumes b c (take n buffer)
    → now ≡ got ++ take (n - 0) buffer → Consumes a c now
more_read a b c got buffer now n first next is =
    let same : n - 0 ≡ n = omega arith in
    subst (Consumes a c) (sym (is ∙ ap (λ k. got ++ take k buffer) same)) (Consumes-trans a b c got (take n buffer) first next)

-- a call gave no byte, at the end
pub all_read : (a b c : Option (List ℕ)) (got buffer : List ℕ) → Consumes a b got → Consumes b c (take 0 buffer) → IsAtEnd c
    → IfSome a (λ bytes. got ≡ bytes)
all_read None b c got buffer first next end = tt
all_read (Some x) None c got buffer first next end = absurd first
all_read (Some x) (Some y) None got buffer first next end = absurd next
all_read (Some x) (Some y) (Some z) got buffer first next end =
    sym (first ∙ ap (λ l. got ++ l) (next ∙ ap (λ l. l ++ z) (take_none buffer) ∙ end) ∙ append-nil got)
