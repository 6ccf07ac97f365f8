-- Equality of lists, by a test of their members.
use Rattle.std.proofs.Common.{[], ◌&&◌, ◌∷◌, ◌≡◌, Bool, IsTrue, List, false, refl, subst, true}
use lib.Pointwise.{pointwise}
use mathlib.Core.Bool.{false≢true}

both_true : (a b : Bool) → IsTrue (a && b) → IsTrue a × IsTrue b
both_true true b h = (refl, h)
both_true false b h = absurd (false≢true h)

and_true : (a b : Bool) → IsTrue a → IsTrue b → IsTrue (a && b)
and_true true b g h = h
and_true false b g h = absurd (false≢true g)

abbrev pub Tells : {X : Type 0} → (X → X → Bool) → Type 0
Tells {X} E = (a b : X) → (IsTrue (E a b) → a ≡ b) × (a ≡ b → IsTrue (E a b))

pub same_by_members :
    {X : Type 0} (E : X → X → Bool) → Tells E → (xs ys : List X) → IsTrue (pointwise E xs ys) → xs ≡ ys
same_by_members E tells [] [] h = refl
same_by_members E tells [] (y ∷ ys) h = absurd (false≢true h)
same_by_members E tells (x ∷ xs) [] h = absurd (false≢true h)
same_by_members E tells (x ∷ xs) (y ∷ ys) h =
    let both : IsTrue (E x y) × IsTrue (pointwise E xs ys) = both_true (E x y) (pointwise E xs ys) h in
    let first : x ≡ y = (tells x y).0 both.0 in
    let rest : xs ≡ ys = same_by_members E tells xs ys both.1 in
    cc

itself : {X : Type 0} (E : X → X → Bool) → Tells E → (xs : List X) → IsTrue (pointwise E xs xs)
itself E tells [] = refl
itself E tells (x ∷ xs) = and_true (E x x) (pointwise E xs xs) ((tells x x).1 refl) (itself E tells xs)

pub members_same :
    {X : Type 0} (E : X → X → Bool) → Tells E → (xs ys : List X) → xs ≡ ys → IsTrue (pointwise E xs ys)
members_same {X} E tells xs ys same = subst (λ (zs : List X). IsTrue (pointwise E xs zs)) same (itself E tells xs)
