-- Lists that elements leave in rounds: each that leaves has fallen, and each that stays doesn't fall.
use Rattle.std.{specs.{List.list_any, Prelude.{◌&&◌, ◌||◌, cond, filter}}, proofs.Common.{[], ℕ, ◌<◌, ◌∙◌, ◌∷◌, ◌≡◌, ◌≤◌, ◌⊎◌, Bool, List}}
use Rattle.std.proofs.{Common.{ap, arith, false, inl, inr, length, not, refl, subst, suc, sym, true, zero}, lemmas.Bool.false≢true}
use Rattle.machine.specs.Rounds.{rounds, staying}

pub both_pass : (a b : Bool) → (a && b) ≡ true → (a ≡ true) × (b ≡ true)
both_pass true b e = (refl, e)
both_pass false b e = absurd (false≢true e)

pub not_passes : (b : Bool) → not b ≡ true → b ≡ false
not_passes true e = sym e
not_passes false e = refl

pub or_second : (a b : Bool) → b ≡ true → (a || b) ≡ true
or_second true b e = refl
or_second false b e = e

-- what a scan finds
pub any_found : {A : Type 0} (test : A → Bool) (xs : List A) → list_any test xs ≡ true → (x : A) × (test x ≡ true)
any_found test [] e = absurd (false≢true e)
any_found {A} test (x ∷ xs) e = by_test (test x) refl (any_found test xs) where
  by_test :
      (b : Bool) → test x ≡ b → (list_any test xs ≡ true → (y : A) × (test y ≡ true)) → (y : A) × (test y ≡ true)
  by_test true is later = (x, is)
  by_test false is later = later (sym (ap (λ b. b || list_any test xs) is) ∙ e)

-- a test that passes more finds as much
pub any_weaker :
    {A : Type 0} (test other : A → Bool) (xs : List A) → ((x : A) → test x ≡ true → other x ≡ true) → list_any test xs ≡ true
    → list_any other xs ≡ true
any_weaker test other [] more e = e
any_weaker test other (x ∷ xs) more e = by_test (test x) refl (any_weaker test other xs more) where
  by_test :
      (b : Bool) → test x ≡ b → (list_any test xs ≡ true → list_any other xs ≡ true) → (other x || list_any other xs) ≡ true
  by_test true is later = ap (λ b. b || list_any other xs) (more x is)
  by_test false is later =
      or_second (other x) (list_any other xs) (later (sym (ap (λ b. b || list_any test xs) is) ∙ e))

filter_most : {A : Type 0} (p : A → Bool) (xs : List A) → length (filter p xs) ≤ length xs
filter_most p [] = omega arith
filter_most p (x ∷ xs) = by_test (p x) (filter_most p xs) where
  by_test :
      (b : Bool) → length (filter p xs) ≤ length xs → length (cond b (x ∷ filter p xs) (filter p xs)) ≤ length (x ∷ xs)
  by_test true most = omega arith
  by_test false most = omega arith

filter_all_or_less :
    {A : Type 0} (p : A → Bool) (xs : List A) → (filter p xs ≡ xs) ⊎ (length (filter p xs) < length xs)
filter_all_or_less p [] = inl refl
filter_all_or_less p (x ∷ xs) = by_test (p x) (filter_all_or_less p xs) where
  by_test :
      (b : Bool) → (filter p xs ≡ xs) ⊎ (length (filter p xs) < length xs)
      → (cond b (x ∷ filter p xs) (filter p xs) ≡ x ∷ xs) ⊎ (length (cond b (x ∷ filter p xs) (filter p xs)) < length (x ∷ xs))
  by_test true (inl same) = inl (ap (λ ys. x ∷ ys) same)
  by_test true (inr less) = inr (omega arith)
  by_test false rest = inr (omega (arith, filter_most p xs))

module _ {A : Type 0} (same : A → A → Bool) (one : (a b : A) → same a b ≡ true → a ≡ b) where
  -- each element of a filtered list passes
  pub in_filter : (p : A → Bool) (xs : List A) (x : A) → list_any (same x) (filter p xs) ≡ true → p x ≡ true
  in_filter p [] x e = absurd (false≢true e)
  in_filter p (y ∷ ys) x e = by_test (p y) refl e (in_filter p ys x) where
    by_tie :
        (tie : Bool) → same x y ≡ tie → p y ≡ true → (tie || list_any (same x) (filter p ys)) ≡ true
        → (list_any (same x) (filter p ys) ≡ true → p x ≡ true) → p x ≡ true
    by_tie true is passes there later = ap p (one x y is) ∙ passes
    by_tie false is passes there later = later there

    by_test :
        (b : Bool) → p y ≡ b → list_any (same x) (cond b (y ∷ filter p ys) (filter p ys)) ≡ true
        → (list_any (same x) (filter p ys) ≡ true → p x ≡ true) → p x ≡ true
    by_test true passes there later = by_tie (same x y) refl passes there later
    by_test false fails there later = later there

  -- each element that passes is in the filtered list
  pub into_filter :
      (p : A → Bool) (xs : List A) (x : A) → list_any (same x) xs ≡ true → p x ≡ true → list_any (same x) (filter p xs) ≡ true
  into_filter p [] x e passes = e
  into_filter p (y ∷ ys) x e passes = by_tie (same x y) refl (λ there. into_filter p ys x there passes) where
    by_test :
        (b : Bool) → list_any (same x) (filter p ys) ≡ true
        → list_any (same x) (cond b (y ∷ filter p ys) (filter p ys)) ≡ true
    by_test true found = or_second (same x y) (list_any (same x) (filter p ys)) found
    by_test false found = found

    by_tie :
        (tie : Bool) → same x y ≡ tie → (list_any (same x) ys ≡ true → list_any (same x) (filter p ys) ≡ true)
        → list_any (same x) (cond (p y) (y ∷ filter p ys) (filter p ys)) ≡ true
    by_tie true is later =
        subst (λ b. list_any (same x) (cond b (y ∷ filter p ys) (filter p ys)) ≡ true) (sym passes ∙ ap p (one x y is))
        (ap (λ tie. tie || list_any (same x) (filter p ys)) is)
    by_tie false is later = by_test (p y) (later (sym (ap (λ tie. tie || list_any (same x) ys) is) ∙ e))

  module _ (falls : List A → A → Bool) where
    abbrev next : List A → List A
    next left = filter (λ x. not (falls left x)) left

    -- a list from which nobody falls stays as it is
    still : (n : ℕ) (left : List A) → next left ≡ left → rounds falls n left ≡ left
    unfolding rounds
    still zero left is = refl
    still (suc n) left is = ap (rounds falls n) is ∙ still n left is

    fixed : (n : ℕ) (left : List A) → length left ≤ n → next (rounds falls n left) ≡ rounds falls n left
    unfolding rounds
    fixed zero [] less = refl
    fixed zero (x ∷ xs) less = absurd (omega arith)
    fixed (suc n) left less =
        by_length (filter_all_or_less (λ x. not (falls left x)) left) (λ shorter. fixed n (next left) (omega arith)) where
          by_length :
              (next left ≡ left) ⊎ (length (next left) < length left)
              → (length (next left) < length left → next (rounds falls n (next left)) ≡ rounds falls n (next left))
              → next (rounds falls n (next left)) ≡ rounds falls n (next left)
          by_length (inl is) later =
              let end : rounds falls n (next left) ≡ left = ap (rounds falls n) is ∙ still n left is in ap next end ∙ is ∙ sym end
          by_length (inr shorter) later = later shorter

    module _ (all : List A) where
      -- an element that stays doesn't fall
      pub stays :
          (x : A) → list_any (same x) (staying falls all) ≡ true → falls (staying falls all) x ≡ false
      stays x there =
          not_passes (falls (staying falls all) x)
          (in_filter (λ y. not (falls (staying falls all) y)) (staying falls all) x
          (subst (λ ys. list_any (same x) ys ≡ true) (sym (fixed (length all) all (omega arith))) there)) where
            not_true : (b : Bool) → not b ≡ true → b ≡ false
            not_true true e = sym e
            not_true false e = refl

      -- an element that leaves has fallen
      module _ (Fallen : A → Type 0) where
        abbrev Left : List A → Type 0
        Left left = (x : A) → list_any (same x) all ≡ true → list_any (same x) left ≡ false → Fallen x

        left_so :
            ((left : List A) → Left left → (x : A) → list_any (same x) all ≡ true → falls left x ≡ true → Fallen x)
            → (n : ℕ) (left : List A) → Left left → Left (rounds falls n left)
        unfolding rounds
        left_so falling zero left so = so
        left_so falling (suc n) left so = left_so falling n (next left) step where
          step : Left (next left)
          step x there out = by_place (list_any (same x) left) refl (falls left x) refl where
            by_place : (in_left : Bool) → list_any (same x) left ≡ in_left → (fell : Bool) → falls left x ≡ fell → Fallen x
            by_place false is fell e = so x there is
            by_place true is true e = falling left so x there e
            by_place true is false e =
                absurd (false≢true (sym out ∙ into_filter (λ y. not (falls left y)) left x is (ap not e)))

        pub leaves :
            ((left : List A) → Left left → (x : A) → list_any (same x) all ≡ true → falls left x ≡ true → Fallen x)
            → (x : A) → list_any (same x) all ≡ true → list_any (same x) (staying falls all) ≡ false → Fallen x
        leaves falling x there out =
            left_so falling (length all) all (λ y is not_in. absurd (false≢true (sym not_in ∙ is))) x there out
