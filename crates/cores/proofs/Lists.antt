-- Beginnings of lists, lists read at a place, and what an option holds.
use Rattle.std.{specs.Prelude.{IfSome, None, Option, Some, option_map}, proofs.Common.{[], ℕ, ◌++◌, ◌<◌, ◌==◌, ◌∙◌, ◌∷◌, ◌≡◌, ◌≢◌, ◌⊎◌}}
use Rattle.std.proofs.Common.{List, ap, append_assoc, arith, cond, eq-eqb, inl, inr, length, ne_eqb, refl, subst, suc, sym, zero}
use Rattle.std.proofs.lemmas.List.{append-nil, map_push, Elements.filter-append}
use Rattle.cores.specs.{declared.view.Noted.Noted, History.{log_of, own}}
use lib.ListN.{get_elem?}
use mathlib.Core.{List.IsPrefix, Option.{some, some-injective, some-ne-none}}

-- each list begins with itself
pub prefix_self : {A : Type 0} (xs : List A) → IsPrefix xs xs
prefix_self xs = ([], append-nil xs)

pub prefix_same : {A : Type 0} (xs ys : List A) → xs ≡ ys → IsPrefix xs ys
prefix_same xs ys same = ([], append-nil xs ∙ same)

-- what begins a list begins a longer one
pub prefix_longer : {A : Type 0} (xs ys zs : List A) → IsPrefix xs ys → IsPrefix xs (ys ++ zs)
prefix_longer xs ys zs begins = (begins.0 ++ zs, sym (append_assoc xs begins.0 zs) ∙ ap (λ all. all ++ zs) begins.1)

-- a place at which something stands is inside the list
pub at_inside : {A : Type 0} (xs : List A) (i : ℕ) (x : A) → get_elem? xs i ≡ some x → i < length xs
at_inside [] i x at = absurd (some-ne-none x (sym at))
at_inside (y ∷ xs) zero x at = omega arith
at_inside (y ∷ xs) (suc i) x at = let inside = at_inside xs i x at in omega (arith, inside)

-- what stands in a list with one more at its end
pub at_end : {A : Type 0} (xs : List A) (last x : A) (i : ℕ) → get_elem? (xs ++ last ∷ []) i ≡ some x
    → (get_elem? xs i ≡ some x) ⊎ ((i ≡ length xs) × (last ≡ x))
at_end [] last x zero at = inr (refl, some-injective last x at)
at_end [] last x (suc i) at = absurd (some-ne-none x (sym at))
at_end (y ∷ xs) last x zero at = inl at
at_end (y ∷ xs) last x (suc i) at = elim (at_end xs last x i at) [
  | inl before ↦ inl before
  | inr here ↦ inr (ap suc here.0, here.1)
]

pub if_some : {A : Type 0} (P Q : A → Type 0) (o : Option A) → ((a : A) → P a → Q a) → IfSome o P → IfSome o Q
if_some P Q None further holds = tt
if_some P Q (Some a) further holds = further a holds

pub if_map : {A B : Type 0} (f : A → B) (P : A → Type 0) (Q : B → Type 0) (o : Option A)
    → ((a : A) → P a → Q (f a)) → IfSome o P → IfSome (option_map f o) Q
if_map f P Q None further holds = tt
if_map f P Q (Some a) further holds = further a holds

pub if_is : {A : Type 0} (P : A → Type 0) (o : Option A) (a : A) → o ≡ Some a → IfSome o P → P a
if_is P o a is holds = subst (λ o. IfSome o P) is holds

-- a number that is the first one becomes the second
pub changed : (x y from to : ℕ) → x ≡ from → cond (x == from) to y ≡ to
changed x y from to is = ap (λ b. cond b to y) (eq-eqb x from is)

pub unchanged : (x y from to : ℕ) → x ≢ from → cond (x == from) to y ≡ y
unchanged x y from to not = ap (λ b. cond b to y) (ne_eqb x from not)

-- a seat's own entries, once one more is added
pub own_grows : (number : ℕ) (history : List Noted) (noted : Noted) → noted.seat ≡ number
    → own number (history ++ noted ∷ []) ≡ own number history ++ noted ∷ []
own_grows number history noted is =
    filter-append (λ (n : Noted). n.seat == number) history (noted ∷ [])
    ∙ ap (λ b. own number history ++ cond b (noted ∷ []) []) (eq-eqb noted.seat number is)

pub own_stays : (number : ℕ) (history : List Noted) (noted : Noted) → noted.seat ≢ number
    → own number (history ++ noted ∷ []) ≡ own number history
own_stays number history noted not =
    filter-append (λ (n : Noted). n.seat == number) history (noted ∷ [])
    ∙ (ap (λ b. own number history ++ cond b (noted ∷ []) []) (ne_eqb noted.seat number not) ∙ append-nil (own number history))

pub log_grows : (history : List Noted) (noted : Noted)
    → log_of (history ++ noted ∷ []) ≡ log_of history ++ (noted.event, noted.outcome) ∷ []
log_grows history noted = map_push (λ (n : Noted). (n.event, n.outcome)) history noted
