-- Lists of sets in order: those of one kind, with those of another kind that come after.
use Rattle.std.proofs.Common.{ℕ, ◌++◌, ◌+◌, ◌-◌, ◌<◌, ◌∙◌, ◌≡◌, ◌≤◌, ◌⊎◌, AllPairs, List, ap}
use Rattle.std.proofs.Common.{arith, false, get_or, inl, inr, length, refl, subst, sym, true}
use Rattle.std.proofs.lemmas.{Bool.{cases_lt, false≢true}, List.{Elements.All-append, get_or-append-add, get_or_append_left, length-append}}
use Rattle.{base.specs.declared.labels.Labels.Labels, flows.specs.Sets.{AreFirst, IsListed, Precedes}}

-- a relation of each element and each later one, of one list behind another
pub pairs_append : {X : Type 0} (R : X → X → Type 0) (xs ys : List X) → AllPairs R xs → AllPairs R ys
    → ((i j : ℕ) (d : X) → i < length xs → j < length ys → R (get_or xs i d) (get_or ys j d)) → AllPairs R (xs ++ ys)
pairs_append {X} R xs ys fore hind cross i j d less below = by (cases_lt j (length xs)) (cases_lt i (length xs)) where
  shifted : (n : ℕ) → length xs ≤ n → n ≡ length xs + (n - length xs)
  shifted n over = omega (arith, over)

  past : (n : ℕ) → length xs ≤ n → get_or ys (n - length xs) d ≡ get_or (xs ++ ys) n d
  past n over =
      sym (get_or-append-add xs ys (n - length xs) d) ∙ sym (ap (λ m. get_or (xs ++ ys) m d) (shifted n over))

  in_hind : (n : ℕ) → length xs ≤ n → n < length (xs ++ ys) → n - length xs < length ys
  in_hind n over under = omega (arith, over, under, length-append xs ys)

  left : (n : ℕ) → n < length xs → get_or xs n d ≡ get_or (xs ++ ys) n d
  left n under = sym (get_or_append_left xs ys d n under)

  by : (j < length xs) ⊎ (length xs ≤ j) → (i < length xs) ⊎ (length xs ≤ i) → R (get_or (xs ++ ys) i d) (get_or (xs ++ ys) j d)
  by (inl in_fore) at =
      let first : i < length xs = omega (arith, less, in_fore) in
      subst (λ x. R x (get_or (xs ++ ys) j d)) (left i first) (subst (λ y. R (get_or xs i d) y) (left j in_fore) (fore i j d less in_fore))
  by (inr over) (inl in_fore) =
      subst (λ x. R x (get_or (xs ++ ys) j d)) (left i in_fore)
      (subst (λ y. R (get_or xs i d) y) (past j over) (cross i (j - length xs) d in_fore (in_hind j over below)))
  by (inr over) (inr also) =
      subst (λ x. R x (get_or (xs ++ ys) j d)) (past i also)
      (subst (λ y. R (get_or ys (i - length xs) d) y) (past j over)
      (hind (i - length xs) (j - length xs) d (omega (arith, less, also)) (in_hind j over below)))

pub listed_before : (xs ys : List Labels) (set : Labels) → IsListed xs set → IsListed (xs ++ ys) set
listed_before xs ys set (k, one, below, at, same) =
    (k, one, omega (arith, below, length-append xs ys), get_or_append_left xs ys one k below ∙ at, same)

pub listed_behind : (xs ys : List Labels) (set : Labels) → IsListed ys set → IsListed (xs ++ ys) set
listed_behind xs ys set (k, one, below, at, same) =
    (length xs + k, one, omega (arith, below, length-append xs ys), get_or-append-add xs ys k one ∙ at, same)

-- sets of a kind that has two parts: each set of the one comes before each of the other
module _ (Is Fore Hind : Labels → Type 0) (fore : (s : Labels) → Fore s → Is s) (hind : (s : Labels) → Hind s → Is s)
    (parts : (s : Labels) → Is s → Fore s ⊎ Hind s) (order : (s t : Labels) → Fore s → Hind t → Precedes s t) (xs : List Labels)
  where
    -- the first sets of the first part are those of all, if some of that part aren't listed
    pub first_of_fore : AreFirst Fore xs false → AreFirst Is xs false
    first_of_fore are = record {
      each = λ k d below. fore (get_or xs k d) (are.each k d below);
      rise = are.rise;
      rest = λ set is. elim (parts set is) [
        | inl early ↦ are.rest set early
        | inr late ↦ inr (refl, λ k d below. order (get_or xs k d) set (are.each k d below) late)
      ];
    }

    pub first_of_both : {all : _} (ys : List Labels) → AreFirst Fore xs true → AreFirst Hind ys all → AreFirst Is (xs ++ ys) all
    first_of_both {all} ys early late = record {
      each = All-append Is xs ys (λ k d below. fore (get_or xs k d) (early.each k d below)) (λ k d below. hind (get_or ys k d) (late.each k d below));
      rise = pairs_append Precedes xs ys early.rise late.rise
          (λ i j d in_fore in_hind. order (get_or xs i d) (get_or ys j d) (early.each i d in_fore) (late.each j d in_hind));
      rest = λ set is. elim (parts set is) [
        | inl one ↦ elim (early.rest set one) [
          | inl listed ↦ inl (listed_before xs ys set listed)
          | inr none ↦ absurd (false≢true (sym none.0))
        ]
        | inr other ↦ elim (late.rest set other) [
          | inl listed ↦ inl (listed_behind xs ys set listed)
          | inr (some, after) ↦
              inr (some, All-append (λ one. Precedes one set) xs ys (λ k d below. order (get_or xs k d) set (early.each k d below) other) after)
        ]
      ];
    }
