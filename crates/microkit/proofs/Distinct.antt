-- Names of labels: no two labels have the same, since each gets one that none before it has.
use Rattle.std.{specs.{List.{AllByRecursion, AllPairs, IsDistinct}, Prelude.unwrap_or, Str.bytes_eq}, proofs.Common.{[], ℕ, ◌++◌, ◌+◌}}
use Rattle.std.proofs.Common.{◌||◌, ◌∙◌, ◌∷◌, ◌≡◌, ◌≢◌, Bool, Err, List, None, Ok, Option, Result, Some, ap, cond, false, refl, subst, suc}
use Rattle.std.proofs.{Common.{sym, true, zero}, lemmas.{Map.Made.AllPairs-from_IsDistinct, Option.none-some, Slice.Eq.bytes_eq-Decides}}
use Rattle.words.specs.{declared.faults.Fault.Fault, Reading.bind}
use Rattle.microkit.specs.{declared.labels.Subject.Subject, Description.Description, Labels.{label_at, named_at, names_from, names_of}}
use Rattle.microkit.specs.{Labels.{or_limit, subjects_of}, Names.{candidate, free_from, is_known}}

pub some_same : {X : Type 0} (x y : X) → Some x ≡ Some y → x ≡ y
some_same x y same = ap (λ o. unwrap_or o x) same

either : (a b : Bool) → (a || b) ≡ false → (a ≡ false) × (b ≡ false)
either true b e = absurd cc
either false b e = (refl, e)

-- a name that is found free is none of those before
fresh : (names : List (List ℕ)) (name ending found : List ℕ) (k tries : ℕ)
    → free_from names name ending k tries ≡ Some found → is_known names found ≡ false
unfolding free_from
fresh names name ending found k zero e = absurd (none-some _ e)
fresh names name ending found k (suc tries) e =
    by_test (λ more. fresh names name ending found (k + 1) tries more) (is_known names (candidate name ending k)) refl e
  where
    by_test : (free_from names name ending (k + 1) tries ≡ Some found → is_known names found ≡ false)
        → (t : Bool) → is_known names (candidate name ending k) ≡ t
        → cond t (free_from names name ending (k + 1) tries) (Some (candidate name ending k)) ≡ Some found
        → is_known names found ≡ false
    by_test later true known e = later e
    by_test later false free e = ap (λ n. is_known names n) (sym (some_same _ _ e)) ∙ free

pub limited : (line : ℕ) (o : Option (List ℕ)) (name : List ℕ) → or_limit line o ≡ Ok name → o ≡ Some name
unfolding or_limit
limited line None name e = absurd cc
limited line (Some found) name e = cc

-- the name of a label is none of those before
label_fresh : (d : Description) (names : List (List ℕ)) (subject : Subject) (name : List ℕ)
    → label_at d names subject ≡ Ok name → is_known names name ≡ false
unfolding label_at
label_fresh d names subject name e = fresh names _ _ name 1 _ (limited _ _ name e)

all_more : {X : Type 0} (P : X → Type 0) (xs : List X) (y : X) → AllByRecursion P xs → P y → AllByRecursion P (xs ++ y ∷ [])
all_more P [] y all here = (here, tt)
all_more P (x ∷ xs) y all here = (all.0, all_more P xs y all.1 here)

-- one more name, which is none of those before
distinct_more : (names : List (List ℕ)) (name : List ℕ) → IsDistinct bytes_eq names → is_known names name ≡ false
    → IsDistinct bytes_eq (names ++ name ∷ [])
unfolding IsDistinct
distinct_more [] name distinct free = (tt, tt)
distinct_more (first ∷ names) name distinct free =
    let parts = either _ _ free in
    (all_more (λ y. bytes_eq first y ≡ false) names name distinct.0 parts.0, distinct_more names name distinct.1 parts.1)

-- the labels before and the next one
named_distinct : (d : Description) (names next : List (List ℕ)) (subject : Subject) → IsDistinct bytes_eq names
    → named_at d names subject ≡ Ok next → IsDistinct bytes_eq next
unfolding named_at bind
named_distinct d names next subject distinct e = by_label (label_at d names subject) refl e
  where
    by_label : (r : Result (List ℕ) Fault) → label_at d names subject ≡ r
        → bind r (λ name. Ok (names ++ name ∷ [])) ≡ Ok next → IsDistinct bytes_eq next
    by_label (Ok name) is e =
        let same : names ++ name ∷ [] ≡ next = cc in
        subst (λ ns. IsDistinct bytes_eq ns) same (distinct_more names name distinct (label_fresh d names subject name is))
    by_label (Err fault) is e = absurd cc

distinct_from : (d : Description) (names : List (List ℕ)) (subjects : List Subject) (all : List (List ℕ))
    → IsDistinct bytes_eq names → names_from d names subjects ≡ Ok all → IsDistinct bytes_eq all
unfolding names_from bind
distinct_from d names [] all distinct e =
    let same : names ≡ all = cc in subst (λ ns. IsDistinct bytes_eq ns) same distinct
distinct_from d names (subject ∷ subjects) all distinct e =
    by_next (λ next one more. distinct_from d next subjects all one more) (named_at d names subject) refl e
  where
    by_next : ((next : List (List ℕ)) → IsDistinct bytes_eq next → names_from d next subjects ≡ Ok all → IsDistinct bytes_eq all)
        → (r : Result (List (List ℕ)) Fault) → named_at d names subject ≡ r
        → bind r (λ next. names_from d next subjects) ≡ Ok all → IsDistinct bytes_eq all
    by_next later (Ok next) is e = later next (named_distinct d names next subject distinct is) e
    by_next later (Err fault) is e = absurd cc

pub names_distinct : (d : Description) (names : List (List ℕ)) → names_of d ≡ Ok names → AllPairs (λ one other. one ≢ other) names
unfolding names_of IsDistinct
names_distinct d names e =
    AllPairs-from_IsDistinct bytes_eq-Decides names (distinct_from d [] (subjects_of d) names tt e)
