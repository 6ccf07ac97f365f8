-- Labels as names of subjects, each at a place of its own: each is spelled as a label, and no two are the same.
use Rattle.std.{specs.{Global.Vec, List.{AllByRecursion, AllPairs, range_with_len}}, proofs.Common.{[], ℕ, ◌+◌, ◌<◌, ◌∙◌, ◌∷◌, ◌≡◌, ◌≢◌}}
use Rattle.std.proofs.Common.{◌≤◌, Bool, List, Ok, ap, arith, cond, false, filter, get_or, length, map, refl, subst, suc, sym, true, zero}
use Rattle.std.proofs.lemmas.List.{get_or-map, FromFn.{get_or-range_with_len, length-range_with_len}, Kept.AllPairs-filter}
use Rattle.microkit.specs.{declared.{description.Map.Map, labels.Subject.Subject}, Description.Description, LabelView.bytes_of}
use Rattle.microkit.specs.{Labels.{names_of, subjects_of}, Names.IsLabelName}
use Rattle.importing.{specs.Groups.{labels_at, leads, name_at, places_of}, proofs.{Counts.labels_few, Items.length_seen}}

at_place : (names : List (List ℕ)) (i : ℕ) (d : List ℕ) → i < length names → name_at names i ≡ get_or names i d
at_place [] i d below = absurd (omega (arith, below))
at_place (name ∷ names) zero d below = refl
at_place (name ∷ names) (suc i) d below = at_place names i d (omega (arith, below))

all_at_place : (P : List ℕ → Type 0) (names : List (List ℕ)) (i : ℕ) → AllByRecursion P names → i < length names → P (name_at names i)
all_at_place P [] i all below = absurd (omega (arith, below))
all_at_place P (name ∷ names) zero all below = all.0
all_at_place P (name ∷ names) (suc i) all below = all_at_place P names i all.1 (omega (arith, below))

all_range : (P : ℕ → Type 0) (a n : ℕ) → ((i : ℕ) → i < a + n → P i) → AllByRecursion P (range_with_len a n)
all_range P a zero each = tt
all_range P a (suc n) each = (each a (omega arith), all_range P (a + 1) n (λ i below. each i (omega (arith, below))))

all_kept : {X : Type 0} (P : X → Type 0) (f : ℕ → X) (p : ℕ → Bool) (xs : List ℕ) → AllByRecursion (λ i. P (f i)) xs
    → AllByRecursion P (map f (filter p xs))
all_kept P f p [] all = tt
all_kept P f p (x ∷ xs) all = by (p x) (all_kept P f p xs all.1)
  where
    by : (b : Bool) → AllByRecursion P (map f (filter p xs)) → AllByRecursion P (map f (cond b (x ∷ filter p xs) (filter p xs)))
    by true more = (all.0, more)
    by false more = more

pairs_map : {X : Type 0} (R : X → X → Type 0) (f : ℕ → X) (xs : List ℕ) → AllPairs (λ i j. R (f i) (f j)) xs → AllPairs R (map f xs)
pairs_map R f xs all i j d before within =
    let size : length (map f xs) ≡ length xs = length_seen f xs in
    let inside : j < length xs = omega (arith, within, size) in
    let one = get_or-map f xs i 0 d (omega (arith, before, inside)) in
    let other = get_or-map f xs j 0 d inside in
    subst (λ x. R x (get_or (map f xs) j d)) (sym one) (subst (λ y. R (f (get_or xs i 0)) y) (sym other) (all i j 0 before inside))

pairs_range : (names : List (List ℕ)) (n : ℕ) → n ≤ length names → AllPairs (λ one other. one ≢ other) names
    → AllPairs (λ i j. name_at names i ≢ name_at names j) (range_with_len 0 n)
pairs_range names n few distinct i j d before within =
    let size : length (range_with_len 0 n) ≡ n = length-range_with_len 0 n in
    let inside : j < n = omega (arith, within, size) in
    let below : i < n = omega (arith, before, inside) in
    let one : get_or (range_with_len 0 n) i d ≡ i = get_or-range_with_len 0 n i d below ∙ omega arith in
    let other : get_or (range_with_len 0 n) j d ≡ j = get_or-range_with_len 0 n j d inside ∙ omega arith in
    λ same.
    distinct i j [] before (omega (arith, inside, few))
    (sym (at_place names i [] (omega (arith, below, few)))
    ∙ sym (ap (name_at names) one) ∙ same ∙ ap (name_at names) other
    ∙ at_place names j [] (omega (arith, inside, few)))

-- the number of subjects that have names
named_all : (d : Description) (names : List (Vec ℕ)) (subjects : List Subject) → names_of d ≡ Ok (bytes_of names)
    → subjects ≡ subjects_of d → length subjects ≤ length (bytes_of names)
named_all d names subjects named are =
    let size : length (bytes_of names) ≡ length (subjects_of d) = labels_few d (bytes_of names) named in
    let same : length subjects ≡ length (subjects_of d) = ap length are in
    omega (arith, size, same)

pub labels_spelled : (d : Description) (names : List (Vec ℕ)) (subjects : List Subject) (uses : List (List Map)) (places : List ℕ)
    → names_of d ≡ Ok (bytes_of names) → subjects ≡ subjects_of d → places ≡ places_of uses subjects
    → AllByRecursion IsLabelName (bytes_of names) → AllByRecursion IsLabelName (labels_at (bytes_of names) places)
unfolding places_of
labels_spelled d names subjects uses places named are found all =
    let few = named_all d names subjects named are in
    subst (λ xs. AllByRecursion IsLabelName (labels_at (bytes_of names) xs)) (sym found)
    (all_kept IsLabelName (name_at (bytes_of names)) (leads uses subjects) (range_with_len 0 (length subjects))
    (all_range (λ i. IsLabelName (name_at (bytes_of names) i)) 0 (length subjects)
    (λ i below. all_at_place IsLabelName (bytes_of names) i all (omega (arith, below, few)))))

pub labels_distinct : (d : Description) (names : List (Vec ℕ)) (subjects : List Subject) (uses : List (List Map)) (places : List ℕ)
    → names_of d ≡ Ok (bytes_of names) → subjects ≡ subjects_of d → places ≡ places_of uses subjects
    → AllPairs (λ one other. one ≢ other) (bytes_of names)
    → AllPairs (λ one other. one ≢ other) (labels_at (bytes_of names) places)
unfolding places_of
labels_distinct d names subjects uses places named are found distinct =
    let few = named_all d names subjects named are in
    let own : ℕ → List ℕ = name_at (bytes_of names) in
    subst (λ xs. AllPairs (λ one other. one ≢ other) (labels_at (bytes_of names) xs)) (sym found)
    (pairs_map (λ one other. one ≢ other) own (filter (leads uses subjects) (range_with_len 0 (length subjects)))
    (AllPairs-filter (λ i j. own i ≢ own j) (leads uses subjects) (range_with_len 0 (length subjects))
    (pairs_range (bytes_of names) (length subjects) few distinct)))
