-- Names of labels, step by step: each name is tried, and each label named, one after another.
use Rattle.std.proofs.Common.{ℕ, ◌+◌, ◌-◌, ◌<◌, ◌∙◌, ◌∷◌, ◌≡◌, ◌≤◌, Err, List, None, Ok, Some, add-one, ap, arith, drop, drop-cons, false}
use Rattle.std.proofs.{Common.{get_or, length, refl, suc, sym, true}, lemmas.List.drop_all}
use Rattle.words.specs.{declared.faults.Fault.Fault, Reading.bind}
use Rattle.microkit.specs.{declared.labels.Subject.Subject, Description.Description, Labels.{named_at, names_from}, Names.candidate}
use Rattle.microkit.specs.Names.{free_from, is_known}

-- a name is taken
pub try_more : (names : List (List ℕ)) (name ending found : List ℕ) (k last : ℕ) → k < last → found ≡ candidate name ending k
    → is_known names found ≡ true → free_from names name ending k (last - k) ≡ free_from names name ending (k + 1) (last - (k + 1))
unfolding free_from
try_more names name ending found k last below is known =
    let one : last - k ≡ suc (last - (k + 1)) = omega arith in
    let same : is_known names (candidate name ending k) ≡ true = ap (λ n. is_known names n) (sym is) ∙ known in
    rw one (rw same refl)

-- a name is free
pub try_found : (names : List (List ℕ)) (name ending found : List ℕ) (k last : ℕ) → k < last → found ≡ candidate name ending k
    → is_known names found ≡ false → free_from names name ending k (last - k) ≡ Some found
unfolding free_from
try_found names name ending found k last below is known =
    let one : last - k ≡ suc (last - (k + 1)) = omega arith in
    let same : is_known names (candidate name ending k) ≡ false = ap (λ n. is_known names n) (sym is) ∙ known in
    rw one (rw same (ap (λ n. Some n) (sym is)))

-- no try is left
pub tries_over : (names : List (List ℕ)) (name ending : List ℕ) (k last : ℕ) → last ≤ k
    → free_from names name ending k (last - k) ≡ None
unfolding free_from
tries_over names name ending k last past = let none : last - k ≡ 0 = omega arith in rw none refl

-- the subjects from one on
subjects_from : (subjects : List Subject) (i : ℕ) (none : Subject) → i < length subjects
    → drop i subjects ≡ get_or subjects i none ∷ drop (i + 1) subjects
subjects_from subjects i none below = rw add-one (drop-cons subjects i none below)

-- no subject is left
pub none_left : (d : Description) (names : List (List ℕ)) (subjects : List Subject) (i : ℕ) → length subjects ≤ i
    → names_from d names (drop i subjects) ≡ Ok names
unfolding names_from
none_left d names subjects i past = ap (λ left. names_from d names left) (drop_all i subjects past)

-- one has its name
pub one_named : (d : Description) (names next : List (List ℕ)) (subjects : List Subject) (i : ℕ) (none : Subject)
    → i < length subjects → named_at d names (get_or subjects i none) ≡ Ok next
    → names_from d names (drop i subjects) ≡ names_from d next (drop (i + 1) subjects)
unfolding names_from bind
one_named d names next subjects i none below named =
    ap (λ left. names_from d names left) (subjects_from subjects i none below)
    ∙ ap (λ step. bind step (λ n. names_from d n (drop (i + 1) subjects))) named

-- a subject has none
pub one_refused : (d : Description) (names : List (List ℕ)) (subjects : List Subject) (i : ℕ) (none : Subject) (fault : Fault)
    → i < length subjects → named_at d names (get_or subjects i none) ≡ Err fault
    → names_from d names (drop i subjects) ≡ Err fault
unfolding names_from bind
one_refused d names subjects i none fault below refused =
    ap (λ left. names_from d names left) (subjects_from subjects i none below)
    ∙ ap (λ step. bind step (λ n. names_from d n (drop (i + 1) subjects))) refused
