-- Names of subjects: there are as many as subjects.
use Rattle.std.proofs.{Common.{[], ℕ, ◌++◌, ◌+◌, ◌∷◌, ◌≡◌, Err, List, Ok, Result, ap, arith, length, suc, sym}, lemmas.List.length_push}
use Rattle.words.specs.{declared.faults.Fault.Fault, Reading.bind}
use Rattle.microkit.specs.{declared.labels.Subject.Subject, Description.Description, Labels.{label_at, named_at, names_from, names_of}}
use Rattle.microkit.specs.Labels.{subjects_of}

same_ok : {X E : Type 0} (x y : X) → ◌≡◌ {A = Result X E} (Ok x) (Ok y) → x ≡ y
same_ok x y e = cc

names_counted : (d : Description) (names : List (List ℕ)) (subjects : List Subject) (all : List (List ℕ))
    → names_from d names subjects ≡ Ok all → length all ≡ length names + length subjects
unfolding names_from named_at bind
names_counted d names [] all e =
    let same : names ≡ all = same_ok names all e in
    let size : length all ≡ length names = ap length (sym same) in
    omega (arith, size)
names_counted d names (subject ∷ subjects) all e =
    by (label_at d names subject) (λ name. names_counted d (names ++ name ∷ []) subjects all) e
  where
    by : (r : Result (List ℕ) Fault)
        → ((name : List ℕ) → names_from d (names ++ name ∷ []) subjects ≡ Ok all
        → length all ≡ length (names ++ name ∷ []) + length subjects)
        → bind (bind r (λ name. Ok (names ++ name ∷ []))) (λ next. names_from d next subjects) ≡ Ok all
        → length all ≡ length names + suc (length subjects)
    by (Err fault) counted h = absurd cc
    by (Ok name) counted h =
        let more : length all ≡ length (names ++ name ∷ []) + length subjects = counted name h in
        let size : length (names ++ name ∷ []) ≡ length names + 1 = length_push names name in
        omega (arith, more, size)

pub labels_few : (d : Description) (names : List (List ℕ)) → names_of d ≡ Ok names → length names ≡ length (subjects_of d)
unfolding names_of
labels_few d names e = let size = names_counted d [] (subjects_of d) names e in omega (arith, size)
