-- Names of labels: each is one that a table's label may have, of at most 24 letters.
use Rattle.std.specs.{Char.{is_ascii_digit, is_ascii_lowercase, is_ascii_uppercase}, Fmt.decimal, List.{AllByRecursion, list_all}}
use Rattle.std.{specs.Prelude.codes, proofs.Common.{[], ℕ, ◌&&◌, ◌++◌, ◌+◌, ◌-◌, ◌<◌, ◌==◌, ◌^◌, ◌||◌, ◌∙◌, ◌∷◌, ◌≡◌, ◌≤◌, Bool, Err, List}}
use Rattle.std.proofs.Common.{Ok, Result, Some, ap, arith, cond, drop, false, length, map, nat_le, nat_lt, refl, subst, suc, sym, take}
use Rattle.std.proofs.{Common.{true, zero}, lemmas.Bool.{and_from, and_parts, leb-false, leb-true, Decides.nat_tests}}
use Rattle.std.proofs.lemmas.{Fmt.length-decimal-le, Grind.common_steps, List.{take-append-drop, Folds.list_all-append}, Option.none-some}
use Rattle.words.specs.{declared.faults.Fault.Fault, Name.{is_name_byte, starts_with_letter}, Reading.bind}
use Rattle.microkit.specs.{declared.labels.Subject.Subject, Description.Description, Labels.{ending_of, label_at, name_of, named_at}}
use Rattle.microkit.specs.{Labels.{names_from, names_of, subjects_of}, Names.{IsLabelName, candidate, free_from, is_known, kept_last}}
use Rattle.microkit.{specs.Names.{letter_of, plain_name, shortened, tail_of, with_letter}, proofs.Distinct.{limited, some_same}}
use Rattle.microkit.proofs.Parts.{decimal_digits}
use Rattle.microkit.specs.declared.labels.Subject.TheVariants as subject

abbrev pub are_bytes : List ℕ → Bool
are_bytes name = list_all is_name_byte name

-- a name, but for its length
pub record IsPlain (name : List ℕ) : Type 0 where
  pub starts : starts_with_letter name ≡ true
  pub bytes : are_bytes name ≡ true

letter_byte : (b : ℕ) → is_name_byte (letter_of b) ≡ true
unfolding letter_of
letter_byte b = cases (is_ascii_uppercase b) (is_ascii_lowercase b || is_ascii_digit b) refl refl
  where
    cases : (u l : Bool) → is_ascii_uppercase b ≡ u → (is_ascii_lowercase b || is_ascii_digit b) ≡ l
        → is_name_byte (cond u (b + 32) (cond l b 95)) ≡ true
    cases true l upper is = grind (arith, nat_tests)
    cases false true upper is = ap (λ t. t || b == 95) is
    cases false false upper is = refl

letters_bytes : (text : List ℕ) → are_bytes (map letter_of text) ≡ true
letters_bytes [] = refl
letters_bytes (b ∷ bs) = ap (λ t. t && are_bytes (map letter_of bs)) (letter_byte b) ∙ letters_bytes bs

lettered : (name : List ℕ) → are_bytes name ≡ true → IsPlain (with_letter name)
unfolding with_letter
lettered [] bytes = record { starts = refl; bytes = refl }
lettered (b ∷ bs) bytes = cases (is_ascii_lowercase b) refl
  where
    cases : (t : Bool) → is_ascii_lowercase b ≡ t → IsPlain (cond t (b ∷ bs) (120 ∷ b ∷ bs))
    cases true lower = record { starts = lower; bytes = bytes }
    cases false lower = record { starts = refl; bytes = bytes }

plain_is : (text : List ℕ) → IsPlain (plain_name text)
unfolding plain_name
plain_is text = lettered _ (letters_bytes text)

joined : (a b : List ℕ) → are_bytes a ≡ true → are_bytes b ≡ true → are_bytes (a ++ b) ≡ true
joined a b one other = list_all-append is_name_byte a b ∙ and_from _ _ one other

pieces : (n : ℕ) (name : List ℕ) → are_bytes name ≡ true → (are_bytes (take n name) ≡ true) × (are_bytes (drop n name) ≡ true)
pieces n name bytes =
    and_parts _ _ (sym (list_all-append is_name_byte (take n name) (drop n name)) ∙ ap are_bytes (take-append-drop n name) ∙ bytes)

begins : (n : ℕ) (name rest : List ℕ) → 0 < n → starts_with_letter name ≡ true → starts_with_letter (take n name ++ rest) ≡ true
begins zero name rest some starts = absurd (omega (arith, some))
begins (suc n) [] rest some starts = absurd cc
begins (suc n) (b ∷ bs) rest some starts = starts

begins_more : (name rest : List ℕ) → starts_with_letter name ≡ true → starts_with_letter (name ++ rest) ≡ true
begins_more [] rest starts = absurd cc
begins_more (b ∷ bs) rest starts = starts

kept_few : (room : ℕ) → 3 ≤ room → kept_last room + 3 ≤ room
kept_few room some = cases (nat_lt room 16) refl
  where
    cases : (t : Bool) → nat_lt room 16 ≡ t → cond t (room - 3) 13 + 3 ≤ room
    cases true less = omega (arith, some)
    cases false less = grind (arith, nat_tests)

cut_length : (n m : ℕ) (name : List ℕ) → m ≤ length name → n ≤ length name
    → length (take n name ++ (codes "__" ++ drop (length name - m) name)) ≤ n + 2 + m
cut_length n m name last first = grind (arith, common_steps)

-- a name that is shortened
pub record IsShort (room : ℕ) (name : List ℕ) : Type 0 where
  pub plain : IsPlain name
  pub short : length name ≤ room

short_is : (room : ℕ) (name : List ℕ) → 3 ≤ room → IsPlain name → IsShort room (shortened room name)
unfolding shortened
short_is room name some plain = cases (nat_le (length name) room) refl
  where
    cases : (t : Bool) → nat_le (length name) room ≡ t
        → IsShort room
        (cond t name (take (room - (kept_last room + 2)) name ++ (codes "__" ++ drop (length name - kept_last room) name)))
    cases true fits = record { plain = plain; short = leb-true _ _ fits }
    cases false fits =
        let few = kept_few room some in
        let long : room < length name = leb-false _ _ fits in
        record {
          plain = record {
            starts = begins (room - (kept_last room + 2)) name (codes "__" ++ drop (length name - kept_last room) name)
                (omega (arith, few)) plain.starts;
            bytes = joined (take (room - (kept_last room + 2)) name) (codes "__" ++ drop (length name - kept_last room) name)
                (pieces (room - (kept_last room + 2)) name plain.bytes).0
                (joined (codes "__") (drop (length name - kept_last room) name) refl (pieces (length name - kept_last room) name plain.bytes).1);
          };
          short = omega (
            arith,
            few,
            cut_length (room - (kept_last room + 2)) (kept_last room) name
                (omega (arith, few, long)) (omega (arith, few, long)),
          );
        }

digit_bytes : (word : List ℕ) → list_all is_ascii_digit word ≡ true → are_bytes word ≡ true
digit_bytes [] digits = refl
digit_bytes (b ∷ bs) digits =
    let parts = and_parts _ _ digits in
    ap (λ t. t && are_bytes bs) (digit_byte b parts.0) ∙ digit_bytes bs parts.1
  where
    digit_byte : (d : ℕ) → is_ascii_digit d ≡ true → is_name_byte d ≡ true
    digit_byte d digit = grind (arith, nat_tests)

-- the end of a name
pub record IsTail (most : ℕ) (tail : List ℕ) : Type 0 where
  pub bytes : are_bytes tail ≡ true
  pub short : length tail ≤ most

tail_is : (ending : List ℕ) (k : ℕ) → IsTail 5 ending → k < 1000 → IsTail 9 (tail_of ending k)
unfolding tail_of
tail_is ending k tail few = cases (k == 1) refl
  where
    small : k < 2 ^ 64
    small = omega (arith, few)

    count : length (decimal k) ≤ 3
    count = length-decimal-le 3 k (omega arith) (omega (arith, few)) small

    sums : (a b : List ℕ) → length a ≤ 5 → length b ≤ 4 → length (a ++ b) ≤ 9
    sums a b one other = grind (arith, common_steps)

    cases : (t : Bool) → (k == 1) ≡ t → IsTail 9 (cond t ending (ending ++ (codes "_" ++ decimal k)))
    cases true first = record { bytes = tail.bytes; short = omega (arith, tail.short) }
    cases false first =
        record {
          bytes = joined ending (codes "_" ++ decimal k) tail.bytes (joined (codes "_") (decimal k) refl (digit_bytes (decimal k) (decimal_digits k small)));
          short = sums ending (95 ∷ decimal k) tail.short (omega (arith, count));
        }

whole : (name tail : List ℕ) (most : ℕ) → most ≤ 9 → length tail ≤ most → IsPlain name → are_bytes tail ≡ true
    → length name ≤ 24 - length tail → IsLabelName (name ++ tail)
whole name tail most low few plain bytes short =
    let small : length (name ++ tail) ≤ 24 = sums name tail (omega (arith, few, low)) short in
    (and_from _ _ (and_from _ _ (begins_more name tail plain.starts) (within _ small)) (joined name tail plain.bytes bytes), small)
  where
    sums : (a b : List ℕ) → length b ≤ 24 → length a ≤ 24 - length b → length (a ++ b) ≤ 24
    sums a b one other = grind (arith, common_steps)

    within : (n : ℕ) → n ≤ 24 → nat_le n 31 ≡ true
    within n less = grind (arith, nat_tests)

candidate_is : (name ending : List ℕ) (k : ℕ) → IsPlain name → IsTail 5 ending → k < 1000 → IsLabelName (candidate name ending k)
unfolding candidate
candidate_is name ending k plain tail few =
    let end = tail_is ending k tail few in
    let short = short_is (24 - length (tail_of ending k)) name (omega (arith, end.short)) plain in
    whole _ _ 9 (omega arith) end.short short.plain end.bytes short.short

-- the name that is found is one of the names that are tried
found_is : (names : List (List ℕ)) (name ending found : List ℕ) (k tries : ℕ) → IsPlain name → IsTail 5 ending → k + tries ≤ 1000
    → free_from names name ending k tries ≡ Some found → IsLabelName found
unfolding free_from
found_is names name ending found k zero plain tail few e = absurd (none-some _ e)
found_is names name ending found k (suc tries) plain tail few e =
    by_test (λ more. found_is names name ending found (k + 1) tries plain tail (omega (arith, few)) more)
    (candidate_is name ending k plain tail (omega (arith, few))) (is_known names (candidate name ending k)) e
  where
    by_test : (free_from names name ending (k + 1) tries ≡ Some found → IsLabelName found)
        → IsLabelName (candidate name ending k) → (t : Bool)
        → cond t (free_from names name ending (k + 1) tries) (Some (candidate name ending k)) ≡ Some found
        → IsLabelName found
    by_test later here true e = later e
    by_test later here false e = subst (λ n. IsLabelName n) (some_same _ _ e) here

ending_is : (domains : List (List ℕ)) (name : List ℕ) (s : Subject) → IsTail 5 (ending_of domains name s)
unfolding ending_of
ending_is domains name (subject.Domain n) = record { bytes = refl; short = omega arith }
ending_is domains name (subject.Machine n) = record { bytes = refl; short = omega arith }
ending_is domains name (subject.Time n) = record { bytes = refl; short = omega arith }
ending_is domains name (subject.Region n) = cases (is_known domains (candidate name [] 1))
  where
    cases : (t : Bool) → IsTail 5 (cond t (codes "_mr") [])
    cases true = record { bytes = refl; short = omega arith }
    cases false = record { bytes = refl; short = omega arith }

label_is : (d : Description) (names : List (List ℕ)) (s : Subject) (name : List ℕ) → label_at d names s ≡ Ok name → IsLabelName name
unfolding label_at
label_is d names s name e =
    found_is names _ _ name 1 512 (plain_is (name_of d s)) (ending_is _ _ s) (omega arith) (limited _ _ name e)

all_more : {X : Type 0} (P : X → Type 0) (xs : List X) (y : X) → AllByRecursion P xs → P y → AllByRecursion P (xs ++ y ∷ [])
all_more P [] y all here = (here, tt)
all_more P (x ∷ xs) y all here = (all.0, all_more P xs y all.1 here)

named_are : (d : Description) (names next : List (List ℕ)) (s : Subject) → AllByRecursion IsLabelName names
    → named_at d names s ≡ Ok next → AllByRecursion IsLabelName next
unfolding named_at bind
named_are d names next s all e = by_label (label_at d names s) refl e
  where
    by_label : (r : Result (List ℕ) Fault) → label_at d names s ≡ r
        → bind r (λ name. Ok (names ++ name ∷ [])) ≡ Ok next → AllByRecursion IsLabelName next
    by_label (Ok name) is e =
        let same : names ++ name ∷ [] ≡ next = cc in
        subst (λ ns. AllByRecursion IsLabelName ns) same (all_more IsLabelName names name all (label_is d names s name is))
    by_label (Err fault) is e = absurd cc

names_are_from : (d : Description) (names : List (List ℕ)) (subjects : List Subject) (all : List (List ℕ))
    → AllByRecursion IsLabelName names → names_from d names subjects ≡ Ok all → AllByRecursion IsLabelName all
unfolding names_from bind
names_are_from d names [] all each e = let same : names ≡ all = cc in subst (λ ns. AllByRecursion IsLabelName ns) same each
names_are_from d names (s ∷ subjects) all each e =
    by_next (λ next one more. names_are_from d next subjects all one more) (named_at d names s) refl e
  where
    by_next : ((next : List (List ℕ)) → AllByRecursion IsLabelName next → names_from d next subjects ≡ Ok all
        → AllByRecursion IsLabelName all)
        → (r : Result (List (List ℕ)) Fault) → named_at d names s ≡ r
        → bind r (λ next. names_from d next subjects) ≡ Ok all → AllByRecursion IsLabelName all
    by_next later (Ok next) is e = later next (named_are d names next s each is) e
    by_next later (Err fault) is e = absurd cc

-- each of the names is such a name
pub names_are : (d : Description) (names : List (List ℕ)) → names_of d ≡ Ok names → AllByRecursion IsLabelName names
unfolding names_of
names_are d names e = names_are_from d [] (subjects_of d) names tt e
