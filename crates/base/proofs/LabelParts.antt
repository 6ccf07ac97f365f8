-- Sets of labels, part by part.
use Rattle.std.proofs.Common.{[], ℕ, ◌%◌, ◌*◌, ◌+◌, ◌/◌, ◌<◌, ◌==◌, ◌∙◌, ◌∷◌, ◌≡◌, ◌≢◌, ◌≤◌, ◌⊎◌, Bool, List, ap, arith, false, get_or, inl}
use Rattle.std.proofs.{Common.{inr, length, set, suc, sym, true, zero}, lemmas.Bool.{cases_eq, cases_lt, eq-eqb, ne_eqb}}
use Rattle.std.proofs.lemmas.{List.{get_or-set_other, get_or-set_same, get_or_past}, Nat.Bits.bit_at-zero}
use Rattle.base.specs.{declared.labels.part.Part.Part, Labels.{is_in, is_in_part, no_labels, no_part}}

-- no number is in no part
pub in_no_part : (number : ℕ) → is_in_part no_part number ≡ false
in_no_part number = ap (λ n. n == 1) (bit_at-zero number)

of_none : (none : Part) → ((n : ℕ) → is_in_part none n ≡ false) → (k n : ℕ)
    → is_in_part (get_or (none ∷ none ∷ none ∷ none ∷ []) k no_part) n ≡ false
of_none none is zero n = is n
of_none none is (suc zero) n = is n
of_none none is (suc (suc zero)) n = is n
of_none none is (suc (suc (suc zero))) n = is n
of_none none is (suc (suc (suc (suc k)))) n = in_no_part n

-- of parts in which no number is
pub in_nothing : (none : Part) → ((n : ℕ) → is_in_part none n ≡ false) → (label : ℕ)
    → is_in (record { parts = none ∷ none ∷ none ∷ none ∷ [] }) label ≡ false
unfolding is_in
in_nothing none is label = of_none none is (label / 64) (label % 64)

pub in_no_labels : (label : ℕ) → is_in no_labels label ≡ false
in_no_labels = in_nothing no_part in_no_part

-- of parts in one of which a number is
pub in_one_part : (label : ℕ) (none only : Part) (part : ℕ) → part ≡ label / 64 → label < 256 → ((n : ℕ) → is_in_part none n ≡ false)
    → ((n : ℕ) → is_in_part only n ≡ (n == label % 64)) → (other : ℕ)
    → is_in (record { parts = set (none ∷ none ∷ none ∷ none ∷ []) part only }) other ≡ (other == label)
unfolding is_in
in_one_part label none only part at few nobody one other = by (cases_eq (other / 64) part) where
  parts : List Part
  parts = none ∷ none ∷ none ∷ none ∷ []

  by : (other / 64 ≡ part) ⊎ (other / 64 ≢ part) → is_in_part (get_or (set parts part only) (other / 64) no_part) (other % 64) ≡ (other == label)
  by (inl same) =
      ap (λ k. is_in_part (get_or (set parts part only) k no_part) (other % 64)) same
      ∙ ap (λ p. is_in_part p (other % 64)) (get_or-set_same parts part only no_part (omega arith))
      ∙ one (other % 64) ∙ same_test (cases_eq (other % 64) (label % 64)) where
        same_test : (other % 64 ≡ label % 64) ⊎ (other % 64 ≢ label % 64) → (other % 64 == label % 64) ≡ (other == label)
        same_test (inl here) = eq-eqb _ _ here ∙ sym (eq-eqb other label (omega arith))
        same_test (inr apart) = ne_eqb _ _ apart ∙ sym (ne_eqb other label (λ is. apart (ap (λ n. n % 64) is)))
  by (inr apart) =
      ap (λ p. is_in_part p (other % 64)) (get_or-set_other parts part (other / 64) only no_part apart)
      ∙ of_none none nobody (other / 64) (other % 64)
      ∙ sym (ne_eqb other label (λ is. apart (ap (λ n. n / 64) is ∙ sym at)))

-- what is joined part by part is joined label by label
pub by_parts : (join : Bool → Bool → Bool) → join false false ≡ false → (one other : List Part) (a b c d : Part) → length one ≡ 4 → length other ≡ 4
    → ((n : ℕ) → is_in_part a n ≡ join (is_in_part (get_or one 0 no_part) n) (is_in_part (get_or other 0 no_part) n))
    → ((n : ℕ) → is_in_part b n ≡ join (is_in_part (get_or one 1 no_part) n) (is_in_part (get_or other 1 no_part) n))
    → ((n : ℕ) → is_in_part c n ≡ join (is_in_part (get_or one 2 no_part) n) (is_in_part (get_or other 2 no_part) n))
    → ((n : ℕ) → is_in_part d n ≡ join (is_in_part (get_or one 3 no_part) n) (is_in_part (get_or other 3 no_part) n)) → (label : ℕ)
    → is_in (record { parts = a ∷ b ∷ c ∷ d ∷ [] }) label ≡ join (is_in (record { parts = one }) label) (is_in (record { parts = other }) label)
unfolding is_in
by_parts join nothing one other a b c d four also first second third fourth label = by (label / 64) where
  n : ℕ
  n = label % 64

  by : (k : ℕ)
      → is_in_part (get_or (a ∷ b ∷ c ∷ d ∷ []) k no_part) n ≡ join (is_in_part (get_or one k no_part) n) (is_in_part (get_or other k no_part) n)
  by zero = first n
  by (suc zero) = second n
  by (suc (suc zero)) = third n
  by (suc (suc (suc zero))) = fourth n
  by (suc (suc (suc (suc k)))) =
      let past = λ (parts : List Part) (is : length parts ≡ 4).
      ap (λ part. is_in_part part n) (get_or_past parts (suc (suc (suc (suc k)))) no_part (omega arith)) ∙ in_no_part n in
      in_no_part n ∙ sym (nothing_of (past one four) (past other also)) where
        nothing_of : {x y : Bool} → x ≡ false → y ≡ false → join x y ≡ false
        nothing_of x y = (λ i. join (x i) (y i)) ∙ nothing

-- the part of a label, once no label of it is in the set, and the least label of a part
pub none_in_part : (parts : List Part) (part : Part) (k : ℕ) → part ≡ get_or parts k no_part → ((n : ℕ) → is_in_part part n ≡ false)
    → ((label : ℕ) → label < 64 * k → is_in (record { parts = parts }) label ≡ false) → (label : ℕ) → label < 64 * (k + 1)
    → is_in (record { parts = parts }) label ≡ false
unfolding is_in
none_in_part parts part k at nobody before label below = by (cases_lt label (64 * k)) where
  by : (label < 64 * k) ⊎ (64 * k ≤ label) → is_in_part (get_or parts (label / 64) no_part) (label % 64) ≡ false
  by (inl low) = before label low
  by (inr high) =
      let here : label / 64 ≡ k = omega arith in
      ap (λ p. is_in_part p (label % 64)) (ap (λ i. get_or parts i no_part) here ∙ sym at) ∙ nobody (label % 64)

pub least_in_part : (parts : List Part) (part : Part) (k least : ℕ) → part ≡ get_or parts k no_part → least < 64 → is_in_part part least ≡ true
    → ((n : ℕ) → n < least → is_in_part part n ≡ false)
    → ((label : ℕ) → label < 64 * k → is_in (record { parts = parts }) label ≡ false)
    → (is_in (record { parts = parts }) (k * 64 + least) ≡ true)
    × ((label : ℕ) → label < k * 64 + least → is_in (record { parts = parts }) label ≡ false)
unfolding is_in
least_in_part parts part k least at few is lowest before = (here, none) where
  here : is_in_part (get_or parts ((k * 64 + least) / 64) no_part) ((k * 64 + least) % 64) ≡ true
  here =
      let whole : (k * 64 + least) / 64 ≡ k = omega arith in
      let rest : (k * 64 + least) % 64 ≡ least = omega arith in
      (λ i. is_in_part (get_or parts (whole i) no_part) (rest i)) ∙ ap (λ p. is_in_part p least) (sym at) ∙ is

  none : (label : ℕ) → label < k * 64 + least → is_in_part (get_or parts (label / 64) no_part) (label % 64) ≡ false
  none label below = by (cases_lt label (64 * k)) where
    by : (label < 64 * k) ⊎ (64 * k ≤ label) → is_in_part (get_or parts (label / 64) no_part) (label % 64) ≡ false
    by (inl low) = before label low
    by (inr high) =
        let whole : label / 64 ≡ k = omega arith in
        ap (λ p. is_in_part p (label % 64)) (ap (λ i. get_or parts i no_part) whole ∙ sym at) ∙ lowest (label % 64) (omega arith)

-- no label at all, once no label of any part is in the set
pub none_at_all : (parts : List Part) → length parts ≡ 4 → (k : ℕ) → 4 ≤ k → ((label : ℕ) → label < 64 * k → is_in (record { parts = parts }) label ≡ false)
    → (label : ℕ) → is_in (record { parts = parts }) label ≡ false
unfolding is_in
none_at_all parts four k all before label = by (cases_lt label (64 * k)) where
  by : (label < 64 * k) ⊎ (64 * k ≤ label) → is_in_part (get_or parts (label / 64) no_part) (label % 64) ≡ false
  by (inl low) = before label low
  by (inr high) = ap (λ p. is_in_part p (label % 64)) (get_or_past parts (label / 64) no_part (omega arith)) ∙ in_no_part (label % 64)
