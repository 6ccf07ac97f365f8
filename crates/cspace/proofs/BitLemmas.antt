-- Strings of bits by quotients and remainders of powers of two.
use Rattle.std.{specs.Int.bit_at, proofs.Common.{[], ℕ, ◌%◌, ◌*◌, ◌+◌, ◌-◌, ◌/◌, ◌<◌, ◌==◌, ◌^◌, ◌∙◌, ◌∷◌, ◌≡◌, ◌≢◌, ◌≤◌, Bool, List, None}}
use Rattle.std.proofs.{Common.{Some, ap, arith, false, length, refl, suc, sym, true, zero}, Math.Nat.{div-one, pow-suc}}
use Rattle.std.proofs.lemmas.Nat.{mod-pow-add, mod_below, pow_pos, same_from_place, shr-shr, Bits.bit_at-lt}
use Rattle.machine.specs.Bits.{after, bits, number, number_from, split}

-- the highest of one more bit stands apart
mod-pow-suc : (n k : ℕ) → n % 2 ^ suc k ≡ bit_at n k * 2 ^ k + n % 2 ^ k
mod-pow-suc n k = let e : suc k ≡ 1 + k = omega arith in ap (λ j. n % 2 ^ j) e ∙ mod-pow-add n 1 k

-- a bit of a number that was shifted
bit_at-shr : (n low k : ℕ) → bit_at (n / 2 ^ low) k ≡ bit_at n (k + low)
bit_at-shr n low k = let e : low + k ≡ k + low = omega arith in ap (λ q. q % 2) (shr-shr n low k) ∙ ap (bit_at n) e

pub length-bits : (size value : ℕ) → length (bits size value) ≡ size
length-bits zero value = refl
length-bits (suc size) value = ap suc (length-bits size value)

-- a string stands for the number whose bits it lists

digit : Bool → ℕ
digit true = 1
digit false = 0

digit_is : (bit : ℕ) → bit < 2 → digit (bit == 1) ≡ bit
unfolding digit
digit_is zero h = refl
digit_is (suc zero) h = refl
digit_is (suc (suc bit)) h = absurd (omega arith)

-- two bits that test alike are equal
same_digit : (a b : ℕ) → a < 2 → b < 2 → (a == 1) ≡ (b == 1) → a ≡ b
same_digit a b h k e = sym (digit_is a h) ∙ ap digit e ∙ digit_is b k

number_from-digit :
    (before : ℕ) (bit : Bool) (string : List Bool)
    → number_from before (bit ∷ string) ≡ number_from (before * 2 + digit bit) string
unfolding digit
number_from-digit before true string = refl
number_from-digit before false string = let e : before * 2 ≡ before * 2 + 0 = omega arith in ap (λ n. number_from n string) e

number_from-bits : (size before value : ℕ) → number_from before (bits size value) ≡ before * 2 ^ size + value % 2 ^ size
number_from-bits zero before value = omega arith
number_from-bits (suc size) before value =
    let bit : digit (bit_at value size == 1) ≡ bit_at value size = digit_is _ (bit_at-lt value size) in
    let twice : 2 ^ suc size ≡ 2 ^ size * 2 = pow-suc 2 size in
    let whole : (before * 2 + bit_at value size) * 2 ^ size + value % 2 ^ size ≡ before * 2 ^ suc size + value % 2 ^ suc size =
    rw (mod-pow-suc value size, twice) (omega arith) in
    number_from-digit before (bit_at value size == 1) (bits size value)
    ∙ number_from-bits size (before * 2 + digit (bit_at value size == 1)) value
    ∙ ap (λ d. (before * 2 + d) * 2 ^ size + value % 2 ^ size) bit ∙ whole

pub number-bits : (size value : ℕ) → number (bits size value) ≡ value % 2 ^ size
number-bits size value = number_from-bits size 0 value ∙ omega arith

-- a string begins with a guard if its highest bits are the guard's

after-cons : (b c : Bool) (bs cs : List Bool) → b ≡ c → after (b ∷ bs) (c ∷ cs) ≡ after bs cs
after-cons true true bs cs e = refl
after-cons false false bs cs e = refl
after-cons true false bs cs e = cc
after-cons false true bs cs e = cc

-- a string's highest bit, and the rest
bits-split :
    (size rest address : ℕ)
    → bits (suc size + rest) address ≡ (bit_at (address / 2 ^ rest) size == 1) ∷ bits (size + rest) address
bits-split size rest address =
    let e : suc size + rest ≡ suc (size + rest) = omega arith in
    ap (λ n. bits n address) e ∙ ap (λ bit. (bit == 1) ∷ bits (size + rest) address) (sym (bit_at-shr address rest size))

-- two numbers agree in one more bit if they agree in it and in the bits below it
same_above :
    (a b size : ℕ) → a % 2 ^ suc size ≡ b % 2 ^ suc size → (bit_at a size ≡ bit_at b size) × (a % 2 ^ size ≡ b % 2 ^ size)
same_above a b size e =
    same_from_place _ _ _ _ (2 ^ size) (mod_below a (2 ^ size) (pow_pos size)) (mod_below b (2 ^ size) (pow_pos size))
    (sym (mod-pow-suc a size) ∙ e ∙ mod-pow-suc b size)

same_below : (a b size : ℕ) → bit_at a size ≡ bit_at b size → a % 2 ^ size ≡ b % 2 ^ size → a % 2 ^ suc size ≡ b % 2 ^ suc size
same_below a b size high low =
    mod-pow-suc a size ∙ ap (λ bit. bit * 2 ^ size + a % 2 ^ size) high ∙ ap (λ n. bit_at b size * 2 ^ size + n) low
    ∙ sym (mod-pow-suc b size)

after-same :
    (size value address rest : ℕ) → address / 2 ^ rest % 2 ^ size ≡ value % 2 ^ size
    → after (bits size value) (bits (size + rest) address) ≡ Some (bits rest address)
after-same zero value address rest e = let none : 0 + rest ≡ rest = omega arith in ap (λ n. Some (bits n address)) none
after-same (suc size) value address rest e =
    let same = same_above (address / 2 ^ rest) value size e in
    ap (after (bits (suc size) value)) (bits-split size rest address)
    ∙ after-cons _ _ (bits size value) (bits (size + rest) address) (ap (λ bit. bit == 1) (sym same.0))
    ∙ after-same size value address rest same.1

after-other :
    (size value address rest : ℕ) → address / 2 ^ rest % 2 ^ size ≢ value % 2 ^ size
    → after (bits size value) (bits (size + rest) address) ≡ None
after-other zero value address rest h = absurd (h (omega arith))
after-other (suc size) value address rest h =
    ap (after (bits (suc size) value)) (bits-split size rest address)
    ∙ by_highest (bit_at value size == 1) (bit_at (address / 2 ^ rest) size == 1) refl refl (after-other size value address rest)
  where
    by_highest :
        (b c : Bool) → (bit_at value size == 1) ≡ b → (bit_at (address / 2 ^ rest) size == 1) ≡ c
        → (address / 2 ^ rest % 2 ^ size ≢ value % 2 ^ size → after (bits size value) (bits (size + rest) address) ≡ None)
        → after (b ∷ bits size value) (c ∷ bits (size + rest) address) ≡ None
    by_highest true true p q below =
        below (λ low. h (same_below _ _ size (same_digit _ _ (bit_at-lt _ size) (bit_at-lt _ size) (q ∙ sym p)) low))
    by_highest false false p q below =
        below (λ low. h (same_below _ _ size (same_digit _ _ (bit_at-lt _ size) (bit_at-lt _ size) (q ∙ sym p)) low))
    by_highest true false p q below = refl
    by_highest false true p q below = refl

pub after-short : (size value address left : ℕ) → left < size → after (bits size value) (bits left address) ≡ None
after-short zero value address left h = absurd (omega arith)
after-short (suc size) value address zero h = refl
after-short (suc size) value address (suc left) h =
    let shorter : left < size = omega arith in by_highest _ _ (after-short size value address left shorter) where
      by_highest :
          (b c : Bool) → after (bits size value) (bits left address) ≡ None
          → after (b ∷ bits size value) (c ∷ bits left address) ≡ None
      by_highest true true e = e
      by_highest false false e = e
      by_highest true false e = refl
      by_highest false true e = refl

-- the first bits of a string

split-cons :
    (size : ℕ) (b : Bool) (bs : List Bool) (parts : List Bool × List Bool) → split size bs ≡ Some parts
    → split (suc size) (b ∷ bs) ≡ Some (b ∷ parts.0, parts.1)
split-cons size b bs parts e = rw e refl

split-bits :
    (size address rest : ℕ) → split size (bits (size + rest) address) ≡ Some (bits size (address / 2 ^ rest), bits rest address)
split-bits zero address rest = let none : 0 + rest ≡ rest = omega arith in ap (λ n. Some ([], bits n address)) none
split-bits (suc size) address rest =
    ap (split (suc size)) (bits-split size rest address) ∙ split-cons size _ _ _ (split-bits size address rest)

pub split-short : (size address left : ℕ) → left < size → split size (bits left address) ≡ None
split-short zero address left h = absurd (omega arith)
split-short (suc size) address zero h = refl
split-short (suc size) address (suc left) h =
    let shorter : left < size = omega arith in let e = split-short size address left shorter in rw e refl

-- the first `size` of `left` bits

pub after-equal :
    (size value address left n : ℕ) → n ≡ size → n ≤ left → address / 2 ^ (left - n) % 2 ^ n ≡ value / 1 % 2 ^ n
    → after (bits size value) (bits left address) ≡ Some (bits (left - n) address)
after-equal size value address left n e within same =
    let whole : left ≡ n + (left - n) = omega arith in
    ap (λ m. after (bits m value) (bits left address)) (sym e) ∙ ap (λ m. after (bits n value) (bits m address)) whole
    ∙ after-same n value address (left - n) (same ∙ ap (λ m. m % 2 ^ n) (div-one value))

pub after-unequal :
    (size value address left n : ℕ) → n ≡ size → n ≤ left → address / 2 ^ (left - n) % 2 ^ n ≢ value / 1 % 2 ^ n
    → after (bits size value) (bits left address) ≡ None
after-unequal size value address left n e within apart =
    let whole : left ≡ n + (left - n) = omega arith in
    ap (λ m. after (bits m value) (bits left address)) (sym e) ∙ ap (λ m. after (bits n value) (bits m address)) whole
    ∙ after-other n value address (left - n) (λ same. apart (same ∙ ap (λ m. m % 2 ^ n) (sym (div-one value))))

pub split-within :
    (size address left n : ℕ) → n ≡ size → n ≤ left
    → split size (bits left address) ≡ Some (bits n (address / 2 ^ (left - n)), bits (left - n) address)
split-within size address left n e within =
    let whole : left ≡ n + (left - n) = omega arith in
    ap (λ m. split m (bits left address)) (sym e) ∙ ap (λ m. split n (bits m address)) whole ∙ split-bits n address (left - n)
