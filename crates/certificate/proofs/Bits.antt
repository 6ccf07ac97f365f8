-- Sets of kinds by their bits: a kind that rises above a set goes last among its kinds, and a set is that of its kinds.
use Rattle.std.{specs.Int.bit_at, proofs.Common.{[], ℕ, ◌*◌, ◌++◌, ◌+◌, ◌<◌, ◌==◌, ◌^◌, ◌∙◌, ◌∷◌, ◌≡◌, ◌≢◌, ◌≤◌, Bool, List, ap, arith}}
use Rattle.std.proofs.Common.{bit_or, cond, false, filter, fold, inl, inr, length, max, refl, subst, suc, sym, true, zero}
use Rattle.std.proofs.lemmas.{Bool.{cond-false, cond-true, eq-eqb, ne_eqb, Decides.eqb_tells}, Nat.{or_lt, pow_below, pow_pos}}
use Rattle.std.proofs.lemmas.Nat.Bits.{and_pow, bit_at-lt, bit_at-pow_other, bit_at-pow_same, bit_at_above, bit_at_or, same_from_bits_below}
use Rattle.base.specs.{declared.kind.{Kind.Kind, Kinds.Kinds, TheConstants.Kind.ALL}, Kinds.{is_among, kind_bit, kind_number}}
use Rattle.base.proofs.KindNames.{number_below, number_once}
use Rattle.certificate.specs.Kinds.{members, with_kind}

-- a kind is in a set just where its bit is 1

bit_test : (b p : ℕ) → b < 2 → 0 < p → (b * p == p) ≡ (b == 1)
bit_test zero p small full = ne_eqb (zero * p) p (λ e. absurd (omega (arith, e)))
bit_test (suc zero) p small full = eq-eqb (suc zero * p) p (omega arith)
bit_test (suc (suc b)) p small full = absurd (omega arith)

pub among : (set : ℕ) (kind : Kind) → is_among set kind ≡ (bit_at set (kind_number kind) == 1)
among set kind =
    let n = kind_number kind in
    ap (λ b. b == 2 ^ n) (and_pow set n)
    ∙ bit_test (bit_at set n) (2 ^ n) (bit_at-lt set n) (pow_pos n)

pub is_not_above : (set : ℕ) (kind : Kind) → set < 2 ^ kind_number kind → is_among set kind ≡ false
is_not_above set kind small =
    among set kind ∙ ap (λ b. b == 1) (bit_at_above set (kind_number kind) (kind_number kind) small (omega arith))

-- the bits of a set with one kind more

bit_same : (set : ℕ) (kind : Kind) → set < 2 ^ kind_number kind → bit_at (bit_or set (kind_bit kind)) (kind_number kind) ≡ 1
bit_same set kind small =
    let n = kind_number kind in
    bit_at_or set (2 ^ n) n
    ∙ (λ i. max (bit_at_above set n n small (omega arith) i) (bit_at-pow_same n i))

pub bit_other : (set i : ℕ) (kind : Kind) → i ≢ kind_number kind → bit_at (bit_or set (kind_bit kind)) i ≡ bit_at set i
bit_other set i kind apart =
    let n = kind_number kind in
    bit_at_or set (2 ^ n) i
    ∙ ap (λ b. max (bit_at set i) b) (bit_at-pow_other n i apart) ∙ omega arith

with_below : (set k : ℕ) (kind : Kind) → set < 2 ^ k → kind_number kind < k → bit_or set (kind_bit kind) < 2 ^ k
with_below set k kind small below = or_lt k set (kind_bit kind) small (pow_below (kind_number kind) k below)

-- kinds that follow one another by their numbers
abbrev Numbered : ℕ → List Kind → Type 0
Numbered n [] = Unit {0}
Numbered n (kind ∷ kinds) = (kind_number kind ≡ n) × Numbered (suc n) kinds

all_numbered : Numbered 0 ALL
all_numbered =
    (refl, (refl, (refl, (refl, (refl, (refl, (refl, (refl, (refl, (refl, (refl, (refl, (refl, (refl, (refl, (refl, (refl, tt)))))))))))))))))

-- a set has no kinds above its bits
none_above : (kinds : List Kind) (n set : ℕ) → Numbered n kinds → set < 2 ^ n → filter (is_among set) kinds ≡ []
none_above [] n set numbered small = refl
none_above (kind ∷ kinds) n set numbered small =
    let higher : 2 ^ n < 2 ^ suc n = pow_below n (suc n) (omega arith) in
    cond-false _ _ _ (is_not_above set kind (subst (λ k. set < 2 ^ k) (sym numbered.0) small))
    ∙ none_above kinds (suc n) set numbered.1 (omega arith)

cond_more : {X : Type 0} (b : Bool) (x : X) (xs more : List X) → cond b (x ∷ (xs ++ more)) (xs ++ more) ≡ cond b (x ∷ xs) xs ++ more
cond_more true x xs more = refl
cond_more false x xs more = refl

-- a kind that rises above a set goes last among its kinds
rises : (kinds : List Kind) (n : ℕ) → Numbered n kinds → (set : ℕ) (kind : Kind) → set < 2 ^ kind_number kind → n ≤ kind_number kind
    → kind_number kind < n + length kinds
    → filter (is_among (bit_or set (kind_bit kind))) kinds ≡ filter (is_among set) kinds ++ kind ∷ []
rises [] n numbered set kind small from below = absurd (omega arith)
rises (first ∷ kinds) n numbered set kind small from below =
    let new = bit_or set (kind_bit kind) in
    let k = kind_number kind in
    let higher : 2 ^ k < 2 ^ suc k = pow_below k (suc k) (omega arith) in
    elim (eqb_tells (kind_number first) k) [
      | inl same ↦
          let is : first ≡ kind = number_once first kind same.1 in
          let at : n ≡ k = sym numbered.0 ∙ same.1 in
          let after : Numbered (suc k) kinds = subst (λ m. Numbered (suc m) kinds) at numbered.1 in
          let here : is_among new first ≡ true =
          ap (is_among new) is ∙ among new kind ∙ ap (λ b. b == 1) (bit_same set kind small) in
          let before : is_among set first ≡ false = ap (is_among set) is ∙ is_not_above set kind small in
          let no_more : filter (is_among new) kinds ≡ [] =
          none_above kinds (suc k) new after (with_below set (suc k) kind (omega arith) (omega arith)) in
          let none : filter (is_among set) kinds ≡ [] = none_above kinds (suc k) set after (omega arith) in
          cond-true _ _ _ here ∙ (λ i. is i ∷ no_more i)
          ∙ sym (ap (λ ks. ks ++ kind ∷ []) (cond-false _ _ _ before ∙ none))
      | inr apart ↦
          let alike : is_among new first ≡ is_among set first =
          among new first ∙ ap (λ b. b == 1) (bit_other set (kind_number first) kind apart.1) ∙ sym (among set first) in
          let differ : n ≢ k = λ same. apart.1 (numbered.0 ∙ same) in
          let later = rises kinds (suc n) numbered.1 set kind small (omega (arith, differ)) (omega arith) in
          (λ i. cond (alike i) (first ∷ later i) (later i)) ∙ cond_more (is_among set first) first (filter (is_among set) kinds) (kind ∷ [])
    ]

pub members_more : (kinds : Kinds) (kind : Kind) → kinds.0 < kind_bit kind → members (with_kind kinds kind) ≡ members kinds ++ kind ∷ []
members_more kinds kind small =
    rises ALL 0 all_numbered kinds.0 kind small (omega arith) (number_below kind)

pub with_kind_small : (kinds : Kinds) (kind : Kind) → kinds.0 < 2 ^ 17 → (with_kind kinds kind).0 < 2 ^ 17
with_kind_small kinds kind small = with_below kinds.0 17 kind small (number_below kind)

-- a set is what its kinds make, one after another

-- two sets have the same kinds below a number
abbrev Agree : ℕ → ℕ → ℕ → Type 0
Agree n set other = (i : ℕ) → i < n → bit_at set i ≡ bit_at other i

-- what a bit says of its kind
bit_tells : (set n : ℕ) (kind : Kind) (b : ℕ) → kind_number kind ≡ n → bit_at set n ≡ b → is_among set kind ≡ (b == 1)
bit_tells set n kind b at is = among set kind ∙ ap (λ k. bit_at set k == 1) at ∙ ap (λ c. c == 1) is

-- kinds that join a set, each of which rises above it
pub data Joins : Kinds → List Kind → Kinds → Type 0 where
  all_joined : {kinds : Kinds} → Joins kinds [] kinds
  one_joins : {kinds all : Kinds} {more : List Kind} (kind : Kind) → kinds.0 < kind_bit kind → Joins (with_kind kinds kind) more all
      → Joins kinds (kind ∷ more) all

agree_here : (n set other : ℕ) → Agree n set other → bit_at set n ≡ bit_at other n → Agree (suc n) set other
agree_here n set other agree here i below = elim (eqb_tells i n) [
  | inl same ↦ subst (λ j. bit_at set j ≡ bit_at other j) (sym same.1) here
  | inr apart ↦ agree i (omega (arith, apart.1))
]

-- how the kinds of a set go on from one number
abbrev GoesOn : ℕ → List Kind → ℕ → Type 0
GoesOn set kinds n =
    (so_far : ℕ) → so_far < 2 ^ n → Agree n so_far set → Joins (record { 0 = so_far }) (filter (is_among set) kinds) (record { 0 = set })

one_joined : (set n so_far : ℕ) (kind : Kind) (kinds : List Kind) → kind_number kind ≡ n → so_far < 2 ^ n → Agree n so_far set
    → GoesOn set kinds (suc n) → (b : ℕ) → bit_at set n ≡ b → b < 2
    → Joins (record { 0 = so_far }) (filter (is_among set) (kind ∷ kinds)) (record { 0 = set })
one_joined set n so_far kind kinds at below agree later zero is under =
    let higher : 2 ^ n < 2 ^ suc n = pow_below n (suc n) (omega arith) in
    subst (λ ks. Joins (record { 0 = so_far }) ks (record { 0 = set })) (sym (cond-false _ _ _ (bit_tells set n kind zero at is)))
    (later so_far (omega arith) (agree_here n so_far set agree (bit_at_above so_far n n below (omega arith) ∙ sym is)))
one_joined set n so_far kind kinds at below agree later (suc zero) is under =
    let here : so_far < 2 ^ kind_number kind = subst (λ k. so_far < 2 ^ k) (sym at) below in
    let higher : 2 ^ n < 2 ^ suc n = pow_below n (suc n) (omega arith) in
    let new : ℕ = bit_or so_far (kind_bit kind) in
    let bit : bit_at new n ≡ 1 = subst (λ k. bit_at new k ≡ 1) at (bit_same so_far kind here) in
    let others : Agree n new set =
    λ i low. bit_other so_far i kind (λ same. absurd (omega (arith, same, at))) ∙ agree i low in
    let fits : new < 2 ^ suc n = with_below so_far (suc n) kind (omega arith) (omega (arith, at)) in
    subst (λ ks. Joins (record { 0 = so_far }) ks (record { 0 = set })) (sym (cond-true _ _ _ (bit_tells set n kind 1 at is)))
    (one_joins kind here (later new fits (agree_here n new set others (bit ∙ sym is))))
one_joined set n so_far kind kinds at below agree later (suc (suc b)) is under = absurd (omega arith)

joined : (set : ℕ) → set < 2 ^ 17 → (kinds : List Kind) (n : ℕ) → Numbered n kinds → n + length kinds ≡ 17 → GoesOn set kinds n
joined set small [] n numbered whole so_far below agree =
    let end : n ≡ 17 = omega arith in
    let same : so_far ≡ set =
    same_from_bits_below 17 so_far set (subst (λ k. so_far < 2 ^ k) end below) small (λ i under. agree i (omega arith)) in
    subst (λ (m : ℕ). Joins (record { 0 = so_far }) [] (record { 0 = m })) same all_joined
joined set small (kind ∷ kinds) n numbered whole so_far below agree =
    one_joined set n so_far kind kinds numbered.0 below agree
    (λ later fits same. joined set small kinds (suc n) numbered.1 (omega arith) later fits same) (bit_at set n) refl (bit_at-lt set n)

pub members_join : (kinds : Kinds) → kinds.0 < 2 ^ 17 → Joins (record { 0 = 0 }) (members kinds) kinds
members_join kinds small = joined kinds.0 small ALL 0 all_numbered refl 0 (pow_pos 0) (λ i below. absurd (omega arith))

pub joins_fold : (kinds all : Kinds) (more : List Kind) → Joins kinds more all → fold with_kind kinds more ≡ all
joins_fold kinds all more all_joined = refl
joins_fold kinds all more (one_joins {more = later} kind above joins) = joins_fold (with_kind kinds kind) all later joins
