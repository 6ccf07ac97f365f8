-- The number of each broken place, among the rules and among the places of its rule.
use Rattle.std.proofs.Common.{[], ℕ, ◌%◌, ◌*◌, ◌+◌, ◌-◌, ◌/◌, ◌<◌, ◌∙◌, ◌∷◌, ◌≡◌, List, None, Option, Some, ap, arith, inl, inr, refl}
use Rattle.std.proofs.{Common.{slice_get, subst, suc, sym, true, zero}, lemmas.{List.FromFn.length-range_with_len, Nat.div-mul-add}}
use Rattle.std.proofs.lemmas.{Nat.{mod-mul-add, mul-add-lt}, Option.{same_Some, slice_get_within}}
use Rattle.base.specs.declared.{edge.Edge.Edge, kind.Kind.Kind}
use Rattle.policy.specs.{declared.broken.{Broken.Broken, Rule.Rule}, Broken.{IsBrokenAt, broken_place, edge_asked_at}}
use Rattle.policy.specs.declared.broken.Broken.TheVariants as broken
use Rattle.policy.specs.declared.broken.Rule.TheVariants as rule
use Rattle.policy.specs.{Domain.EdgeTest, Places.{Begins, FindsLeast, IsUnder}}
use Rattle.policy.{specs.{Search.FindsBroken, Sweep.{count_of, place_of, rule_number}}, proofs.Places.{IsBelow, Searches}}
use Rattle.policy.proofs.{ClosingRules.{domain_joins, starts}, RowEdges.split_rises, Sweep.{numbers, stands, stands_alone}}

-- the rules in order

abbrev pub all_rules : List Rule
all_rules = rule.P1 ∷ rule.P2 ∷ rule.P3 ∷ rule.P4 ∷ rule.P5 ∷ rule.P6 ∷ rule.P7 ∷ rule.P8 ∷ []

abbrev pub of_rule : Rule → List ℕ
of_rule r = rule_number r ∷ []

pub rule_stands : (r : Rule) → slice_get all_rules (rule_number r - 1) ≡ Some r
rule_stands rule.P1 = refl
rule_stands _ = refl

numbered : (k : ℕ) (r : Rule) → slice_get all_rules k ≡ Some r → rule_number r ≡ k + 1
numbered zero r at = ap rule_number (sym (same_Some rule.P1 r at))
numbered (suc zero) r at = ap rule_number (sym (same_Some rule.P2 r at))
numbered (suc (suc zero)) r at = ap rule_number (sym (same_Some rule.P3 r at))
numbered (suc (suc (suc zero))) r at = ap rule_number (sym (same_Some rule.P4 r at))
numbered (suc (suc (suc (suc zero)))) r at = ap rule_number (sym (same_Some rule.P5 r at))
numbered (suc (suc (suc (suc (suc zero))))) r at = ap rule_number (sym (same_Some rule.P6 r at))
numbered (suc (suc (suc (suc (suc (suc zero)))))) r at = ap rule_number (sym (same_Some rule.P7 r at))
numbered (suc (suc (suc (suc (suc (suc (suc zero))))))) r at = ap rule_number (sym (same_Some rule.P8 r at))
numbered (suc (suc (suc (suc (suc (suc (suc (suc k)))))))) r at = cc

same_rule : (a b : Rule) → rule_number a ≡ rule_number b → a ≡ b
same_rule a b same = same_Some a b (sym (rule_stands a) ∙ ap (λ n. slice_get all_rules (n - 1)) same ∙ rule_stands b)

rule_of : Broken → Rule
rule_of (broken.SubjectsDisagree _ _ _ _) = rule.P1
rule_of (broken.ControlLacks _ _ _) = rule.P2
rule_of (broken.GrantLacks _ _ _ _) = rule.P3
rule_of (broken.DomainLacks _ _) = rule.P4
rule_of (broken.DeriveLacks _ _) = rule.P5
rule_of (broken.ContextLacks _ _) = rule.P6
rule_of (broken.ReplyLacks _ _) = rule.P7
rule_of (broken.LentLacks _ _) = rule.P8

-- the number of a pair of labels tells both
paired : (n a b : ℕ) → b < n → ((a * n + b) / n ≡ a) × ((a * n + b) % n ≡ b)
paired n a b below = (div-mul-add a n b below, mod-mul-add a n b below)

-- the label at which an edge starts
abbrev start : Option Edge → ℕ
start (Some edge) = edge.from
start None = 0

-- the number of a place between n labels, among those of its rule
record IsNumbered (n : ℕ) (b : Broken) : Type 0 where
  number : ℕ
  within : number < count_of n (rule_of b)
  begins : Begins (rule_number (rule_of b) ∷ place_of n (rule_of b) number) (broken_place b)

first_of : (r : Rule) (rest : List ℕ) (b : Broken) → Begins (rule_number r ∷ rest) (broken_place b) → rule_number r ≡ rule_number (rule_of b)
unfolding rule_of
first_of r rest (broken.SubjectsDisagree _ _ _ _) h = h.0
first_of r rest _ h = h.0

rule_begins : (b : Broken) → Begins (rule_number (rule_of b) ∷ []) (broken_place b)
unfolding rule_of
rule_begins (broken.SubjectsDisagree _ _ _ _) = (refl, tt)
rule_begins _ = (refl, tt)

pairs_rise : (n a b : ℕ) → 0 < n → a < b → IsBelow (a / n ∷ a % n ∷ []) (b / n ∷ b % n ∷ [])
pairs_rise n a b some lt = elim (split_rises n a b some lt) [
  | inl below ↦ inl below
  | inr (same, less) ↦ inr (same, inl less)
]

places_rise : (n : ℕ) (r : Rule) (a b : ℕ) → 0 < n → a < b → IsBelow (place_of n r a) (place_of n r b)
places_rise n rule.P1 a b some lt = pairs_rise n a b some lt
places_rise n rule.P3 a b some lt = pairs_rise n a b some lt
places_rise n _ a b some lt = inl lt

-- no label, no place
none_of_none : (r : Rule) (k : ℕ) → k < count_of 0 r → ⊥
none_of_none rule.P1 k below = omega (arith, below)
none_of_none rule.P3 k below = omega (arith, below)
none_of_none _ k below = omega (arith, below)

some_labels : (n : ℕ) (r : Rule) (k : ℕ) → k < count_of n r → 0 < n
some_labels zero r k below = absurd (none_of_none r k below)
some_labels (suc n) r k below = omega arith

module _ (test : EdgeTest) (n : ℕ) (joins : (from : ℕ) (kind : Kind) (to : ℕ) → test from kind to ≡ true → (from < n) × (to < n)) where
  of_pair : (a b : ℕ) → a < n → b < n → a * n + b < n * n
  of_pair a b one other = mul-add-lt a n b n one other

  place_number : (b : Broken) → IsBrokenAt test b → IsNumbered n b
  unfolding rule_of
  place_number (broken.SubjectsDisagree a b kind to) h =
      let both = domain_joins test n joins a b h.share.domain in
      let pair = paired n a b both.1 in
      record { number = a * n + b; within = of_pair a b both.0 both.1; begins = (refl, (pair.0, (pair.1, tt))) }
  place_number (broken.GrantLacks a b kind to) h =
      let below = starts test n joins (broken.GrantLacks a b kind to) h.asked in
      let pair = paired n a b below in
      record {
        number = a * n + b;
        within = of_pair a b (joins a _ h.asked.granted.endpoint h.asked.granted.grants).0 below;
        begins = (refl, (pair.0, (pair.1, tt)));
      }
  place_number place h = record { number = start (edge_asked_at place); within = starts test n joins place h.asked; begins = (refl, (refl, tt)) }

  -- the places of a rule
  pub of_places : (r : Rule) → Searches broken_place (IsBrokenAt test) (of_rule r) (numbers (count_of n r)) (place_of n r)
  of_places r = record { covers = covers; rises = rises } where
    covers :
        (b : Broken) → IsUnder broken_place (IsBrokenAt test) (of_rule r) b
        → (k : ℕ) × (a : ℕ) × (slice_get (numbers (count_of n r)) k ≡ Some a) × Begins (rule_number r ∷ place_of n r a) (broken_place b)
    covers b under =
        let at = place_number b under.1 in
        let same = same_rule (rule_of b) r (sym (first_of r [] b under.0)) in (
          at.number,
          at.number,
          stands (count_of n r) at.number (subst (λ (s : Rule). at.number < count_of n s) same at.within),
          subst (λ (s : Rule). Begins (rule_number s ∷ place_of n s at.number) (broken_place b)) same at.begins,
        )

    rises :
        (i j a b : ℕ) → i < j → slice_get (numbers (count_of n r)) i ≡ Some a → slice_get (numbers (count_of n r)) j ≡ Some b
        → IsBelow (place_of n r a) (place_of n r b)
    rises i j a b lt at_i at_j =
        let one = stands_alone (count_of n r) i a at_i in
        let other = stands_alone (count_of n r) j b at_j in
        let within = slice_get_within (numbers (count_of n r)) i a at_i in
        let size = length-range_with_len 0 (count_of n r) in
        let some = some_labels n r i (omega (arith, within, size)) in
        places_rise n r a b some (omega (arith, lt, one, other))

-- the rules
pub of_rules : (test : EdgeTest) → Searches broken_place (IsBrokenAt test) [] all_rules of_rule
of_rules test = record { covers = covers; rises = rises } where
  covers :
      (b : Broken) → IsUnder broken_place (IsBrokenAt test) [] b
      → (k : ℕ) × (r : Rule) × (slice_get all_rules k ≡ Some r) × Begins (rule_number r ∷ []) (broken_place b)
  covers b under = (rule_number (rule_of b) - 1, rule_of b, rule_stands (rule_of b), rule_begins b)

  rises : (i j : ℕ) (a b : Rule) → i < j → slice_get all_rules i ≡ Some a → slice_get all_rules j ≡ Some b → IsBelow (of_rule a) (of_rule b)
  rises i j a b lt at_i at_j =
      let one = numbered i a at_i in
      let other = numbered j b at_j in
      inl (omega (arith, lt, one, other))

-- the least place under no beginning is the least of all
pub of_all : (test : EdgeTest) (found : Option Broken) → FindsBroken test [] found → FindsLeast broken_place (IsBrokenAt test) found
of_all test None none = λ b broken. none b (tt, broken)
of_all test (Some b) least = record { has = least.has.1; first = λ other broken. least.first other (tt, broken) }
