-- The way up from a slot of the derivation tree: each step shortens it.
use Rattle.std.specs.{FinMap.{contains_key-keys, keys}, List.{count_by, list_any}, Option.is_some, Prelude.{None, Option, Some, nat_lt}}
use Rattle.std.proofs.Common.{ℕ, ◌+◌, ◌<◌, ◌∙◌, ◌≡◌, ◌≤◌, ap, arith, false, length, refl, suc, sym, true, zero}
use Rattle.{std.proofs.lemmas.{Bool.Decides.nat_tests, List.Sums.count_by-le-length}, base.specs.declared.ids.SlotRef.SlotRef}
use Rattle.machine.{specs.{Machine.{Machine, parent_of, same_slot}, Tree.IsRanked}, proofs.LookUps.one_slot}
use Rattle.objects.proofs.Passing.{fewer_pass}

-- one step up, if there is a parent, and the steps after it
abbrev steps : (SlotRef → ℕ) → Option SlotRef → ℕ
steps after None = 0
steps after (Some parent) = suc (after parent)

-- the number of steps up, at most this number
steps_within : Machine → ℕ → SlotRef → ℕ
steps_within m zero slot = 0
steps_within m (suc n) slot = steps (steps_within m n) (parent_of m slot)

pub steps_up : Machine → SlotRef → ℕ
steps_up m slot = steps_within m (length (keys m.parents)) slot

-- a slot with a parent is among the children
pub among_keys :
    (m : Machine) (slot parent : SlotRef) → parent_of m slot ≡ Some parent → list_any (same_slot slot) (keys m.parents) ≡ true
unfolding parent_of
among_keys m slot parent is = sym (contains_key-keys m.parents slot) ∙ ap is_some is

-- at most one more step is one step up and the rest
step_within :
    (m : Machine) (n : ℕ) (slot : SlotRef) → steps_within m (suc n) slot ≡ steps (steps_within m n) (parent_of m slot)
unfolding steps_within
step_within m n slot = refl

-- tests of numbers that are at most another
higher : (a b c : ℕ) → b < c → nat_lt a (b + 1) ≡ true → nat_lt a (c + 1) ≡ true
higher a b c less low = grind (arith, nat_tests)

no_higher : (a b : ℕ) → b < a → nat_lt a (b + 1) ≡ false
no_higher a b less = grind (arith, nat_tests)

as_high : (a b : ℕ) → a ≡ b → nat_lt a (b + 1) ≡ true
as_high a b same = grind (arith, nat_tests)

module _ (m : Machine) (ranked : IsRanked m) where
  -- the number of children whose rank is no higher than a slot's
  down_to : SlotRef → ℕ
  down_to slot = count_by (λ q. nat_lt (ranked.0 q) (ranked.0 slot + 1)) (keys m.parents)

  -- the parent has fewer
  fewer_above : (slot parent : SlotRef) → parent_of m slot ≡ Some parent → down_to parent < down_to slot
  unfolding down_to
  fewer_above slot parent is =
      let less : ranked.0 parent < ranked.0 slot = ranked.1 slot parent is in
      fewer_pass (λ q. nat_lt (ranked.0 q) (ranked.0 parent + 1)) (λ q. nat_lt (ranked.0 q) (ranked.0 slot + 1))
      (λ q low. higher (ranked.0 q) (ranked.0 parent) (ranked.0 slot) less low) (keys m.parents) (same_slot slot)
      (λ q tie.
      let same : ranked.0 slot ≡ ranked.0 q = ap ranked.0 (one_slot slot q tie) in
      (no_higher (ranked.0 q) (ranked.0 parent) (omega arith), as_high (ranked.0 q) (ranked.0 slot) (omega arith)))
      (among_keys m slot parent is)

  -- no way has more steps
  settled : (n : ℕ) (slot : SlotRef) → down_to slot ≤ n → steps_within m n slot ≡ steps_within m (suc n) slot
  unfolding steps_within
  settled zero slot low = by_parent (parent_of m slot) refl where
    by_parent : (above : Option SlotRef) → parent_of m slot ≡ above → 0 ≡ steps (steps_within m 0) above
    by_parent None is = refl
    by_parent (Some parent) is = let fewer : down_to parent < down_to slot = fewer_above slot parent is in absurd (omega arith)
  settled (suc n) slot low = by_parent (parent_of m slot) refl (λ q. settled n q) where
    by_parent :
        (above : Option SlotRef) → parent_of m slot ≡ above
        → ((q : SlotRef) → down_to q ≤ n → steps_within m n q ≡ steps_within m (suc n) q)
        → steps (steps_within m n) above ≡ steps (steps_within m (suc n)) above
    by_parent None is again = refl
    by_parent (Some parent) is again =
        let fewer : down_to parent < down_to slot = fewer_above slot parent is in ap suc (again parent (omega arith))

  -- there are no more than pairs
  down_to-bounded : (slot : SlotRef) → down_to slot ≤ length (keys m.parents)
  unfolding down_to
  down_to-bounded slot = count_by-le-length (λ q. nat_lt (ranked.0 q) (ranked.0 slot + 1)) (keys m.parents)

  pub way_shortens : (slot parent : SlotRef) → parent_of m slot ≡ Some parent → steps_up m parent < steps_up m slot
  unfolding steps_up
  way_shortens slot parent is =
      let all : ℕ = length (keys m.parents) in
      let one : steps_within m all slot ≡ suc (steps_within m all parent) =
      settled all slot (down_to-bounded slot) ∙ step_within m all slot ∙ ap (steps (steps_within m all)) is in
      omega arith
