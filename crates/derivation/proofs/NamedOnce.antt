-- Descendants named one after another, each the next behind the one before: they are all that descend from a slot, each once.
use Rattle.std.specs.Prelude.{◌↔◌, AllPairs, Contains, None, Option, Some, slice_index_or}
use Rattle.std.proofs.Common.{ℕ, ◌<◌, ◌∙◌, ◌∷◌, ◌≡◌, ◌≢◌, ◌⊎◌, List, ap, arith, inl, inr, length, refl, subst, suc, sym, zero}
use Rattle.std.proofs.lemmas.List.{Elements.All-contains_itself, Kept.AllPairs-cons}
use Rattle.{base.specs.declared.ids.SlotRef.SlotRef, machine.specs.{Machine.Machine, WellFormed.Descends}}
use Rattle.derivation.specs.Descendants.{AreAllDescendants, AreNamed, IsBehind, IsLower, next, none}

-- numbers in order
in_order : (a b : ℕ) → (a ≡ b) ⊎ (a < b) ⊎ (b < a)
in_order zero zero = inl refl
in_order zero (suc b) = inr (inl (omega arith))
in_order (suc a) zero = inr (inr (omega arith))
in_order (suc a) (suc b) = elim (in_order a b) [
  | inl same ↦ inl (ap suc same)
  | inr (inl less) ↦ inr (inl (omega arith))
  | inr (inr more) ↦ inr (inr (omega arith))
]

same_slots : (a b : SlotRef) → a.holder.0 ≡ b.holder.0 → a.index ≡ b.index → a ≡ b
same_slots a b holder index = λ i. record { holder = record { 0 = holder i }; index = index i }

-- of two slots one is lower, or they are one
pub one_is_lower : (a b : SlotRef) → (a ≡ b) ⊎ IsLower a b ⊎ IsLower b a
one_is_lower a b = elim (in_order a.holder.0 b.holder.0) [
  | inl holder ↦ elim (in_order a.index b.index) [
    | inl index ↦ inl (same_slots a b holder index)
    | inr (inl less) ↦ inr (inl (inr (holder, less)))
    | inr (inr more) ↦ inr (inr (inr (sym holder, more)))
  ]
  | inr (inl less) ↦ inr (inl (inl less))
  | inr (inr more) ↦ inr (inr (inl more))
]

pub no_lower_itself : (a b : SlotRef) → a ≡ b → ¬ (IsLower a b)
no_lower_itself a b same (inl less) = let h : a.holder.0 ≡ b.holder.0 = ap (λ (s : SlotRef). s.holder.0) same in omega (arith, less, h)
no_lower_itself a b same (inr (holder, less)) = let i : a.index ≡ b.index = ap (λ (s : SlotRef). s.index) same in omega (arith, less, i)

lower_lower : (a b c : SlotRef) → IsLower a b → IsLower b c → IsLower a c
lower_lower a b c (inl one) (inl two) = inl (omega (arith, one, two))
lower_lower a b c (inl one) (inr (holder, two)) = inl (omega (arith, one, holder))
lower_lower a b c (inr (holder, one)) (inl two) = inl (omega (arith, two, holder))
lower_lower a b c (inr (first, one)) (inr (second, two)) = inr (first ∙ second, omega (arith, one, two))

behind_behind : (last : Option SlotRef) (a b : SlotRef) → IsBehind last a → IsLower a b → IsBehind last b
behind_behind None a b one two = tt
behind_behind (Some last) a b one two = lower_lower last a b one two

at_head : (slot q : SlotRef) (slots : List SlotRef) → slot ≡ q → Contains (slot ∷ slots) q
at_head slot q slots same = (zero, omega arith, same)

in_rest : (slot q : SlotRef) (slots : List SlotRef) → Contains slots q → Contains (slot ∷ slots) q
in_rest slot q slots there = (suc there.0, omega (arith, there.1), there.2)

head_or_rest : (slot q : SlotRef) (slots : List SlotRef) → Contains (slot ∷ slots) q → (slot ≡ q) ⊎ Contains slots q
head_or_rest slot q slots there = by_index there.0 there.1 there.2 where
  by_index : (k : ℕ) → k < suc (length slots) → slice_index_or (slot ∷ slots) k q ≡ q → (slot ≡ q) ⊎ Contains slots q
  by_index zero within found = inl found
  by_index (suc k) within found = inr (k, omega arith, found)

-- what is named behind a slot
record AreBehind (m : Machine) (above : SlotRef) (last : Option SlotRef) (slots : List SlotRef) : Type 0 where
  each : (q : SlotRef) → Contains slots q ↔ Descends m q above × IsBehind last q
  once : AllPairs (λ a b. a ≢ b) slots

are_behind : (m : Machine) (above : SlotRef) {last : Option SlotRef} {slots : List SlotRef} → AreNamed m above last slots → AreBehind m above last slots
are_behind m above (none {last} all) =
    record {
      each = λ q. (λ there. absurd (omega (arith, there.1)), λ w. absurd (all q w.0 w.1));
      once = λ i j d less within. absurd (omega (arith, within));
    }
are_behind m above (next {last} {slot} {slots} is named) =
    let rest = are_behind m above named in
    record {
      each = λ q. (
        λ there. elim (head_or_rest slot q slots there) [
          | inl same ↦ subst (λ s. Descends m s above × IsBehind last s) same (is.0, is.1)
          | inr later ↦ let w = (rest.each q).0 later in (w.0, behind_behind last slot q is.1 w.1)
        ],
        λ w. elim (one_is_lower slot q) [
          | inl same ↦ at_head slot q slots same
          | inr (inl lower) ↦ in_rest slot q slots ((rest.each q).1 (w.0, lower))
          | inr (inr higher) ↦ absurd (is.2 q w.0 w.1 higher)
        ],
      );
      once =
          AllPairs-cons (λ a b. a ≢ b) slot slots
          (λ k d within same. no_lower_itself slot (slice_index_or slots k d) same ((rest.each (slice_index_or slots k d)).0 (All-contains_itself slots k d within)).1)
          rest.once;
    }

pub named_once : (m : Machine) (above : SlotRef) (slots : List SlotRef) → AreNamed m above None slots → AreAllDescendants m above slots
named_once m above slots named =
    let all = are_behind m above named in
    record { each = λ q. (λ there. ((all.each q).0 there).0, λ below. (all.each q).1 (below, tt)); once = all.once }
