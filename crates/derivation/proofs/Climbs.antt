-- Descent by parents: a slot descends from its parent, and from what that descends from; and when two slots differ.
use Rattle.std.proofs.{Common.{ℕ, ◌&&◌, ◌≡◌, ◌≢◌, ◌⊎◌, Some, ap, arith, eqb, false, inl, inr, subst}, lemmas.Bool.Decides.nat_tests}
use Rattle.{base.specs.declared.ids.SlotRef.SlotRef, machine.specs.{Machine.{Machine, parent_of}, WellFormed.{Descends, child, further}}}

-- a slot descends from its parent, and from what that descends from
pub descends_by :
    (m : Machine) {slot above : SlotRef} → Descends m slot above
    → (parent : SlotRef) → parent_of m slot ≡ Some parent → (parent ≡ above) ⊎ Descends m parent above
descends_by m (child {slot} {parent} is) over at = inl cc
descends_by m (further {slot} {parent} {above} is rest) over at =
    let same : parent ≡ over = cc in inr (subst (λ s. Descends m s above) same rest)

-- two slots differ where their parts do
some_part : (a b c d : ℕ) → (eqb a b && eqb c d) ≡ false → a ≡ b → c ≡ d → ⊥
some_part a b c d tie one two = grind (arith, nat_tests)

pub slots_differ : (a b : SlotRef) → (eqb a.holder.0 b.holder.0 && eqb a.index b.index) ≡ false → a ≢ b
slots_differ a b tie same =
    some_part a.holder.0 b.holder.0 a.index b.index tie (ap (λ (s : SlotRef). s.holder.0) same)
    (ap (λ (s : SlotRef). s.index) same)
