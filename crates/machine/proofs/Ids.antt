-- Cases on whether two numbers of objects are equal, and when two slots are.
use Rattle.std.{specs.{Cmp.tied_itself, Ordering.is_eq, Prelude.if◌then◌else◌}, proofs.Common.{ℕ, ◌&&◌, ◌∙◌, ◌≡◌, ◌≢◌, ◌⊎◌, Bool}}
use Rattle.std.proofs.{Common.{ap, arith, eqb, false, inl, inr, refl, subst, sym, true}, lemmas.Bool.{Decides.nat_tests, false≢true}}
use Rattle.{base.specs.declared.ids.{ObjId.ObjId, SlotRef.SlotRef}, machine.{specs.Machine.same_id, proofs.LookUps.{id_total, one_id}}}

pub itself : (id : ObjId) → same_id id id ≡ true
itself id = ap is_eq (tied_itself id_total id)

pub two_ids : (q id : ObjId) → same_id q id ≡ false → q ≢ id
two_ids q id tie same = false≢true (sym tie ∙ subst (λ k. same_id q k ≡ true) same (itself q))

pub one_or_two : (q id : ObjId) → (q ≡ id) ⊎ (q ≢ id)
one_or_two q id = by_tie (same_id q id) refl where
  by_tie : (tie : Bool) → same_id q id ≡ tie → (q ≡ id) ⊎ (q ≢ id)
  by_tie true e = inl (one_id q id e)
  by_tie false e = inr (two_ids q id e)

pub at_itself : {X : Type 0} (id : ObjId) (here elsewhere : X) → (if same_id id id then here else elsewhere) ≡ here
at_itself id here elsewhere = ap (λ tie. if tie then here else elsewhere) (itself id)

pub at_other : {X : Type 0} (q id : ObjId) (here elsewhere : X) → q ≢ id → (if same_id q id then here else elsewhere) ≡ elsewhere
at_other q id here elsewhere differs = by_tie (same_id q id) refl where
  by_tie : (tie : Bool) → same_id q id ≡ tie → (if tie then here else elsewhere) ≡ elsewhere
  by_tie true e = absurd (differs (one_id q id e))
  by_tie false e = refl

-- tests of two pairs of numbers
both_parts : (a b c d : ℕ) → (eqb a b && eqb c d) ≡ true → (a ≡ b) × (c ≡ d)
both_parts a b c d tie = (grind (arith, nat_tests), grind (arith, nat_tests))

pub slots_same : (a b : SlotRef) → (eqb a.holder.0 b.holder.0 && eqb a.index b.index) ≡ true → a ≡ b
slots_same a b tie =
    let parts = both_parts a.holder.0 b.holder.0 a.index b.index tie in
    λ i. record { holder = record { 0 = parts.0 i }; index = parts.1 i }
