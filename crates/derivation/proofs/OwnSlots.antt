-- The slots of an object whose index is below a number: none at 0, and one more at the next.
use Rattle.std.{specs.Prelude.nat_lt, proofs.Common.{ℕ, ◌&&◌, ◌+◌, ◌||◌, ◌∙◌, ◌≡◌, ◌≢◌, Bool, ap, arith, false, refl, subst, sym, true}}
use Rattle.{std.proofs.lemmas.Bool.{Decides.nat_tests, false≢true}, base.specs.declared.ids.{ObjId.ObjId, SlotRef.SlotRef}}
use Rattle.machine.{specs.Machine.{same_id, same_slot}, proofs.{Exchange.slot_itself, Ids.itself, LookUps.{one_id, one_slot}}}
use Rattle.{machine.proofs.RoundLemmas.or_second, derivation.specs.OwnSlots.is_slot_below}

abbrev slot_at : ObjId → ℕ → SlotRef
slot_at id i = record { holder = id; index = i }

-- tests of numbers
below_none : (a : ℕ) → nat_lt a 0 ≡ false
below_none a = grind (arith, nat_tests)

below_next : (a : ℕ) → nat_lt a (a + 1) ≡ true
below_next a = grind (arith, nat_tests)

below_apart : (a b : ℕ) → a ≢ b → nat_lt a b ≡ nat_lt a (b + 1)
below_apart a b apart = grind (arith, nat_tests)

fails_too : (one two : Bool) → two ≡ false → (one && two) ≡ false
fails_too true two is = is
fails_too false two is = refl

pub none_below : (id : ObjId) (q : SlotRef) → is_slot_below id 0 q ≡ false
none_below id q = fails_too (same_id q.holder id) (nat_lt q.index 0) (below_none q.index)

or_none : (one : Bool) → (one || false) ≡ one
or_none true = refl
or_none false = refl

-- one more is the slot of that index
next_itself : (id : ObjId) (i : ℕ) → is_slot_below id (i + 1) (slot_at id i) ≡ true
next_itself id i = ap (λ tie. tie && nat_lt i (i + 1)) (itself id) ∙ below_next i

pub one_below :
    (id : ObjId) (i : ℕ) (q : SlotRef)
    → (is_slot_below id i q || same_slot q (slot_at id i)) ≡ is_slot_below id (i + 1) q
one_below id i q = by_tie (same_slot q (slot_at id i)) refl where
  apart : same_slot q (slot_at id i) ≡ false → q.holder ≡ id → q.index ≢ i
  apart differs one two =
      let same : q ≡ slot_at id i = λ k. record { holder = one k; index = two k } in
      false≢true (sym differs ∙ subst (λ s. same_slot s (slot_at id i) ≡ true) (sym same) (slot_itself (slot_at id i)))

  by_holder :
      (tie : Bool) → same_id q.holder id ≡ tie → same_slot q (slot_at id i) ≡ false
      → (tie && nat_lt q.index i) ≡ (tie && nat_lt q.index (i + 1))
  by_holder true one differs = below_apart q.index i (apart differs (one_id q.holder id one))
  by_holder false one differs = refl

  by_tie : (tie : Bool) → same_slot q (slot_at id i) ≡ tie → (is_slot_below id i q || tie) ≡ is_slot_below id (i + 1) q
  by_tie true same =
      or_second (is_slot_below id i q) true refl
      ∙ sym (ap (is_slot_below id (i + 1)) (one_slot q (slot_at id i) same) ∙ next_itself id i)
  by_tie false differs =
      or_none (is_slot_below id i q) ∙ by_holder (same_id q.holder id) refl differs
