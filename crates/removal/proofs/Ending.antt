-- A removal is at its end when the chosen slots are empty and each object that is going has been looked through.
use Rattle.std.specs.Prelude.{◌⊎◌, Contains, None, Option, Some, is_some, not, slice_get}
use Rattle.std.proofs.Common.{[], ℕ, ◌∙◌, ◌∷◌, ◌≡◌, ◌≤◌, Bool, List, ap, arith, cond, false, inl, inr, length, refl, subst, suc, sym, true}
use Rattle.{std.proofs.{Common.zero, lemmas.{Bool.false≢true, Option.slice_get-get_or}}, base.specs.declared.ids.SlotRef.SlotRef}
use Rattle.machine.specs.{declared.cap.Cap.Cap, Changes.with_none_going, Counts.caps_to}
use Rattle.machine.specs.{Gone.{IsClosedSet, IsGone, LosesAll, gone_of}, Machine.{Machine, cap_of}, Removal.cap_after}
use Rattle.machine.proofs.CapCounts.{all_lost, caps_to-some, none-caps_to, none_left}
use Rattle.{machine.proofs.GoneLemmas.{gone_decided, gone_least, losing_decided}, removal.specs.UnderWay.{AreEmptied, IsUnderWay}}

none_past : {A : Type 0} → (xs : List A) (k : ℕ) → slice_get xs k ≡ None → length xs ≤ k
none_past [] k none = omega arith
none_past (x ∷ xs) zero none = absurd (cc)
none_past (x ∷ xs) (suc k) none = let rest = none_past xs k none in omega (arith, rest)

-- a removal begins when nothing is going any more
pub begun : (m : Machine) (chosen : SlotRef → Bool) → IsUnderWay m chosen (with_none_going m) 0
unfolding with_none_going cap_of caps_to
begun m chosen =
    record {
      rest = refl;
      kept = λ slot. inl refl;
      going = λ id. (λ listed. absurd (omega (arith, listed.1)), λ lost. absurd (omega (arith, lost.0, lost.1)));
      once = λ i j d before within. absurd (omega (arith, within));
      within = omega arith;
      through = λ index slot less is. absurd (omega (arith, less));
    }

module _
    (m : Machine) (chosen : SlotRef → Bool) (now : Machine) (looked : ℕ) (way : IsUnderWay m chosen now looked)
    (given : (slot : SlotRef) → chosen slot ≡ true → cap_of now slot ≡ None) (all : slice_get now.going looked ≡ None) where
  abbrev is_empty : SlotRef → Bool
  is_empty slot = not (is_some (cap_of now slot))

  empty_from : (slot : SlotRef) → cap_of now slot ≡ None → is_empty slot ≡ true
  empty_from slot none = ap (λ found. not (is_some found)) none

  from_empty : (slot : SlotRef) → is_empty slot ≡ true → cap_of now slot ≡ None
  from_empty slot is = by_cap (cap_of now slot) is where
    by_cap : (found : Option Cap) → not (is_some found) ≡ true → found ≡ None
    by_cap None e = refl
    by_cap (Some held) e = absurd (false≢true e)

  -- what is filled was filled before
  was : (slot : SlotRef) (held : Cap) → cap_of now slot ≡ Some held → cap_of m slot ≡ Some held
  was slot held filled = by_kept (way.kept slot) where
    by_kept : (cap_of now slot ≡ cap_of m slot) ⊎ ((cap_of now slot ≡ None) × IsGone m chosen slot) → cap_of m slot ≡ Some held
    by_kept (inl same) = sym same ∙ filled
    by_kept (inr emptied) = let none = emptied.0 in cc

  past_all : length now.going ≤ looked
  past_all = none_past now.going looked all

  -- each slot of an object that is going is empty
  hollow : (slot : SlotRef) → Contains now.going slot.holder → cap_of now slot ≡ None
  hollow slot listed =
      way.through listed.0 slot (omega (arith, listed.1, past_all))
      (slice_get-get_or now.going listed.0 slot.holder listed.1 ∙ ap Some listed.2)

  closed : IsClosedSet m chosen is_empty
  closed =
      record {
        holds = λ slot is. empty_from slot (given slot is);
        closes =
            λ slot holder loses.
            empty_from slot
            (hollow slot
            ((way.going slot.holder).1 (
              subst (λ id. 1 ≤ caps_to m id) loses.its_own (caps_to-some m loses.last loses.final loses.there),
              none-caps_to now slot.holder
                  (λ each held filled same. left each held filled (loses.all each held (was each held filled) same)),
            )));
      } where
        left : (each : SlotRef) (held : Cap) → cap_of now each ≡ Some held → is_empty each ≡ true → ⊥
        left each held filled is = let none = from_empty each is in cc

  caps_left : (slot : SlotRef) → cap_of now slot ≡ cap_after m (gone_of m chosen) slot
  caps_left slot = by_gone (gone_of m chosen slot) refl where
    by_gone : (b : Bool) → gone_of m chosen slot ≡ b → cap_of now slot ≡ cond b None (cap_of m slot)
    by_gone true is = from_empty slot ((gone_least m chosen).least is_empty closed slot is)
    by_gone false is = by_kept (way.kept slot) where
      by_kept : (cap_of now slot ≡ cap_of m slot) ⊎ ((cap_of now slot ≡ None) × IsGone m chosen slot) → cap_of now slot ≡ cap_of m slot
      by_kept (inl same) = same
      by_kept (inr emptied) = absurd (false≢true (sym is ∙ (gone_decided m chosen slot).1 emptied.1))

  pub ended : AreEmptied m chosen now
  ended =
      record {
        rest = way.rest;
        caps = caps_left;
        going =
            λ id. (
              λ listed.
                  let lost = (way.going id).0 listed in
                  (losing_decided m (gone_of m chosen) id).1 (all_lost m now (gone_of m chosen) caps_left id lost.0 lost.1),
              λ vanishing.
                  let loses : LosesAll m (gone_of m chosen) id = (losing_decided m (gone_of m chosen) id).0 vanishing in
                  (way.going id).1 (
                    subst (λ k. 1 ≤ caps_to m k) loses.its_own (caps_to-some m loses.last loses.final loses.there),
                    none_left m now (gone_of m chosen) caps_left id loses,
                  ),
            );
        once = way.once;
        hollow = hollow;
      }
