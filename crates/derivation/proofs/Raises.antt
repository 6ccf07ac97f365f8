-- Empty slots that come below their first filled ancestor: some and then others, or all on the way up from one.
use Rattle.std.{specs.Prelude.{Option, Some}, proofs.Common.{◌||◌, ◌∙◌, ◌≡◌, ◌⊎◌, Bool, ap, false, inl, inr, refl, subst, sym, true}}
use Rattle.{std.proofs.lemmas.Bool.false≢true, base.specs.declared.ids.SlotRef.SlotRef}
use Rattle.machine.{specs.{Machine.{Machine, cap_of, parent_of}, Orphans.Nearest}, proofs.RoundLemmas.or_second}
use Rattle.derivation.specs.Raising.{AreRaised, AreRaisedFrom, IsOnWay, further, is_empty, start}
use Rattle.derivation.proofs.Ancestors.{end_stays, ended, only_nearest, ways_led}

-- the same slots are empty after only pairs of the tree have changed
pub same_empties : (old new : Machine) → new ≡ record old { parents = new.parents } → is_empty new ≡ is_empty old
unfolding cap_of
same_empties old new rest = ap is_empty rest

-- some have come below their first filled ancestor, as each has that is named by other words
pub raised_alike :
    (old new : Machine) (one other : SlotRef → Type 0) → ((q : SlotRef) → other q → one q) → ((q : SlotRef) → one q → other q)
    → AreRaised old new one → AreRaised old new other
raised_alike old new one other back on raised =
    record {
      rest = raised.rest;
      up = λ q is. raised.up q (back q is);
      others = λ q. elim (raised.others q) [ inl same ↦ inl same | inr is ↦ inr (on q is) ];
    }

-- each has the parent that it had, or its first filled ancestor
pub each_raised :
    (old new : Machine) (these : SlotRef → Type 0) → AreRaised old new these → (q : SlotRef)
    → (parent_of new q ≡ parent_of old q) ⊎ Nearest (parent_of old) (is_empty old) (parent_of old q) (parent_of new q)
each_raised old new these raised q = elim (raised.others q) [ inl same ↦ inl same | inr is ↦ inr (raised.up q is) ]

-- some come up, and then others
module _ (old mid new : Machine) (first second : SlotRef → Type 0) (once : AreRaised old mid first) (again : AreRaised mid new second) where
  -- of the second too the ancestor is filled as at first
  up_again : (q : SlotRef) → second q → Nearest (parent_of mid) (is_empty old) (parent_of mid q) (parent_of new q)
  up_again q is =
      subst (λ (empty : SlotRef → Bool). Nearest (parent_of mid) empty (parent_of mid q) (parent_of new q))
      (same_empties old mid once.rest) (again.up q is)

  up_first : (q : SlotRef) → first q → Nearest (parent_of old) (is_empty old) (parent_of old q) (parent_of new q)
  up_first q is =
      elim (again.others q) [
        | inl same ↦
            subst (λ (to : Option SlotRef). Nearest (parent_of old) (is_empty old) (parent_of old q) to) (sym same) (once.up q is)
        | inr more ↦
            subst (λ (to : Option SlotRef). Nearest (parent_of old) (is_empty old) (parent_of old q) to)
            (only_nearest (ended (once.up q is) (parent_of mid)) (up_again q more)) (once.up q is)
      ]

  up_second : (q : SlotRef) → second q → Nearest (parent_of old) (is_empty old) (parent_of old q) (parent_of new q)
  up_second q is =
      elim (once.others q) [
        | inl same ↦
            subst (λ (from : Option SlotRef). Nearest (parent_of old) (is_empty old) from (parent_of new q)) same
            (ways_led (is_empty old) (parent_of old) (parent_of mid) (each_raised old mid first once) (up_again q is))
        | inr before ↦ up_first q before
      ]

  pub both_raised : AreRaised old new (λ q. first q ⊎ second q)
  both_raised =
      record {
        rest =
            again.rest
            ∙ ap (λ (m : Machine). let changed : Machine = record m { parents = new.parents } in changed) once.rest;
        up = λ q which. elim which [ inl is ↦ up_first q is | inr is ↦ up_second q is ];
        others =
            λ q.
            elim (again.others q) [
              | inl same ↦ elim (once.others q) [ inl before ↦ inl (same ∙ before) | inr is ↦ inr (inl is) ]
              | inr is ↦ inr (inr is)
            ];
      }

-- the ways from some slots, and then those from others
module _ (old mid : Machine) (first second : SlotRef → Bool) (once : AreRaisedFrom old mid first) where
  empty_then : (q : SlotRef) → is_empty old q ≡ true → is_empty mid q ≡ true
  empty_then q is = ap (λ (empty : SlotRef → Bool). empty q) (same_empties old mid once.rest) ∙ is

  empty_before : (q : SlotRef) → is_empty mid q ≡ true → is_empty old q ≡ true
  empty_before q is = sym (ap (λ (empty : SlotRef → Bool). empty q) (same_empties old mid once.rest)) ∙ is

  -- who has come below a filled slot has no empty parent
  no_empty_parent : (low q : SlotRef) → IsOnWay old first low → parent_of mid low ≡ Some q → is_empty old q ≡ true → ⊥
  no_empty_parent low q on at empty =
      false≢true
      (sym (end_stays (subst (λ (to : Option SlotRef). Nearest (parent_of old) (is_empty old) (parent_of old low) to) at (once.up low on)))
      ∙ empty)

  way_first : {q : SlotRef} → IsOnWay old first q → IsOnWay old (λ s. first s || second s) q
  way_first (start {slot = q} is empty) = start (ap (λ one. one || second q) is) empty
  way_first (further low at empty) = further (way_first low) at empty

  -- a step of the second is one at first
  step_second :
      (low q : SlotRef) → IsOnWay old (λ s. first s || second s) low → parent_of mid low ≡ Some q → is_empty old q ≡ true
      → IsOnWay old (λ s. first s || second s) q
  step_second low q on at empty =
      elim (once.others low) [
        | inl same ↦ further on (sym same ∙ at) empty
        | inr before ↦ absurd (no_empty_parent low q before at empty)
      ]

  way_second : {q : SlotRef} → IsOnWay mid second q → IsOnWay old (λ s. first s || second s) q
  way_second (start {slot = q} is empty) = start (or_second (first q) (second q) is) (empty_before q empty)
  way_second (further {low} {slot = q} on at empty) = step_second low q (way_second on) at (empty_before q empty)

  -- and each is on the one or the other
  start_either :
      (q : SlotRef) (one : Bool) → first q ≡ one → (one || second q) ≡ true → is_empty old q ≡ true
      → IsOnWay old first q ⊎ IsOnWay mid second q
  start_either q true is either empty = inl (start is empty)
  start_either q false is either empty = inr (start either (empty_then q empty))

  step_either :
      (low q : SlotRef) → IsOnWay old first low ⊎ IsOnWay mid second low → parent_of old low ≡ Some q → is_empty old q ≡ true
      → IsOnWay old first q ⊎ IsOnWay mid second q
  step_either low q (inl on) at empty = inl (further on at empty)
  step_either low q (inr on) at empty =
      elim (once.others low) [
        | inl same ↦ inr (further on (same ∙ at) (empty_then q empty))
        | inr before ↦ inl (further before at empty)
      ]

  way_either : {q : SlotRef} → IsOnWay old (λ s. first s || second s) q → IsOnWay old first q ⊎ IsOnWay mid second q
  way_either (start {slot = q} is empty) = start_either q (first q) refl is empty
  way_either (further {low} {slot = q} on at empty) = step_either low q (way_either on) at empty

  pub raised_more : (new : Machine) → AreRaisedFrom mid new second → AreRaisedFrom old new (λ s. first s || second s)
  raised_more new again =
      raised_alike old new (λ q. IsOnWay old first q ⊎ IsOnWay mid second q) (IsOnWay old (λ s. first s || second s))
      (λ q on. way_either on) (λ q which. elim which [ inl on ↦ way_first on | inr on ↦ way_second on ])
      (both_raised old mid new (IsOnWay old first) (IsOnWay mid second) once again)

-- ways from the same slots by another test
way_alike :
    (m : Machine) (one other : SlotRef → Bool) → ((q : SlotRef) → one q ≡ other q) → {q : SlotRef} → IsOnWay m one q
    → IsOnWay m other q
way_alike m one other same (start {slot = q} is empty) = start (sym (same q) ∙ is) empty
way_alike m one other same (further low at empty) = further (way_alike m one other same low) at empty

pub raised_from_alike :
    (old new : Machine) (one other : SlotRef → Bool) → ((q : SlotRef) → one q ≡ other q) → AreRaisedFrom old new one
    → AreRaisedFrom old new other
raised_from_alike old new one other same =
    raised_alike old new (IsOnWay old one) (IsOnWay old other)
    (λ q on. way_alike old other one (λ s. sym (same s)) on) (λ q on. way_alike old one other same on)
