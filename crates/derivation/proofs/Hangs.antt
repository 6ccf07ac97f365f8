-- The raising of one slot: the empty slots from it upwards are hung, one after another, below the first filled slot above them.
use Rattle.std.{specs.{Option.{is_none, is_some}, Prelude.{IfSome, None, Option, Some, if◌then◌else◌, not}}, proofs.Common.{◌<◌, ◌∙◌, ◌≡◌}}
use Rattle.std.proofs.{Common.{◌⊎◌, Bool, ap, arith, cond, false, inl, inr, refl, subst, sym, true}, lemmas.Bool.false≢true}
use Rattle.base.specs.declared.ids.SlotRef.{SlotRef}
use Rattle.machine.specs.{declared.cap.Cap.Cap, Machine.{Machine, cap_of, parent_of, same_slot, with_parent, without_parent}}
use Rattle.machine.specs.{Orphans.{Nearest, climbs, survives}, Tree.IsRanked, WellFormed.{Descends, child, further}}
use Rattle.machine.proofs.{Exchange.slot_itself, LookUps.{one_slot, parent_of-with_parent}, OrphanLemmas.climbed, RemovalStays.further_on}
use Rattle.derivation.specs.Raising.{AreRaised, AreRaisedFrom, IsOnWay, further as higher, is_empty, parent_hung, start}
use Rattle.derivation.{specs.Removing.HasParents, proofs.{Ancestors.{end_stays, ways_kept}, Pairs.parent_of-without_parent}}
use Rattle.derivation.proofs.{Raises.{both_raised, each_raised, raised_alike, same_empties}, Ranks.{ranked_without, stays_ranked}}

-- a test of what a slot holds tells whether it is empty
seen : (cap : Option Cap) (answer : Bool) → is_some cap ≡ not answer → is_none cap ≡ answer
seen None true is = refl
seen None false is = absurd (false≢true is)
seen (Some held) true is = absurd (false≢true (sym is))
seen (Some held) false is = refl

pub seen_empty :
    (m : Machine) (slot : SlotRef) {cap : Option Cap} {answer is : Bool} → cap ≡ cap_of m slot → is_some cap ≡ not answer
    → answer ≡ is → is_empty m slot ≡ is
seen_empty m slot {cap} {answer} held test at = ap is_none (sym held) ∙ seen cap answer test ∙ at

-- a way from a slot that is gone goes on from its parent
pub goes_up :
    {parent : SlotRef → Option SlotRef} {gone : SlotRef → Bool} {slot : SlotRef} {to : Option SlotRef}
    → Nearest parent gone (Some slot) to → gone slot ≡ true → Nearest parent gone (parent slot) to
goes_up (survives stays) is = absurd (false≢true (sym stays ∙ is))
goes_up (climbs also rest) is = rest

-- a slot is below the filled one that a way from it comes to
pub below_heir :
    (m : Machine) (slot : SlotRef) (heir : Option SlotRef) → Nearest (parent_of m) (is_empty m) (Some slot) heir
    → is_empty m slot ≡ true → IfSome heir (λ above. Descends m slot above)
below_heir m slot None way empty = tt
below_heir m slot (Some above) way empty = climbed m (is_empty m) slot (goes_up way empty) refl

-- there is nothing to raise if none of some slots is empty
none_on_way : (m : Machine) (these : SlotRef → Bool) → ((q : SlotRef) → these q ≡ true → is_empty m q ≡ true → ⊥) → {q : SlotRef} → IsOnWay m these q → ⊥
none_on_way m these filled (start {slot = q} is empty) = filled q is empty
none_on_way m these filled (higher low at empty) = none_on_way m these filled low

pub nothing_raised :
    (m : Machine) (these : SlotRef → Bool) → ((q : SlotRef) → these q ≡ true → is_empty m q ≡ true → ⊥) → AreRaisedFrom m m these
nothing_raised m these filled =
    record { rest = refl; up = λ q on. absurd (none_on_way m these filled on); others = λ q. inl refl }

-- there is nothing to raise at a filled slot
pub filled_raised : (m : Machine) (slot : SlotRef) → is_empty m slot ≡ false → AreRaisedFrom m m (λ q. same_slot q slot)
filled_raised m slot filled =
    nothing_raised m (λ q. same_slot q slot)
    (λ q is empty. false≢true (sym filled ∙ ap (is_empty m) (sym (one_slot q slot is)) ∙ empty))

-- one empty slot is hung
module _ (m next : Machine) (slot : SlotRef) (heir : Option SlotRef) (empty : is_empty m slot ≡ true)
    (way : Nearest (parent_of m) (is_empty m) (Some slot) heir) (hung : HasParents m next (parent_hung m slot heir)) where
  hung_there : (q : SlotRef) → q ≡ slot → parent_of next q ≡ heir
  hung_there q is =
      hung.parents q
      ∙ ap (λ tie. if tie then heir else parent_of m q) (subst (λ s. same_slot s slot ≡ true) (sym is) (slot_itself slot))

  up_there : (q : SlotRef) → q ≡ slot → Nearest (parent_of m) (is_empty m) (parent_of m q) (parent_of next q)
  up_there q is =
      subst (λ (to : Option SlotRef). Nearest (parent_of m) (is_empty m) (parent_of m q) to) (sym (hung_there q is))
      (subst (λ s. Nearest (parent_of m) (is_empty m) (parent_of m s) heir) (sym is) (goes_up way empty))

  by_tie :
      (q : SlotRef) (tie : Bool) → same_slot q slot ≡ tie → parent_of next q ≡ (if tie then heir else parent_of m q)
      → (parent_of next q ≡ parent_of m q) ⊎ (q ≡ slot)
  by_tie q true same at = inr (one_slot q slot same)
  by_tie q false same at = inl at

  pub one_raised : AreRaised m next (λ q. q ≡ slot)
  one_raised = record { rest = hung.rest; up = up_there; others = λ q. by_tie q (same_slot q slot) refl (hung.parents q) }

  -- if it was a root that is all
  module _ (root : parent_of m slot ≡ None) where
    only_itself : {q : SlotRef} → IsOnWay m (λ s. same_slot s slot) q → q ≡ slot
    only_itself (start {slot = q} is empty) = one_slot q slot is
    only_itself (higher {low} {slot = q} on at empty) =
        let impossible : Some q ≡ None = sym at ∙ ap (parent_of m) (only_itself on) ∙ root in cc

    itself_on : (q : SlotRef) → q ≡ slot → IsOnWay m (λ s. same_slot s slot) q
    itself_on q is =
        subst (λ s. IsOnWay m (λ r. same_slot r slot) s) (sym is) (start (slot_itself slot) empty)

    pub root_raised : AreRaisedFrom m next (λ q. same_slot q slot)
    root_raised =
        raised_alike m next (λ q. q ≡ slot) (IsOnWay m (λ q. same_slot q slot)) (λ q on. only_itself on) itself_on one_raised

  -- else the way goes on from its parent
  module _ (parent : SlotRef) (over : parent_of m slot ≡ Some parent) where
    each_next : (q : SlotRef) → (parent_of next q ≡ parent_of m q) ⊎ Nearest (parent_of m) (is_empty m) (parent_of m q) (parent_of next q)
    each_next = each_raised m next (λ q. q ≡ slot) one_raised

    -- to the same end
    pub way_next : Nearest (parent_of next) (is_empty next) (Some parent) heir
    way_next =
        subst (λ (gone : SlotRef → Bool). Nearest (parent_of next) gone (Some parent) heir) (sym (same_empties m next hung.rest))
        (ways_kept (is_empty m) (parent_of m) (parent_of next) each_next
        (subst (λ (from : Option SlotRef). Nearest (parent_of m) (is_empty m) from heir) over (goes_up way empty)))

    empty_next : (q : SlotRef) → is_empty m q ≡ true → is_empty next q ≡ true
    empty_next q is = ap (λ (gone : SlotRef → Bool). gone q) (same_empties m next hung.rest) ∙ is

    empty_first : (q : SlotRef) → is_empty next q ≡ true → is_empty m q ≡ true
    empty_first q is = sym (ap (λ (gone : SlotRef → Bool). gone q) (same_empties m next hung.rest)) ∙ is

    -- the slot and those on that way are those on the way from the slot
    to_parent :
        (low q : SlotRef) → low ≡ slot → parent_of m low ≡ Some q → is_empty m q ≡ true → IsOnWay next (λ s. same_slot s parent) q
    to_parent low q is at up =
        let same : q ≡ parent = let e = sym at ∙ ap (parent_of m) is ∙ over in cc in
        subst (λ s. IsOnWay next (λ r. same_slot r parent) s) (sym same)
        (start (slot_itself parent) (empty_next parent (ap (is_empty m) (sym same) ∙ up)))

    step_on :
        (low q : SlotRef) → (low ≡ slot) ⊎ IsOnWay next (λ s. same_slot s parent) low → parent_of m low ≡ Some q
        → is_empty m q ≡ true → IsOnWay next (λ s. same_slot s parent) q
    step_on low q (inl is) at up = to_parent low q is at up
    step_on low q (inr on) at up =
        elim (one_raised.others low) [
          | inl same ↦ higher on (same ∙ at) (empty_next q up)
          | inr is ↦ to_parent low q is at up
        ]

    on_next : {q : SlotRef} → IsOnWay m (λ s. same_slot s slot) q → (q ≡ slot) ⊎ IsOnWay next (λ s. same_slot s parent) q
    on_next (start {slot = q} is up) = inl (one_slot q slot is)
    on_next (higher {low} {slot = q} on at up) = inr (step_on low q (on_next on) at up)

    first_on : IsOnWay m (λ s. same_slot s slot) slot
    first_on = start (slot_itself slot) empty

    step_back :
        (low q : SlotRef) → IsOnWay m (λ s. same_slot s slot) low → parent_of next low ≡ Some q → is_empty m q ≡ true
        → IsOnWay m (λ s. same_slot s slot) q
    step_back low q on at up =
        elim (one_raised.others low) [
          | inl same ↦ higher on (sym same ∙ at) up
          | inr is ↦
              absurd
              (false≢true
              (sym (end_stays (subst (λ (to : Option SlotRef). Nearest (parent_of m) (is_empty m) (parent_of m low) to) at (up_there low is)))
              ∙ up))
        ]

    on_first : {q : SlotRef} → IsOnWay next (λ s. same_slot s parent) q → IsOnWay m (λ s. same_slot s slot) q
    on_first (start {slot = q} is up) =
        let same : q ≡ parent = one_slot q parent is in
        higher first_on (over ∙ ap Some (sym same)) (empty_first q up)
    on_first (higher {low} {slot = q} on at up) = step_back low q (on_first on) at (empty_first q up)

    pub rest_raised : (last : Machine) → AreRaisedFrom next last (λ q. same_slot q parent) → AreRaisedFrom m last (λ q. same_slot q slot)
    rest_raised last again =
        raised_alike m last (λ q. (q ≡ slot) ⊎ IsOnWay next (λ s. same_slot s parent) q) (IsOnWay m (λ q. same_slot q slot))
        (λ q on. on_next on)
        (λ q which.
        elim which [
          | inl is ↦ subst (λ s. IsOnWay m (λ r. same_slot r slot) s) (sym is) first_on
          | inr on ↦ on_first on
        ])
        (both_raised m next last (λ q. q ≡ slot) (IsOnWay next (λ q. same_slot q parent)) one_raised again)

-- what has been hung is below the slot that the way has come to
module _ (first m next : Machine) (slot parent : SlotRef) (heir : Option SlotRef)
    (hung : HasParents m next (parent_hung m slot heir))
    (below : (q : SlotRef) → (parent_of m q ≡ parent_of first q) ⊎ Descends first q slot) where
  -- whose parent is as at first
  pub parent_as_first :
      (acyclic : (q : SlotRef) → ¬ (Descends first q q)) → parent_of m slot ≡ Some parent → parent_of first slot ≡ Some parent
  parent_as_first acyclic over =
      elim (below slot) [ inl same ↦ sym same ∙ over | inr is ↦ absurd (acyclic slot is) ]

  below_then :
      (q : SlotRef) (tie : Bool) → same_slot q slot ≡ tie → parent_of next q ≡ (if tie then heir else parent_of m q)
      → parent_of first slot ≡ Some parent → (parent_of next q ≡ parent_of first q) ⊎ Descends first q parent
  below_then q true same at over = inr (subst (λ s. Descends first s parent) (sym (one_slot q slot same)) (child over))
  below_then q false same at over =
      elim (below q) [ inl was ↦ inl (at ∙ was) | inr is ↦ inr (further_on first is (child over)) ]

  pub below_next :
      parent_of first slot ≡ Some parent → (q : SlotRef) → (parent_of next q ≡ parent_of first q) ⊎ Descends first q parent
  below_next over q = below_then q (same_slot q slot) refl (hung.parents q) over

-- ranks rise to what descends
rank_below : (m : Machine) (ranked : IsRanked m) {low high : SlotRef} → Descends m low high → ranked.0 high < ranked.0 low
rank_below m ranked (child {slot} {parent} at) = ranked.1 slot parent at
rank_below m ranked (further {slot} {parent} {above} at rest) =
    let one : ranked.0 parent < ranked.0 slot = ranked.1 slot parent at in
    let more : ranked.0 above < ranked.0 parent = rank_below m ranked rest in omega arith

-- a slot may come below each that it descends from
pub ranked_hung :
    (m : Machine) → IsRanked m → (slot above : SlotRef) → Descends m slot above
    → IsRanked (with_parent (without_parent m slot) slot above)
ranked_hung m ranked slot above is = (
  ranked.0,
  stays_ranked (without_parent m slot) ranked.0 slot above (ranked_without m slot ranked.0 ranked.1) (rank_below m ranked is),
)

-- a slot descends from the slot that is named, if it does from that which there may be
pub below_named :
    (m : Machine) (slot : SlotRef) {above : Option SlotRef} {heir : SlotRef} → IfSome above (λ high. Descends m slot high)
    → above ≡ Some heir → Descends m slot heir
below_named m slot below at = subst (λ (above : Option SlotRef). IfSome above (λ high. Descends m slot high)) at below

-- both ends of a way up are in pairs
pub low_end : (m : Machine) {low high : SlotRef} → Descends m low high → (parent : SlotRef) × (parent_of m low ≡ Some parent)
low_end m (child {slot} {parent} at) = (parent, at)
low_end m (further {slot} {parent} at rest) = (parent, at)

pub high_end : (m : Machine) {low high : SlotRef} → Descends m low high → (q : SlotRef) × (parent_of m q ≡ Some high)
high_end m (child {slot} {parent} at) = (slot, at)
high_end m (further at rest) = high_end m rest

-- a slot is taken from its parent, and comes below another or stays a root
pub hung_root : (m : Machine) (slot : SlotRef) → HasParents m (without_parent m slot) (parent_hung m slot None)
unfolding without_parent
hung_root m slot = record { rest = refl; parents = λ q. parent_of-without_parent m slot q }

pub hung_below :
    (m : Machine) (slot above : SlotRef) → HasParents m (with_parent (without_parent m slot) slot above) (parent_hung m slot (Some above))
unfolding with_parent without_parent
hung_below m slot above =
    record {
      rest = refl;
      parents =
          λ q.
          parent_of-with_parent (without_parent m slot) slot above q
          ∙ ap (cond (same_slot q slot) (Some above)) (parent_of-without_parent m slot q)
          ∙ by_tie q (same_slot q slot);
    } where
      by_tie :
          (q : SlotRef) (tie : Bool) → cond tie (Some above) (cond tie None (parent_of m q)) ≡ (if tie then Some above else parent_of m q)
      by_tie q true = refl
      by_tie q false = refl
