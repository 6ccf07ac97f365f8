-- Slots that have left the derivation tree: one, or some and then others; they are alone, and a slot that was alone stays so.
use Rattle.std.{specs.Prelude.{None, Option, Some, if◌then◌else◌, option_and_then}, proofs.Common.{◌||◌, ◌∙◌, ◌≡◌, ◌≢◌, Bool, ap}}
use Rattle.{std.proofs.{Common.{false, refl, subst, sym, true}, lemmas.Bool.false≢true}, base.specs.declared.ids.SlotRef.SlotRef}
use Rattle.machine.specs.{Machine.{Machine, parent_of, same_slot}, Orphans.{Nearest, climbs, no_ancestor, past, survives}}
use Rattle.machine.{specs.Tree.IsAlone, proofs.{LookUps.one_slot, RoundLemmas.or_second}}
use Rattle.derivation.{specs.Removing.{HasParents, HaveLeft, parent_without}, proofs.{Ancestors.{end_stays, none_above}, Pairs.apart_slots}}

-- one slot leaves
module _ (old new : Machine) (slot : SlotRef) (not_below : parent_of old slot ≢ Some slot)
    (has : HasParents old new (parent_without old slot)) where
  -- what it gives its children is above it
  given_above : (above : Option SlotRef) → parent_of old slot ≡ above → Nearest (parent_of old) (λ q. same_slot q slot) above above
  given_above None at = no_ancestor
  given_above (Some parent) at = survives (apart_slots parent slot (λ same. not_below (at ∙ ap Some same)))

  past_nearest :
      (parent : SlotRef) (tie : Bool) → same_slot parent slot ≡ tie
      → Nearest (parent_of old) (λ q. same_slot q slot) (Some parent) (if tie then parent_of old slot else Some parent)
  past_nearest parent true at =
      climbs at
      (subst (λ (q : SlotRef). Nearest (parent_of old) (λ s. same_slot s slot) (parent_of old q) (parent_of old slot))
      (sym (one_slot parent slot at)) (given_above (parent_of old slot) refl))
  past_nearest parent false at = survives at

  all_past :
      (above : Option SlotRef)
      → Nearest (parent_of old) (λ q. same_slot q slot) above (option_and_then (past slot (parent_of old slot)) above)
  all_past None = no_ancestor
  all_past (Some parent) = past_nearest parent (same_slot parent slot) refl

  pub node_left : HaveLeft old new (λ q. same_slot q slot)
  node_left =
      record {
        rest = has.rest;
        out =
            λ q is.
            has.parents q
            ∙ ap (λ tie. if tie then None else option_and_then (past slot (parent_of old slot)) (parent_of old q)) is;
        up =
            λ q is.
            subst (λ (to : Option SlotRef). Nearest (parent_of old) (λ s. same_slot s slot) (parent_of old q) to)
            (sym
            (has.parents q
            ∙ ap (λ tie. if tie then None else option_and_then (past slot (parent_of old slot)) (parent_of old q)) is))
            (all_past (parent_of old q));
      }

-- none leaves
at_once : (parent : SlotRef → Option SlotRef) (to : Option SlotRef) → Nearest parent (λ _. false) to to
at_once parent None = no_ancestor
at_once parent (Some to) = survives refl

pub none_left : (m : Machine) → HaveLeft m m (λ _. false)
none_left m = record { rest = refl; out = λ q is. absurd (false≢true is); up = λ q is. at_once (parent_of m) (parent_of m q) }

-- the slots of another test that agrees have left too
nearest_alike :
    {parent : SlotRef → Option SlotRef} (one other : SlotRef → Bool) → ((q : SlotRef) → one q ≡ other q)
    → {from to : Option SlotRef} → Nearest parent one from to → Nearest parent other from to
nearest_alike one other same no_ancestor = no_ancestor
nearest_alike one other same (survives {slot} is) = survives (sym (same slot) ∙ is)
nearest_alike one other same (climbs {slot} is rest) = climbs (sym (same slot) ∙ is) (nearest_alike one other same rest)

pub left_alike :
    (old new : Machine) (one other : SlotRef → Bool) → ((q : SlotRef) → one q ≡ other q) → HaveLeft old new one
    → HaveLeft old new other
left_alike old new one other same left =
    record {
      rest = left.rest;
      out = λ q is. left.out q (same q ∙ is);
      up = λ q is. nearest_alike one other same (left.up q (same q ∙ is));
    }

-- some leave, and then others
module _ (old mid new : Machine) (first second : SlotRef → Bool) (once : HaveLeft old mid first) (again : HaveLeft mid new second) where
  both_pass_not : (one two : Bool) → one ≡ false → two ≡ false → (one || two) ≡ false
  both_pass_not true two is other = is
  both_pass_not false two is other = other

  first_not : (one two : Bool) → (one || two) ≡ false → one ≡ false
  first_not true two neither = neither
  first_not false two neither = refl

  second_not : (one two : Bool) → (one || two) ≡ false → two ≡ false
  second_not true two neither = absurd (false≢true (sym neither))
  second_not false two neither = neither

  -- a way past the first that goes on past both
  goes_on :
      {from mid_way to : Option SlotRef} → Nearest (parent_of old) first from mid_way
      → Nearest (parent_of old) (λ q. first q || second q) mid_way to
      → Nearest (parent_of old) (λ q. first q || second q) from to
  goes_on no_ancestor more = more
  goes_on (survives is) more = more
  goes_on (climbs {slot} is rest) more = climbs (ap (λ one. one || second slot) is) (goes_on rest more)

  -- a way past the second, which no slot of the first is on
  way_again :
      {from to : Option SlotRef} → Nearest (parent_of mid) second from to → ((q : SlotRef) → from ≡ Some q → first q ≡ false)
      → Nearest (parent_of old) (λ q. first q || second q) from to
  way_again no_ancestor stays = no_ancestor
  way_again (survives {slot} is) stays = survives (both_pass_not (first slot) (second slot) (stays slot refl) is)
  way_again (climbs {slot} is rest) stays =
      let up : Nearest (parent_of old) first (parent_of old slot) (parent_of mid slot) = once.up slot (stays slot refl) in
      climbs (or_second (first slot) (second slot) is)
      (goes_on up
      (way_again rest
      (λ q at. end_stays (subst (λ (to : Option SlotRef). Nearest (parent_of old) first (parent_of old slot) to) at up))))

  root_again : (q : SlotRef) (two : Bool) → second q ≡ two → parent_of mid q ≡ None → parent_of new q ≡ None
  root_again q true is root = again.out q is
  root_again q false is root =
      none_above (subst (λ (from : Option SlotRef). Nearest (parent_of mid) second from (parent_of new q)) root (again.up q is))

  out_either : (q : SlotRef) (one : Bool) → first q ≡ one → (one || second q) ≡ true → parent_of new q ≡ None
  out_either q true is either = root_again q (second q) refl (once.out q is)
  out_either q false is either = again.out q either

  up_both :
      (q : SlotRef) → (first q || second q) ≡ false
      → Nearest (parent_of old) (λ s. first s || second s) (parent_of old q) (parent_of new q)
  up_both q neither =
      let up : Nearest (parent_of old) first (parent_of old q) (parent_of mid q) = once.up q (first_not (first q) (second q) neither) in
      goes_on up
      (way_again (again.up q (second_not (first q) (second q) neither))
      (λ s at. end_stays (subst (λ (to : Option SlotRef). Nearest (parent_of old) first (parent_of old q) to) at up)))

  pub left_more : HaveLeft old new (λ q. first q || second q)
  left_more =
      record {
        rest =
            again.rest
            ∙ ap (λ (m : Machine). let changed : Machine = record m { parents = new.parents } in changed) once.rest;
        out = λ q either. out_either q (first q) refl either;
        up = up_both;
      }

-- a parent that is come to upwards is one in the tree
parent_found :
    (m : Machine) (gone : SlotRef → Bool) (low : SlotRef) {from : Option SlotRef} {to : SlotRef}
    → Nearest (parent_of m) gone from (Some to) → parent_of m low ≡ from → (child : SlotRef) × (parent_of m child ≡ Some to)
parent_found m gone low (survives is) at = (low, at)
parent_found m gone low (climbs {slot} is rest) at = parent_found m gone slot rest refl

-- who was alone is so where each parent was one and each root is one
still_alone :
    (old new : Machine) (slot : SlotRef) → IsAlone old slot → (parent_of old slot ≡ None → parent_of new slot ≡ None)
    → ((child : SlotRef) → parent_of new child ≡ Some slot → (low : SlotRef) × (parent_of old low ≡ Some slot)) → IsAlone new slot
still_alone old new slot alone root parent =
    record {
      root = root alone.root;
      leaf = λ child at. let found = parent child at in alone.leaf found.0 found.1;
    }

module _ (old new : Machine) (these : SlotRef → Bool) (left : HaveLeft old new these) where
  not_among : (child slot : SlotRef) (is : Bool) → these child ≡ is → parent_of new child ≡ Some slot → is ≡ false
  not_among child slot true is at = let impossible : Some slot ≡ None = sym at ∙ left.out child is in cc
  not_among child slot false is at = refl

  -- the way to a parent that a slot has now
  way_up :
      (child slot : SlotRef) → parent_of new child ≡ Some slot → Nearest (parent_of old) these (parent_of old child) (Some slot)
  way_up child slot at =
      subst (λ (to : Option SlotRef). Nearest (parent_of old) these (parent_of old child) to) at
      (left.up child (not_among child slot (these child) refl at))

  -- who has left is alone
  pub left_alone : (slot : SlotRef) → these slot ≡ true → IsAlone new slot
  left_alone slot is =
      record { root = left.out slot is; leaf = λ child at. false≢true (sym (end_stays (way_up child slot at)) ∙ is) }

  root_stays : (slot : SlotRef) (is : Bool) → these slot ≡ is → parent_of old slot ≡ None → parent_of new slot ≡ None
  root_stays slot true is root = left.out slot is
  root_stays slot false is root =
      none_above (subst (λ (from : Option SlotRef). Nearest (parent_of old) these from (parent_of new slot)) root (left.up slot is))

  pub alone_where_left : (slot : SlotRef) → IsAlone old slot → IsAlone new slot
  alone_where_left slot alone =
      still_alone old new slot alone (root_stays slot (these slot) refl)
      (λ child at. parent_found old these child (way_up child slot at) refl)
