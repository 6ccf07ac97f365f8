-- The nearest ancestor that isn't gone: ways up a tree end at one slot, and some changes of the tree leave that slot as it was.
use Rattle.std.proofs.{Common.{◌∙◌, ◌≡◌, ◌⊎◌, Bool, None, Option, Some, false, inl, inr, refl, subst, sym}, lemmas.Bool.false≢true}
use Rattle.{base.specs.declared.ids.SlotRef.SlotRef, machine.specs.Orphans.{Nearest, climbs, no_ancestor, survives}}

-- from where a way ends no other way goes on
pub ended :
    {parent : SlotRef → Option SlotRef} {gone : SlotRef → Bool} {from to : Option SlotRef} → Nearest parent gone from to
    → (other : SlotRef → Option SlotRef) → Nearest other gone to to
ended no_ancestor other = no_ancestor
ended (survives is) other = survives is
ended (climbs is rest) other = ended rest other

-- a way ends in one place
pub only_nearest :
    {parent : SlotRef → Option SlotRef} {gone : SlotRef → Bool} {from one other : Option SlotRef} → Nearest parent gone from one
    → Nearest parent gone from other → one ≡ other
only_nearest no_ancestor no_ancestor = refl
only_nearest (survives a) (survives b) = refl
only_nearest (survives a) (climbs b rest) = absurd (false≢true (sym a ∙ b))
only_nearest (climbs a rest) (survives b) = absurd (false≢true (sym b ∙ a))
only_nearest (climbs a rest) (climbs b more) = only_nearest rest more

-- from no slot none is come to
pub none_above :
    {parent : SlotRef → Option SlotRef} {gone : SlotRef → Bool} {to : Option SlotRef} → Nearest parent gone None to → to ≡ None
none_above no_ancestor = refl

-- the slot at which a way ends stays
pub end_stays :
    {parent : SlotRef → Option SlotRef} {gone : SlotRef → Bool} {from : Option SlotRef} {to : SlotRef}
    → Nearest parent gone from (Some to) → gone to ≡ false
end_stays (survives is) = is
end_stays (climbs is rest) = end_stays rest

-- some slots have come below their nearest ancestor that stays, and the others have the parent that they had
module _ (gone : SlotRef → Bool) (before after : SlotRef → Option SlotRef)
    (each : (q : SlotRef) → (after q ≡ before q) ⊎ Nearest before gone (before q) (after q)) where
  -- each way leads to where it led
  kept_above :
      (slot : SlotRef) (to : Option SlotRef) → Nearest before gone (before slot) to → Nearest after gone (before slot) to
      → Nearest after gone (after slot) to
  kept_above slot to rest kept =
      elim (each slot) [
        | inl same ↦ subst (λ (from : Option SlotRef). Nearest after gone from to) (sym same) kept
        | inr way ↦ subst (λ (from : Option SlotRef). Nearest after gone from to) (only_nearest rest way) (ended rest after)
      ]

  pub ways_kept : {from to : Option SlotRef} → Nearest before gone from to → Nearest after gone from to
  ways_kept no_ancestor = no_ancestor
  ways_kept (survives is) = survives is
  ways_kept (climbs {slot} {to} is rest) = climbs is (kept_above slot to rest (ways_kept rest))

  -- from a parent too
  pub parents_kept :
      (slot : SlotRef) (to : Option SlotRef) → Nearest before gone (before slot) to → Nearest after gone (after slot) to
  parents_kept slot to way = kept_above slot to way (ways_kept way)

  -- and each leads to where it leads now
  led_above :
      (slot : SlotRef) (to : Option SlotRef) → Nearest after gone (after slot) to → Nearest before gone (after slot) to
      → Nearest before gone (before slot) to
  led_above slot to rest led =
      elim (each slot) [
        | inl same ↦ subst (λ (from : Option SlotRef). Nearest before gone from to) same led
        | inr way ↦ subst (λ (end : Option SlotRef). Nearest before gone (before slot) end) (only_nearest (ended way after) rest) way
      ]

  pub ways_led : {from to : Option SlotRef} → Nearest after gone from to → Nearest before gone from to
  ways_led no_ancestor = no_ancestor
  ways_led (survives is) = survives is
  ways_led (climbs {slot} {to} is rest) = climbs is (led_above slot to rest (ways_led rest))

  pub parents_led :
      (slot : SlotRef) (to : Option SlotRef) → Nearest after gone (after slot) to → Nearest before gone (before slot) to
  parents_led slot to way = led_above slot to way (ways_led way)

-- ways agree where the sets agree on all parents
pub same_ways :
    (parent : SlotRef → Option SlotRef) (one other : SlotRef → Bool)
    → ((low slot : SlotRef) → parent low ≡ Some slot → one slot ≡ other slot) → (low : SlotRef) {from to : Option SlotRef}
    → Nearest parent one from to → parent low ≡ from → Nearest parent other from to
same_ways parent one other same low no_ancestor at = no_ancestor
same_ways parent one other same low (survives {slot} is) at = survives (sym (same low slot at) ∙ is)
same_ways parent one other same low (climbs {slot} is rest) at =
    climbs (sym (same low slot at) ∙ is) (same_ways parent one other same slot rest refl)
