-- A derivation tree that slots are leaving: each step of a removal keeps it one, and once they are alone it is the tree after the removal.
use Rattle.std.{specs.{FinMap.values, Prelude.{None, Option, Some, filter, if◌then◌else◌}}, proofs.Common.{◌∙◌, ◌≡◌, Bool, false}}
use Rattle.{std.proofs.{Common.{inl, refl, subst, sym, true}, lemmas.Bool.false≢true}, base.specs.declared.ids.SlotRef.SlotRef}
use Rattle.machine.specs.{Machine.{Machine, parent_of}, Orphans.{Nearest, climbs, no_ancestor, survives, without_nodes}}
use Rattle.machine.specs.{Removal.parent_after, Tree.IsAlone, WellFormed.{Descends, child, further}}
use Rattle.machine.proofs.{OrphanLemmas.{climbed, nearest_stays}, RemovalStays.further_on}
use Rattle.derivation.{specs.{Removing.HaveLeft, Thinning.IsThinned}, proofs.Ancestors.{only_nearest, parents_kept}}

-- at first nothing has left
pub thinned_at_first : (m : Machine) (gone : SlotRef → Bool) → IsThinned m gone m
thinned_at_first m gone = record { nearest = λ slot to stays way. way; joins = λ slot parent at. child at }

module _ (m : Machine) (gone : SlotRef → Bool) (now : Machine) (thin : IsThinned m gone now) where
  -- who descends now did so at first
  pub descends_at_first : {low high : SlotRef} → Descends now low high → Descends m low high
  descends_at_first (child {slot} {parent} at) = thin.joins slot parent at
  descends_at_first (further {slot} {parent} at rest) = further_on m (thin.joins slot parent at) (descends_at_first rest)

  -- where each slot has the parent that it had
  pub thinned_alike : (next : Machine) → ((q : SlotRef) → parent_of next q ≡ parent_of now q) → IsThinned m gone next
  thinned_alike next same =
      record {
        nearest =
            λ slot to stays way.
            parents_kept gone (parent_of now) (parent_of next) (λ q. inl (same q)) slot to (thin.nearest slot to stays way);
        joins = λ slot parent at. thin.joins slot parent (sym (same slot) ∙ at);
      }

  -- where some leave that go
  module _ (next : Machine) (these : SlotRef → Bool) (left : HaveLeft now next these)
      (going : (q : SlotRef) → these q ≡ true → gone q ≡ true) where
    staying : (slot : SlotRef) (b : Bool) → these slot ≡ b → gone slot ≡ false → b ≡ false
    staying slot true is stays = absurd (false≢true (sym stays ∙ going slot is))
    staying slot false is stays = refl

    way_where_left :
        {from to past : Option SlotRef} → Nearest (parent_of now) gone from to → Nearest (parent_of now) these from past
        → Nearest (parent_of next) gone past to
    way_where_left no_ancestor no_ancestor = no_ancestor
    way_where_left (survives is) (survives stays) = survives is
    way_where_left (survives {slot} is) (climbs leaves rest) = absurd (false≢true (sym is ∙ going slot leaves))
    way_where_left (climbs {slot} is rest) (survives stays) = climbs is (way_where_left rest (left.up slot stays))
    way_where_left (climbs is rest) (climbs leaves more) = way_where_left rest more

    joins_where_left : (slot parent : SlotRef) (b : Bool) → these slot ≡ b → parent_of next slot ≡ Some parent → Descends m slot parent
    joins_where_left slot parent true is at = let impossible : Some parent ≡ None = sym at ∙ left.out slot is in cc
    joins_where_left slot parent false is at =
        descends_at_first
        (climbed now these slot
        (subst (λ (to : Option SlotRef). Nearest (parent_of now) these (parent_of now slot) to) at (left.up slot is)) refl)

    pub thinned_where_left : IsThinned m gone next
    thinned_where_left =
        record {
          nearest =
              λ slot to stays way.
              way_where_left (thin.nearest slot to stays way) (left.up slot (staying slot (these slot) refl stays));
          joins = λ slot parent at. joins_where_left slot parent (these slot) refl at;
        }

  -- each slot has the parent that the removal gives it, once all that go are alone
  module _ (acyclic : (slot : SlotRef) → ¬ (Descends m slot slot)) (alone : (slot : SlotRef) → gone slot ≡ true → IsAlone now slot) where
    parent_survives : (slot : SlotRef) (to : Option SlotRef) → parent_of now slot ≡ to → Nearest (parent_of now) gone to to
    parent_survives slot None at = no_ancestor
    parent_survives slot (Some parent) at = survives (by_gone (gone parent) refl) where
      by_gone : (b : Bool) → gone parent ≡ b → b ≡ false
      by_gone true goes = absurd ((alone parent goes).leaf slot at)
      by_gone false goes = refl

    pub thinned_out : (slot : SlotRef) → parent_of now slot ≡ parent_after m gone slot
    thinned_out slot = by_gone (gone slot) refl where
      by_gone :
          (b : Bool) → gone slot ≡ b
          → parent_of now slot ≡ (if b then None else without_nodes (parent_of m) (filter gone (values m.parents)) slot)
      by_gone true goes = (alone slot goes).root
      by_gone false stays =
          only_nearest (parent_survives slot (parent_of now slot) refl)
          (thin.nearest slot (without_nodes (parent_of m) (filter gone (values m.parents)) slot) stays
          (nearest_stays m acyclic gone slot stays))
