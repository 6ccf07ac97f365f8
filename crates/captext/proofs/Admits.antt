-- Capabilities of a table's lines: the tests that their lines pass are what the table asks of a capability.
use Rattle.std.proofs.Common.{◌&&◌, ◌∙◌, ◌≡◌, Option, Some, ap, arith, false, option_map, refl, sym, true}
use Rattle.base.specs.declared.ids.ObjId.{ObjId}
use Rattle.machine.specs.declared.{cap.Detail.{Detail, Detail as d}, layout.Initial.Initial, object.ObjectKind.ObjectKind}
use Rattle.machine.specs.{Capabilities.kind_of_detail, Layout.{Layout, initial_of}, Objects.kind_of_object}
use Rattle.table.specs.Building.{AdmitsCap, declares_slot, has_cap_to, is_above_caps, is_fitting, may_hold, repeats_untyped}
use Rattle.table.specs.{Rules.kind_at, Tree.is_for_untyped}
use Rattle.captext.specs.{declared.shapes.Place.Place, Tables.{capability, is_claimed, is_untyped, may_fill, slot_in}}

-- a capability that may be at its place may be in its holder
held_at : (holder : Option Initial) (at : Place) (target : Option ObjectKind) (detail : Detail)
    → may_fill (option_map (λ initial. kind_of_object initial.object) holder) at target ≡ true
    → target ≡ Some (kind_of_detail detail) → may_hold holder detail ≡ true
held_at holder at target detail fills is = grind arith

may_be_held : (t : Layout) (holder : ObjId) (at : Place) (target : ObjId) (detail : Detail)
    → may_fill (kind_at t holder) at (kind_at t target) ≡ true → kind_at t target ≡ Some (kind_of_detail detail)
    → may_hold (initial_of t holder) detail ≡ true
unfolding kind_at
may_be_held t holder at target detail fills is = held_at (initial_of t holder) at _ detail fills is

-- an untyped that has a capability is given no other
pub claims : (t : Layout) (target : ObjId) (detail : Detail) → kind_at t target ≡ Some (kind_of_detail detail)
    → repeats_untyped t (capability target detail) ≡ is_claimed t target
claims t target detail is =
    ap (λ b. b && has_cap_to t target) (same detail) ∙ ap (λ k. is_untyped k && has_cap_to t target) (sym is) where
      same : (detail : Detail) → is_for_untyped detail ≡ is_untyped (Some (kind_of_detail detail))
      same d.Untyped = refl
      same _ = refl

-- the table asks no more
pub admits_cap :
    (t : Layout) (holder : ObjId) (at : Place) (target : ObjId) (detail : Detail) → is_above_caps t (slot_in holder at) ≡ true
    → declares_slot t (slot_in holder at) ≡ true
    → may_fill (kind_at t holder) at (kind_at t target) ≡ true → is_fitting t (capability target detail) ≡ true
    → kind_at t target ≡ Some (kind_of_detail detail) → is_claimed t target ≡ false
    → AdmitsCap t (record { slot = slot_in holder at; cap = capability target detail })
admits_cap t holder at target detail rises within fills fitting is once =
    record {
      rises = rises;
      slot = within;
      root = may_be_held t holder at target detail fills is;
      fits = fitting;
      once = claims t target detail is ∙ once;
      original = refl;
    }
