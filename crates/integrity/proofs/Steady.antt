-- Changes that leave kinds, labels, capabilities and the derivation tree as they are: the machine stays confined if its new links are
-- allowed.
use Rattle.std.proofs.Common.{ℕ, ◌∙◌, ◌≡◌, Some, sym, true}
use Rattle.base.specs.declared.{ids.{ObjId.ObjId, SlotRef.SlotRef}, kind.Kind.Kind}
use Rattle.machine.specs.{declared.object.Object.Object, Authority.{HasAuthority.{by_cap, by_link, by_pair, by_root}, label_of, links}}
use Rattle.machine.specs.{Layout.Layout, Machine.{Machine, cap_of, object_of, parent_of}, WellFormed.kind_of}
use Rattle.{policy.specs.Domain.EdgeTest, integrity.specs.Confined.IsConfined}

pub record IsSteady (t : Layout) (m next : Machine) : Type 0 where
  pub labels : (id : ObjId) → label_of t next id ≡ label_of t m id
  pub kinds : (id : ObjId) → kind_of next id ≡ kind_of m id
  pub caps : (slot : SlotRef) → cap_of next slot ≡ cap_of m slot
  pub parents : (slot : SlotRef) → parent_of next slot ≡ parent_of m slot

-- the links of a machine are in the policy
abbrev pub LinksAllowed : Layout → EdgeTest → Machine → Machine → Type 0
LinksAllowed t allowed m next =
    (id end : ObjId) (object : Object) (k : Kind) (from to : ℕ) → object_of next id ≡ Some object → links object k end ≡ true
    → label_of t m id ≡ Some from → label_of t m end ≡ Some to → allowed from k to ≡ true

pub steady_confined :
    (t : Layout) (allowed : EdgeTest) (m next : Machine) → IsSteady t m next → LinksAllowed t allowed m next
    → IsConfined t allowed m → IsConfined t allowed next
steady_confined t allowed m next steady linked confined from k to (by_cap slot held filled node given source target) =
    confined from k to
    (by_cap slot held (sym (steady.caps slot) ∙ filled) (sym (steady.kinds slot.holder) ∙ node) given (sym (steady.labels slot.holder) ∙ source) (sym (steady.labels held.object) ∙ target))
steady_confined t allowed m next steady linked confined from k to (by_root slot held filled thread source target) =
    confined from _ to
    (by_root slot held (sym (steady.caps slot) ∙ filled) (sym (steady.kinds slot.holder) ∙ thread) (sym (steady.labels slot.holder) ∙ source) (sym (steady.labels held.object) ∙ target))
steady_confined t allowed m next steady linked confined from k to (by_pair slot parent derived source target) =
    confined from _ to
    (by_pair slot parent (sym (steady.parents slot) ∙ derived) (sym (steady.labels parent.holder) ∙ source) (sym (steady.labels slot.holder) ∙ target))
steady_confined t allowed m next steady linked confined from k to (by_link id end object at has source target) =
    linked id end object k from to at has (sym (steady.labels id) ∙ source) (sym (steady.labels end) ∙ target)
