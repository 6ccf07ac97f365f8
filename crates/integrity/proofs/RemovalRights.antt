-- The capabilities that a label may remove by Delete, Revoke and Clearspace: one in a CNode that it controls, those that descend from
-- there, and one in the root slot of a thread that it controls.
use Rattle.std.proofs.{Common.{ℕ, ◌∙◌, ◌≡◌, ◌≢◌, Some, ap, inl, inr, option_map, refl, sym, true}, lemmas.Option.same_Some}
use Rattle.base.specs.declared.{ids.{ObjId.ObjId, SlotRef.SlotRef}, kind.Kind.Kind as authority}
use Rattle.machine.specs.declared.{cap.Cap.Cap, object.{Object.{Object, Object as o}, ObjectKind.{ObjectKind, ObjectKind as kind}}}
use Rattle.machine.specs.{declared.object.Untyped.Untyped, Authority.{HasAuthority.{by_cap, by_root}, label_of}, Below.is_below}
use Rattle.machine.specs.{Capabilities.kind_of_detail, Layout.Layout, Lookup.root_of, Machine.{Machine, cap_of, object_of, parent_of}}
use Rattle.machine.specs.{Machine.same_slot, Objects.kind_of_object, WellFormed.{Descends, LiesIn, child, further, kind_of}}
use Rattle.{machine.proofs.LookUps.one_slot, steps.proofs.BelowLemmas.below_decided, policy.specs.Domain.EdgeTest}
use Rattle.integrity.specs.{Invariant.IsSound, Keeping.{IsSharp, MayKeep}, Removals.{MayRemove, use_of}}
use Rattle.integrity.proofs.{Cascade.{gives_use, of_use}, Held.held_of, InMemory.{label_inside, lies_other}}
use Rattle.integrity.proofs.{Reach.{IsControlled, controlled_keeps, target_label}, RemovalConfined.descends_derive}

-- only a control's use is to configure a core
use_other : (k : ObjectKind) → k ≢ kind.Control → use_of k ≢ authority.SchedControl
use_other kind.Control other e = other refl
use_other _ other e = cc

module _ (t : Layout) (allowed : EdgeTest) (a : ℕ) (m : Machine) (sound : IsSound t allowed m) (closed : IsSharp t allowed) where
  to : (slot : SlotRef) (held : Cap) → cap_of m slot ≡ Some held → (label : ℕ) × (label_of t m held.object ≡ Some label)
  to = target_label t allowed m (held_of t allowed m sound)

  -- a label may use what a capability is for
  abbrev IsUsed : ℕ → Cap → Type 0
  IsUsed by held =
      (label : ℕ) → label_of t m held.object ≡ Some label → allowed by (use_of (kind_of_detail held.detail)) label ≡ true

  -- a capability in a CNode of the label is used so
  used_in :
      (slot : SlotRef) (held : Cap) → (mine : IsControlled t allowed m a slot.holder) → cap_of m slot ≡ Some held
      → IsUsed mine.label held
  used_in slot held mine filled label labelled =
      sound.confined mine.label (use_of (kind_of_detail held.detail)) label
      (by_cap slot held filled mine.is_node (gives_use held.detail) mine.labelled labelled)

  -- a child of such a capability is for the same object, or for one in the untyped memory that the label controls; and the label keeps, so
  -- it may do everything to what it controls
  module _
      (by : ℕ) (keeps : MayKeep t allowed by) (slot : SlotRef) (held : Cap) (filled : cap_of m slot ≡ Some held) (parent : SlotRef) (over : Cap)
      (above : cap_of m parent ≡ Some over) where
    same_used : held.object ≡ over.object → IsUsed by over → IsUsed by held
    same_used same used label labelled =
        ap (λ k. allowed by (use_of k) label)
        (same_Some (kind_of_detail held.detail) (kind_of_detail over.detail)
        (sym (sound.well_formed.slots.object slot held filled) ∙ ap (kind_of m) same ∙ sound.well_formed.slots.object parent over above))
        ∙ used label (ap (label_of t m) (sym same) ∙ labelled)

    made_used :
        (memory : Untyped) (made : Object) → object_of m over.object ≡ Some (o.Untyped memory) → object_of m held.object ≡ Some made
        → LiesIn memory made → IsUsed by over → IsUsed by held
    made_used memory made at there lies used label labelled =
        closed.keepers_have_all by (use_of (kind_of_detail held.detail)) label keeps (record {
          controls = ap (allowed by authority.Control) one ∙ controls;
          given = inr (of_use (kind_of_detail held.detail), use_other (kind_of_detail held.detail) other);
        })
      where
        its : (of : ℕ) × (label_of t m over.object ≡ Some of)
        its = to parent over above

        one : label ≡ its.0
        one = label_inside t m sound.of_table held.object over.object memory made label its.0 at there lies labelled its.1

        untyped : kind_of_detail over.detail ≡ kind.Untyped
        untyped =
            same_Some (kind_of_detail over.detail) kind.Untyped
            (sym (sound.well_formed.slots.object parent over above) ∙ ap (option_map kind_of_object) at)

        controls : allowed by authority.Control its.0 ≡ true
        controls = ap (λ k. allowed by (use_of k) its.0) (sym untyped) ∙ used its.0 its.1

        other : kind_of_detail held.detail ≢ kind.Control
        other e =
            lies_other memory made lies
            (same_Some (kind_of_object made) kind.Control
            (sym (ap (option_map kind_of_object) there) ∙ sound.well_formed.slots.object slot held filled ∙ ap Some e))

    child_used : parent_of m slot ≡ Some parent → IsUsed by over → IsUsed by held
    child_used is used = elim (sound.well_formed.slots.kin slot parent held over is filled above) [
      | inl same ↦ same_used same used
      | inr at ↦ made_used at.0 at.1 at.2 at.3 at.4 used
    ]

  -- each descendant is used so
  descends_used :
      (by : ℕ) → MayKeep t allowed by → {slot above : SlotRef} → Descends m slot above
      → ((over : Cap) → cap_of m above ≡ Some over → IsUsed by over) → (held : Cap) → cap_of m slot ≡ Some held → IsUsed by held
  descends_used by keeps (child {slot} {parent} is) used held filled =
      let over = sound.well_formed.slots.parent_filled slot parent is in
      child_used by keeps slot held filled parent over.0 over.1 is (used over.0 over.1)
  descends_used by keeps (further {slot} {parent} is d) used held filled =
      let over = sound.well_formed.slots.parent_filled slot parent is in
      child_used by keeps slot held filled parent over.0 over.1 is (descends_used by keeps d used over.0 over.1)

  pub may_delete_in : (slot : SlotRef) → IsControlled t allowed m a slot.holder → MayRemove t allowed a m (same_slot slot)
  may_delete_in slot mine other held is filled =
      let of = to other held filled in
      let same = one_slot slot other is in
      record {
        controlled = mine.label;
        control = mine.controls;
        holder = mine.label;
        held_by = ap (λ (s : SlotRef). label_of t m s.holder) (sym same) ∙ mine.labelled;
        derive = inl refl;
        label = of.0;
        labelled = of.1;
        reach = inl (used_in slot held mine (ap (cap_of m) same ∙ filled) of.0 of.1);
      }

  pub may_revoke_below : (slot : SlotRef) → IsControlled t allowed m a slot.holder → MayRemove t allowed a m (is_below m slot)
  may_revoke_below slot mine below held is filled =
      let of = to below held filled in
      let holder = sound.well_formed.slots.holder below held filled in
      let of_holder = sound.of_table.labelled below.holder holder.0 holder.1 in
      let descends = (below_decided m slot below).0 is in
      record {
        controlled = mine.label;
        control = mine.controls;
        holder = of_holder.0;
        held_by = of_holder.1;
        derive =
            inr
            (descends_derive t m (same_slot slot) allowed sound closed.derives_on descends mine.label of_holder.0 mine.labelled
            of_holder.1);
        label = of.0;
        labelled = of.1;
        reach =
            inl
            (descends_used mine.label (controlled_keeps t allowed m a slot.holder mine) descends (λ over above. used_in slot over mine above)
            held filled of.0 of.1);
      }

  pub may_clear_root :
      (thread : ObjId) (label : ℕ) → kind_of m thread ≡ Some kind.Tcb → label_of t m thread ≡ Some label
      → allowed a authority.Control label ≡ true → MayRemove t allowed a m (same_slot (root_of thread))
  may_clear_root thread label is_thread labelled control other held is filled =
      let of = to other held filled in
      let same = ap (λ (s : SlotRef). s.holder) (one_slot (root_of thread) other is) in
      let by = ap (label_of t m) (sym same) ∙ labelled in
      let at_thread = ap (kind_of m) (sym same) ∙ is_thread in
      record {
        controlled = label;
        control = control;
        holder = label;
        held_by = by;
        derive = inl refl;
        label = of.0;
        labelled = of.1;
        reach =
            inr (
              sound.well_formed.slots.root other held filled at_thread,
              sound.confined label authority.Space of.0 (by_root other held filled at_thread by of.1),
            );
      }
