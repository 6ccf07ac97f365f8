-- That a draft stays a draft when a slot is filled.
use Rattle.std.{specs.{declared.cmp.Ordering.TheVariants.Less, Ordering.is_eq}, proofs.Common.{ℕ, ◌&&◌, ◌<◌, ◌∙◌, ◌≡◌, ◌≢◌, None}}
use Rattle.std.proofs.{Common.{Option, Some, ap, arith, false, get_or, length, refl, sym, true}, lemmas.Bool.{and_parts, false≢true}}
use Rattle.std.proofs.lemmas.{Bool.{leb-true, ltb-true, not-true}, Cmp.tied_itself, List.{Elements.All-push, Quantifiers.all_pairs_push}}
use Rattle.{std.proofs.lemmas.Option.slice_get_within, base.specs.declared.limits.TheConstants.OBJECT_NUMBERS}
use Rattle.machine.specs.declared.{cap.{Badged.Badged, Cap.Cap, Detail.Detail}, layout.{Filled.Filled, Initial.Initial}}
use Rattle.machine.specs.{declared.object.{Object.{Object, Object as o}, ObjectKind.ObjectKind as kind}, Capabilities.kind_of_detail}
use Rattle.machine.{specs.{Layout.{Layout, initial_of}, Machine.{same_id, slot_cmp}, Objects.kind_of_object}, proofs.LookUps.id_total}
use Rattle.table.specs.Building.{AdmitsCap, fits, fits_target, has_cap_to, is_above_caps, is_badged, is_fitting, may_hold, repeats_untyped}
use Rattle.table.specs.{Building.with_filled, Rules.{IsBadged, IsCapOf, IsDetailOf, IsDraft, is_tcb}, Tree.is_for_untyped}
use Rattle.table.proofs.{ListLemmas.not_any, Slots.{below_new, has_slot}}
use Rattle.machine.specs.declared.cap.Detail.TheVariants as d

badged_is : (rights : ℕ) (end : Badged) → is_badged rights end ≡ true → IsBadged rights end
badged_is rights end e = let parts = and_parts _ _ e in (ltb-true _ _ parts.0, ltb-true _ _ parts.1)

detail_fits : (object : Object) (detail : Detail) → fits object detail ≡ true → IsDetailOf object detail
detail_fits (o.Untyped _) d.Untyped e = tt
detail_fits (o.CNode node) (d.CNode guard) e = let parts = and_parts _ _ e in (leb-true _ _ parts.0, ltb-true _ _ parts.1)
detail_fits (o.Tcb _) d.Tcb e = tt
detail_fits (o.Endpoint _) (d.Endpoint end) e = badged_is _ end e
detail_fits (o.Notification _) (d.Notification end) e = badged_is _ end e
detail_fits (o.Reply _) d.Reply e = tt
detail_fits (o.Context _) d.Context e = tt
detail_fits (o.Frame _) (d.Frame rights) e = ltb-true _ _ e
detail_fits (o.Control _) d.Control e = tt
detail_fits _ _ e = absurd (false≢true e)

-- a capability that fits has an object
pub target_of :
    (found : Option Initial) (detail : Detail) → fits_target found detail ≡ true
    → (target : Initial) × (found ≡ Some target) × IsDetailOf target.object detail
target_of None detail e = absurd (false≢true e)
target_of (Some target) detail e = (target, refl, detail_fits target.object detail e)

no_tcb : (object : Object) → is_tcb object ≡ false → kind_of_object object ≡ kind.Tcb → ⊥
no_tcb (o.Tcb _) e at = false≢true (sym e)
no_tcb (o.Untyped _) e at = cc
no_tcb (o.CNode _) e at = cc
no_tcb (o.Endpoint _) e at = cc
no_tcb (o.Notification _) e at = cc
no_tcb (o.Reply _) e at = cc
no_tcb (o.Context _) e at = cc
no_tcb (o.Frame _) e at = cc
no_tcb (o.Control _) e at = cc

-- a capability that fits is for an object whose number is small enough
pub aimed_low : (t : Layout) (cap : Cap) → IsDraft t → is_fitting t cap ≡ true → cap.object.0 < OBJECT_NUMBERS
unfolding initial_of is_fitting
aimed_low t cap h e =
    let target = target_of _ _ e in
    let within = slice_get_within t.objects cap.object.0 target.0 target.1 in
    let few = h.objects.few in
    omega arith

-- a thread's root slot takes only a CNode's capability
root_holds :
    (holder : Initial) (detail : Detail) → may_hold (Some holder) detail ≡ true → kind_of_object holder.object ≡ kind.Tcb
    → kind_of_detail detail ≡ kind.CNode
root_holds holder (d.CNode _) e at = refl
root_holds holder d.Untyped e at = absurd (no_tcb holder.object (not-true _ e) at)
root_holds holder d.Tcb e at = absurd (no_tcb holder.object (not-true _ e) at)
root_holds holder (d.Endpoint _) e at = absurd (no_tcb holder.object (not-true _ e) at)
root_holds holder (d.Notification _) e at = absurd (no_tcb holder.object (not-true _ e) at)
root_holds holder d.Reply e at = absurd (no_tcb holder.object (not-true _ e) at)
root_holds holder d.Context e at = absurd (no_tcb holder.object (not-true _ e) at)
root_holds holder (d.Frame _) e at = absurd (no_tcb holder.object (not-true _ e) at)
root_holds holder d.Control e at = absurd (no_tcb holder.object (not-true _ e) at)

untyped_at : (detail : Detail) → kind_of_detail detail ≡ kind.Untyped → is_for_untyped detail ≡ true
untyped_at d.Untyped e = refl
untyped_at _ e = cc

other_object :
    (t : Layout) (cap : Cap) → repeats_untyped t cap ≡ false → kind_of_detail cap.detail ≡ kind.Untyped → (k : ℕ) (d : Filled)
    → k < length t.caps → (get_or t.caps k d).cap.object ≢ cap.object
unfolding has_cap_to
other_object t cap once at k d within same =
    let none : has_cap_to t cap.object ≡ false = sym (ap (λ b. b && has_cap_to t cap.object) (untyped_at cap.detail at)) ∙ once in
    let missed = not_any (λ filled. same_id filled.cap.object cap.object) t.caps none k d within in
    false≢true (sym missed ∙ ap (λ id. same_id id cap.object) same ∙ ap is_eq (tied_itself id_total cap.object))

pub draft_filled : (t : Layout) (filled : Filled) → IsDraft t → AdmitsCap t filled → IsDraft (with_filled t filled)
unfolding initial_of is_above_caps is_fitting
draft_filled t filled h admits =
    let place = has_slot t filled.slot admits.slot in
    let target = target_of _ _ admits.fits in
    record {
      labels = h.labels;
      objects = h.objects;
      caps = record {
        each =
            All-push (IsCapOf t.objects) t.caps filled h.caps.each
            (record {
              place = place;
              target = target.0;
              aimed = target.1;
              root =
                  root_holds place.holder filled.cap.detail
                  (sym (ap (λ found. may_hold found filled.cap.detail) place.held) ∙ admits.root);
              detail = target.2;
            });
        rise =
            all_pairs_push (λ one other. slot_cmp one.slot other.slot ≡ Less) t.caps filled h.caps.rise
            (below_new (λ filled. filled.slot) t.caps filled.slot h.caps.rise admits.rises);
        untypeds_once =
            all_pairs_push (λ one other. kind_of_detail other.cap.detail ≡ kind.Untyped → one.cap.object ≢ other.cap.object)
            t.caps filled h.caps.untypeds_once
            (λ k d within at. other_object t filled.cap admits.once at k d within);
      };
      pairs = h.pairs;
      bindings = h.bindings;
    }
