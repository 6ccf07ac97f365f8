-- That a draft without its last filled slot is a draft, and admits that slot if its capability was marked original.
use Rattle.std.{specs.declared.cmp.Ordering.TheVariants.Less, proofs.Common.{ℕ, ◌<◌, ◌∙◌, ◌≡◌, ◌≢◌, Some, ap, false, get_or, length, not}}
use Rattle.std.proofs.{Common.{refl, true}, lemmas.Bool.{and_from, false_from_ne_true, le-leb, lt-ltb}}
use Rattle.machine.specs.declared.{cap.{Cap.Cap, Detail.Detail}, layout.{Filled.Filled, Initial.Initial}, object.Object.Object}
use Rattle.machine.specs.declared.cap.Detail.TheVariants as d
use Rattle.machine.specs.{declared.object.{Object.Object as o, ObjectKind.ObjectKind as kind}, Capabilities.kind_of_detail, Layout.Layout}
use Rattle.machine.{specs.{Layout.initial_of, Machine.{same_id, slot_cmp}, Objects.kind_of_object}, proofs.LookUps.one_id}
use Rattle.table.specs.Building.{AdmitsCap, fits, fits_target, has_cap_to, is_above_caps, is_fitting, may_hold, repeats_untyped}
use Rattle.table.{specs.{Building.with_filled, Rules.{IsCapOf, IsDetailOf, IsDraft, is_tcb}}, proofs.FrontLemmas.{all_front, none_passes}}
use Rattle.table.proofs.{FrontLemmas.pairs_front, Slots.{rises_after, slot_declared}}

fits_detail : (object : Object) (detail : Detail) → IsDetailOf object detail → fits object detail ≡ true
fits_detail (o.Untyped _) d.Untyped is = refl
fits_detail (o.CNode node) (d.CNode guard) is = and_from _ _ (le-leb _ _ is.0) (lt-ltb _ _ is.1)
fits_detail (o.Tcb _) d.Tcb is = refl
fits_detail (o.Endpoint _) (d.Endpoint end) is = and_from _ _ (lt-ltb _ _ is.0) (lt-ltb _ _ is.1)
fits_detail (o.Notification _) (d.Notification end) is = and_from _ _ (lt-ltb _ _ is.0) (lt-ltb _ _ is.1)
fits_detail (o.Reply _) d.Reply is = refl
fits_detail (o.Context _) d.Context is = refl
fits_detail (o.Frame _) (d.Frame rights) is = lt-ltb _ _ is
fits_detail (o.Control _) d.Control is = refl
fits_detail _ _ is = absurd is

no_thread : (object : Object) → (kind_of_object object ≡ kind.Tcb → ⊥) → not (is_tcb object) ≡ true
no_thread (o.Tcb _) apart = absurd (apart refl)
no_thread (o.Untyped _) apart = refl
no_thread (o.CNode _) apart = refl
no_thread (o.Endpoint _) apart = refl
no_thread (o.Notification _) apart = refl
no_thread (o.Reply _) apart = refl
no_thread (o.Context _) apart = refl
no_thread (o.Frame _) apart = refl
no_thread (o.Control _) apart = refl

holds :
    (holder : Initial) (detail : Detail) → (kind_of_object holder.object ≡ kind.Tcb → kind_of_detail detail ≡ kind.CNode)
    → may_hold (Some holder) detail ≡ true
holds holder (d.CNode _) root = refl
holds holder d.Untyped root = no_thread holder.object (λ at. let same = root at in cc)
holds holder d.Tcb root = no_thread holder.object (λ at. let same = root at in cc)
holds holder (d.Endpoint _) root = no_thread holder.object (λ at. let same = root at in cc)
holds holder (d.Notification _) root = no_thread holder.object (λ at. let same = root at in cc)
holds holder d.Reply root = no_thread holder.object (λ at. let same = root at in cc)
holds holder d.Context root = no_thread holder.object (λ at. let same = root at in cc)
holds holder (d.Frame _) root = no_thread holder.object (λ at. let same = root at in cc)
holds holder d.Control root = no_thread holder.object (λ at. let same = root at in cc)

once :
    (t : Layout) (cap : Cap)
    → ((k : ℕ) (d : Filled) → k < length t.caps → kind_of_detail cap.detail ≡ kind.Untyped
    → (get_or t.caps k d).cap.object ≢ cap.object)
    → repeats_untyped t cap ≡ false
unfolding has_cap_to
once t cap differ = by cap.detail refl where
  by :
      (detail : Detail) → cap.detail ≡ detail
      → repeats_untyped t (record { object = cap.object; detail = detail; original = cap.original }) ≡ false
  by d.Untyped at =
      none_passes (λ filled. same_id filled.cap.object cap.object) t.caps
      (λ k d within. false_from_ne_true _ (λ tie. differ k d within (ap kind_of_detail at) (one_id _ _ tie)))
  by (d.CNode _) at = refl
  by d.Tcb at = refl
  by (d.Endpoint _) at = refl
  by (d.Notification _) at = refl
  by d.Reply at = refl
  by d.Context at = refl
  by (d.Frame _) at = refl
  by d.Control at = refl

pub cap_removed :
    (t : Layout) (filled : Filled) → filled.cap.original ≡ true → IsDraft (with_filled t filled)
    → IsDraft t × AdmitsCap t filled
unfolding initial_of is_above_caps is_fitting
cap_removed t filled original h =
    let each = all_front (IsCapOf t.objects) t.caps filled h.caps.each in
    let cap = each.1 in
    let rise = pairs_front (λ one other. slot_cmp one.slot other.slot ≡ Less) t.caps filled h.caps.rise in
    let differ =
    pairs_front (λ one other. kind_of_detail other.cap.detail ≡ kind.Untyped → one.cap.object ≢ other.cap.object) t.caps
    filled h.caps.untypeds_once in (
      record {
        labels = h.labels;
        objects = h.objects;
        caps = record { each = each.0; rise = rise.0; untypeds_once = differ.0 };
        pairs = h.pairs;
        bindings = h.bindings;
      },
      record {
        rises = rises_after (λ filled. filled.slot) t.caps filled.slot rise.1;
        slot = slot_declared t filled.slot cap.place;
        root =
            ap (λ found. may_hold found filled.cap.detail) cap.place.held
            ∙ holds cap.place.holder filled.cap.detail cap.root;
        fits =
            ap (λ found. fits_target found filled.cap.detail) cap.aimed
            ∙ fits_detail cap.target.object filled.cap.detail cap.detail;
        once = once t filled.cap differ.1;
        original = original;
      },
    )
