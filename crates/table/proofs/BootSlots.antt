-- The slots of a boot state: each is in its holder, each capability says the kind of its object, and the tree is that of the table.
use Rattle.std.{specs.Prelude.{Some, option_map}, proofs.{Common.{◌∙◌, ◌≡◌, ap, inl, refl, sym}, lemmas.Option.same_Some}}
use Rattle.base.specs.declared.ids.{ObjId.ObjId, SlotRef.SlotRef}
use Rattle.machine.specs.declared.{cap.{Cap.Cap, Detail.{Detail, Detail as d}}, layout.Initial.Initial, object.Object.{Object, Object as o}}
use Rattle.machine.specs.{Boot.{IsBoot, bound}, Capabilities.kind_of_detail, Layout.{Layout, initial_of}, Machine.{Machine, cap_of}}
use Rattle.machine.{specs.{Objects.kind_of_object, WellFormed.{SlotsFit, kind_of}}, proofs.Bound.{kind-bound, slot_count-bound}}
use Rattle.table.{specs.Rules.{IsDetailOf, IsLawful}, proofs.{BootParts.{cap-law, declared-present, pair-law}, BootTree.boot-acyclic}}

pub kind-detail : (object : Object) (detail : Detail) → IsDetailOf object detail → kind_of_object object ≡ kind_of_detail detail
kind-detail (o.Untyped _) d.Untyped fits = refl
kind-detail (o.CNode _) (d.CNode _) fits = refl
kind-detail (o.Tcb _) d.Tcb fits = refl
kind-detail (o.Endpoint _) (d.Endpoint _) fits = refl
kind-detail (o.Notification _) (d.Notification _) fits = refl
kind-detail (o.Reply _) d.Reply fits = refl
kind-detail (o.Context _) d.Context fits = refl
kind-detail (o.Frame _) (d.Frame _) fits = refl
kind-detail (o.Control _) d.Control fits = refl
kind-detail _ _ fits = absurd fits

pub kind-present :
    (t : Layout) (m : Machine) (id : ObjId) (initial : Initial) → IsBoot t m → initial_of t id ≡ Some initial
    → kind_of m id ≡ Some (kind_of_object initial.object)
kind-present t m id initial boot at =
    ap (option_map kind_of_object) (declared-present t m id initial boot at)
    ∙ ap (λ found. Some found) (kind-bound t id initial.object)

-- a capability says the kind of its object
pub kind-aimed :
    (t : Layout) (m : Machine) (slot : SlotRef) (held : Cap) → IsLawful t → IsBoot t m → cap_of m slot ≡ Some held
    → kind_of m held.object ≡ Some (kind_of_detail held.detail)
unfolding initial_of
kind-aimed t m slot held lawful boot filled =
    let law = cap-law t m slot held lawful boot filled in
    kind-present t m held.object law.target boot law.aimed
    ∙ ap (λ found. Some found) (kind-detail law.target.object held.detail law.detail)

pub boot-slots : (t : Layout) (m : Machine) → IsLawful t → IsBoot t m → SlotsFit m
unfolding initial_of
boot-slots t m lawful boot =
    record {
      holder =
          λ slot held filled.
          let place = (cap-law t m slot held lawful boot filled).place in (
            bound t slot.holder place.holder.object,
            declared-present t m slot.holder place.holder boot place.held,
            rw slot_count-bound place.within,
          );
      object = λ slot held filled. kind-aimed t m slot held lawful boot filled;
      root =
          λ slot held filled of_thread.
          let law = cap-law t m slot held lawful boot filled in
          law.root (same_Some _ _ (sym (kind-present t m slot.holder law.place.holder boot law.place.held) ∙ of_thread));
      child_filled = λ slot parent joins. let pair = pair-law t m slot parent lawful boot joins in (pair.below, boot.caps slot ∙ pair.child);
      parent_filled = λ slot parent joins. let pair = pair-law t m slot parent lawful boot joins in (pair.above, boot.caps parent ∙ pair.parent);
      acyclic = λ slot descends. boot-acyclic t m slot lawful boot descends;
      kin =
          λ slot parent below above joins has_below has_above.
          let pair = pair-law t m slot parent lawful boot joins in
          let lower : pair.below ≡ below = same_Some _ _ (sym (boot.caps slot ∙ pair.child) ∙ has_below) in
          let upper : pair.above ≡ above = same_Some _ _ (sym (boot.caps parent ∙ pair.parent) ∙ has_above) in
          inl ((λ i. (sym lower i).object) ∙ sym pair.object ∙ (λ i. (upper i).object));
    }
