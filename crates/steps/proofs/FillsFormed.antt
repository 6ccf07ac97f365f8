-- That a machine stays well formed when an empty slot gets a copy of a capability.
use Rattle.std.{specs.Prelude.{None, Some, if◌then◌else◌, option_map}, proofs.Common.{◌<◌, ◌∙◌, ◌≡◌, ◌≢◌, ◌⊎◌, Bool, ap, arith, false, inl}}
use Rattle.std.proofs.{Common.{inr, refl, subst, sym, true}, lemmas.Option.same_Some}
use Rattle.base.specs.declared.ids.{ObjId.ObjId, SlotRef.SlotRef}
use Rattle.machine.specs.declared.{cap.{Cap.Cap, Detail.Detail}, object.{Object.{Object, Object as o}, ObjectKind.ObjectKind as kind}}
use Rattle.machine.specs.{declared.slot_address.SlotAddress.SlotAddress, Capabilities.kind_of_detail, Machine.{Machine, cap_of, object_of}}
use Rattle.machine.specs.{Machine.parent_of, Objects.{kind_of_object, slot_count}, Tree.{copied, parent_of_copy}, WellFormed.Descends}
use Rattle.machine.{specs.WellFormed.{IsWellFormed, SlotsFit, kind_of, Descends.{child, further}}, proofs.SlotChanges.Fills}
use Rattle.steps.proofs.{Copies.kinds_alike, FilledSlots.{FillsUnder, cap_here, cap_stays, cap_was, child_filled, descent_stays, no_cycle}}
use Rattle.steps.proofs.{FilledSlots.{not_filled, old_cap, parent_filled, parent_here, parent_was}, LedSlots.{InNode, led_slot}}
use Rattle.steps.proofs.SameObjects.{KeepsDescent, Kin, OneCap, kin_same, kinds_same, links_same, numbers_same, parts_same}
use Rattle.steps.proofs.SlotRows.{Derives}

-- a slot exists and may hold a capability; a root slot may hold only a CNode's
pub record Takes (m : Machine) (slot : SlotRef) (detail : Detail) : Type 0 where
  pub object : Object
  pub there : object_of m slot.holder ≡ Some object
  pub within : slot.index < slot_count object
  pub root : kind_of_object object ≡ kind.Tcb → kind_of_detail detail ≡ kind.CNode

-- a CNode's slots may hold any capability
pub node_takes : (m : Machine) (slot : SlotRef) (detail : Detail) → InNode m slot → Takes m slot detail
node_takes m slot detail node =
    record { object = o.CNode node.0; there = node.1; within = node.2; root = λ other. absurd (grind (arith, other)) }

module _ (m next : Machine) (slot source : SlotRef) (held new : Cap) (formed : IsWellFormed m)
    (fills : Fills m slot new (parent_of_copy m source held) next) (takes : Takes m slot new.detail)
    (empty : cap_of m slot ≡ None) (full : cap_of m source ≡ Some held) (of : new.object ≡ held.object)
    (alike : kind_of_detail new.detail ≡ kind_of_detail held.detail) (typed : kind_of_detail held.detail ≢ kind.Untyped) where
  -- the copy is a child of its source, or of its source's parent
  copy_under :
      (parent : SlotRef) → parent_of_copy m source held ≡ Some parent → (source ≡ parent) ⊎ (parent_of m source ≡ Some parent)
  copy_under parent e = by_original held.original e where
    by_original :
        (original : Bool) → (if original then Some source else parent_of m source) ≡ Some parent
        → (source ≡ parent) ⊎ (parent_of m source ≡ Some parent)
    by_original true e = inl cc
    by_original false e = inr e

  under : FillsUnder m slot (parent_of_copy m source held) new next
  under =
      record {
        fits = formed.slots;
        empty = empty;
        full = λ parent e. by_copy parent (copy_under parent e);
        caps = fills.caps;
        parents = fills.parents;
      }
    where
      by_copy :
          (parent : SlotRef) → (source ≡ parent) ⊎ (parent_of m source ≡ Some parent) → (cap : Cap) × (cap_of m parent ≡ Some cap)
      by_copy parent (inl same) = (held, ap (cap_of m) (sym same) ∙ full)
      by_copy parent (inr was) = formed.slots.parent_filled source parent was

  -- the copy descends from each slot from which its source descends
  copy_descends : (above : SlotRef) → Descends m source above → Descends next slot above
  copy_descends above d = by_original held.original refl d where
    under_it :
        (original : Bool) → held.original ≡ original
        → parent_of next slot ≡ (if original then Some source else parent_of m source)
    under_it original is = parent_here under ∙ ap (λ b. if b then Some source else parent_of m source) is

    by_original : (original : Bool) → held.original ≡ original → Descends m source above → Descends next slot above
    by_original true is d = further (under_it true is) (descent_stays under d)
    by_original false is (child e) = child (under_it false is ∙ e)
    by_original false is (further e rest) = further (under_it false is ∙ e) (descent_stays under rest)

  kind_here : kind_of m new.object ≡ Some (kind_of_detail new.detail)
  kind_here = ap (kind_of m) of ∙ formed.slots.object source held full ∙ ap (λ k. Some k) (sym alike)

  kind_now : (q : SlotRef) (cap : Cap) → cap_of next q ≡ Some cap → kind_of m cap.object ≡ Some (kind_of_detail cap.detail)
  kind_now q cap e = by_case (cap_was under q cap e) where
    by_case : ((q ≡ slot) × (cap ≡ new)) ⊎ (cap_of m q ≡ Some cap) → kind_of m cap.object ≡ Some (kind_of_detail cap.detail)
    by_case (inl is) = subst (λ (c : Cap). kind_of m c.object ≡ Some (kind_of_detail c.detail)) (sym is.1) kind_here
    by_case (inr was) = formed.slots.object q cap was

  holder_now :
      (q : SlotRef) (cap : Cap) → cap_of next q ≡ Some cap
      → (object : Object) × (object_of next q.holder ≡ Some object) × (q.index < slot_count object)
  holder_now q cap e = by_case (cap_was under q cap e) where
    by_case :
        ((q ≡ slot) × (cap ≡ new)) ⊎ (cap_of m q ≡ Some cap)
        → (object : Object) × (object_of next q.holder ≡ Some object) × (q.index < slot_count object)
    by_case (inl is) =
        subst (λ (s : SlotRef). (object : Object) × (object_of next s.holder ≡ Some object) × (s.index < slot_count object))
        (sym is.0) (takes.object, fills.objects.objects slot.holder ∙ takes.there, takes.within)
    by_case (inr was) =
        let w = formed.slots.holder q cap was in (w.0, fills.objects.objects q.holder ∙ w.1, w.2)

  root_now :
      (q : SlotRef) (cap : Cap) → cap_of next q ≡ Some cap → kind_of next q.holder ≡ Some kind.Tcb
      → kind_of_detail cap.detail ≡ kind.CNode
  root_now q cap e is_root = by_case (cap_was under q cap e) where
    was_root : kind_of m q.holder ≡ Some kind.Tcb
    was_root = sym (kinds_same m next fills.objects q.holder) ∙ is_root

    by_case : ((q ≡ slot) × (cap ≡ new)) ⊎ (cap_of m q ≡ Some cap) → kind_of_detail cap.detail ≡ kind.CNode
    by_case (inl is) =
        let same : Some (kind_of_object takes.object) ≡ Some kind.Tcb =
        sym (ap (option_map kind_of_object) takes.there) ∙ ap (λ (s : SlotRef). kind_of m s.holder) (sym is.0) ∙ was_root in
        ap (λ (c : Cap). kind_of_detail c.detail) is.1 ∙ takes.root (same_Some (kind_of_object takes.object) kind.Tcb same)
    by_case (inr was) = formed.slots.root q cap was was_root

  kin_now :
      (q parent : SlotRef) (below above : Cap) → parent_of next q ≡ Some parent → cap_of next q ≡ Some below
      → cap_of next parent ≡ Some above → Kin next below.object above.object
  kin_now q parent below above e f g = by_case (parent_was under q parent e) where
    above_was : cap_of m parent ≡ Some above
    above_was = old_cap under parent above (not_filled under parent (parent_filled under q parent e)) g

    by_copy : below.object ≡ held.object → (source ≡ parent) ⊎ (parent_of m source ≡ Some parent) → Kin next below.object above.object
    by_copy copies (inl is) =
        let one : Some held ≡ Some above = sym full ∙ ap (cap_of m) is ∙ above_was in
        let same : held ≡ above = cc in
        inl (copies ∙ ap (λ (c : Cap). c.object) same)
    by_copy copies (inr was) =
        subst (λ id. Kin next id above.object) (sym copies)
        (kin_same m next fills.objects held.object above.object (formed.slots.kin source parent held above was full above_was))

    below_is : q ≡ slot → below.object ≡ held.object
    below_is is =
        let one : Some below ≡ Some new = sym f ∙ ap (cap_of next) is ∙ cap_here under in
        let same : below ≡ new = cc in
        ap (λ (c : Cap). c.object) same ∙ of

    by_case :
        ((q ≡ slot) × (parent_of_copy m source held ≡ Some parent)) ⊎ (parent_of m q ≡ Some parent)
        → Kin next below.object above.object
    by_case (inl is) = by_copy (below_is is.0) (copy_under parent is.1)
    by_case (inr was) =
        kin_same m next fills.objects below.object above.object
        (formed.slots.kin q parent below above was
        (old_cap under q below (not_filled under q (formed.slots.child_filled q parent was)) f) above_was)

  slots_formed : SlotsFit next
  slots_formed =
      record {
        holder = holder_now;
        object = λ q cap e. kinds_same m next fills.objects cap.object ∙ kind_now q cap e;
        root = root_now;
        child_filled = child_filled under;
        parent_filled = λ q parent e. let w = parent_filled under q parent e in (w.0, cap_stays under parent w.0 w.1);
        acyclic = no_cycle under;
        kin = kin_now;
      }

  -- the copy isn't for untyped memory
  not_new : (cap : Cap) → cap ≡ new → kind_of m cap.object ≢ Some kind.Untyped
  not_new cap is untyped =
      let two : Some (kind_of_detail new.detail) ≡ Some kind.Untyped =
      sym kind_here ∙ ap (λ (c : Cap). kind_of m c.object) (sym is) ∙ untyped in
      let one : kind_of_detail new.detail ≡ kind.Untyped = cc in
      typed (sym alike ∙ one)

  old_untyped :
      (q : SlotRef) (cap : Cap) → kind_of m cap.object ≡ Some kind.Untyped → cap_of next q ≡ Some cap → cap_of m q ≡ Some cap
  old_untyped q cap untyped e = by_case (cap_was under q cap e) where
    by_case : ((q ≡ slot) × (cap ≡ new)) ⊎ (cap_of m q ≡ Some cap) → cap_of m q ≡ Some cap
    by_case (inl is) = absurd (not_new cap is.1 untyped)
    by_case (inr was) = was

  one_now : OneCap next
  one_now a b first second e f same untyped =
      let kinds : kind_of m first.object ≡ Some kind.Untyped = kind_now a first e ∙ ap (λ k. Some k) untyped in
      formed.numbers.one_cap a b first second (old_untyped a first kinds e)
      (old_untyped b second (ap (kind_of m) (sym same) ∙ kinds) f) same untyped

  descent_now : KeepsDescent m next
  descent_now q above cap over memory e f is all = by_case (cap_was under q cap e) where
    over_was : cap_of m above ≡ Some over
    over_was = old_untyped above over (ap (option_map kind_of_object) is) f

    by_case : ((q ≡ slot) × (cap ≡ new)) ⊎ (cap_of m q ≡ Some cap) → Descends next q above
    by_case (inl here) =
        subst (λ (s : SlotRef). Descends next s above) (sym here.0)
        (copy_descends above
        (all source above held over full (sym of ∙ ap (λ (c : Cap). c.object) (sym here.1)) over_was refl))
    by_case (inr was) = descent_stays under (all q above cap over was refl over_was refl)

  pub fills_formed : IsWellFormed next
  fills_formed =
      record {
        slots = slots_formed;
        parts = parts_same m next fills.objects formed.parts;
        links = links_same m next fills.objects formed.links;
        numbers =
            numbers_same m next fills.objects (λ q cap e. (q, cap, cap_stays under q cap e, refl)) one_now descent_now formed.numbers;
        settled = fills.objects.going ∙ formed.settled;
      }

pub derives_formed :
    (m : Machine) (caller : ObjId) (to from : SlotAddress) (next : Machine) → IsWellFormed m → Derives m caller to from next
    → IsWellFormed next
derives_formed m caller to from next formed done =
    fills_formed m next done.target done.source done.held (copied done.held done.detail) formed done.changes
    (node_takes m done.target done.detail (led_slot m caller to done.target done.finds.leads_to)) done.finds.vacant
    done.finds.filled refl (kinds_alike done.detail done.held.detail done.narrower) done.copyable
