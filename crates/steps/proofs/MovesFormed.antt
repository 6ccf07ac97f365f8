-- That a machine stays well formed when a capability moves: two of its slots exchange names.
use Rattle.std.{specs.Prelude.{None, Option, Some, if◌then◌else◌, option_map}, proofs.Common.{◌<◌, ◌∙◌, ◌≡◌, ◌⊎◌, Bool, ap}}
use Rattle.{std.proofs.Common.{false, inl, inr, refl, subst, sym, true}, base.specs.declared.ids.{ObjId.ObjId, SlotRef.SlotRef}}
use Rattle.machine.specs.declared.{cap.Cap.Cap, object.{Object.{Object, Object as o}, ObjectKind.ObjectKind as kind}}
use Rattle.machine.specs.{declared.slot_address.SlotAddress.SlotAddress, Capabilities.kind_of_detail}
use Rattle.machine.specs.{Machine.{Machine, cap_of, object_of, parent_of, same_slot}, Objects.slot_count, Tree.exchange}
use Rattle.machine.specs.WellFormed.{Descends, Descends.{child, further}, IsWellFormed, SlotsFit, kind_of}
use Rattle.machine.proofs.{Exchange.exchange_twice, LookUps.one_slot, SlotChanges.Moves}
use Rattle.steps.proofs.{LedSlots.{InNode, led_slot}, SameObjects.{KeepsDescent, OneCap, kin_same}}
use Rattle.steps.proofs.{SameObjects.{kinds_same, links_same, numbers_same, parts_same}, SlotRows.MoveDone}

module _ (m next : Machine) (source target : SlotRef) (held : Cap) (formed : IsWellFormed m) (moves : Moves m source target held next)
    (within : InNode m target) (empty : cap_of m target ≡ None) (full : cap_of m source ≡ Some held) where
  other : SlotRef → SlotRef
  other = exchange source target

  twice : (q : SlotRef) → other (other q) ≡ q
  unfolding other
  twice q = exchange_twice source target q

  -- each slot has what the other had
  renamed : (q : SlotRef) → cap_of next q ≡ cap_of m (other q)
  unfolding other
  renamed q = moves.caps q ∙ by_source (same_slot q source) (same_slot q target) refl refl where
    by_source :
        (tie also : Bool) → same_slot q source ≡ tie → same_slot q target ≡ also
        → (if same_slot q target then Some held else if same_slot q source then None else cap_of m q) ≡ cap_of m (other q)
    by_source true true is also_is =
        let same : source ≡ target = sym (one_slot q source is) ∙ one_slot q target also_is in
        let two : Some held ≡ None = sym full ∙ ap (cap_of m) same ∙ empty in
        cc
    by_source true false is apart = rw (is, apart) (sym empty)
    by_source false true apart is = rw (apart, is) (sym full)
    by_source false false apart also = rw (apart, also) refl

  -- each capability was there, or is the one that moved
  was_or_moved : (q : SlotRef) (cap : Cap) → cap_of next q ≡ Some cap → (q ≡ target) ⊎ (cap_of m q ≡ Some cap)
  was_or_moved q cap e = by_tie (same_slot q target) (same_slot q source) refl (sym (moves.caps q) ∙ e) where
    by_tie :
        (tie also : Bool) → same_slot q target ≡ tie
        → (if tie then Some held else if also then None else cap_of m q) ≡ Some cap → (q ≡ target) ⊎ (cap_of m q ≡ Some cap)
    by_tie true also is same = inl (one_slot q target is)
    by_tie false true is same = cc
    by_tie false false is same = inr same

  cap_was : (q : SlotRef) (cap : Cap) → cap_of next q ≡ Some cap → cap_of m (other q) ≡ Some cap
  cap_was q cap e = sym (renamed q) ∙ e

  cap_now : (q : SlotRef) (cap : Cap) → cap_of m q ≡ Some cap → cap_of next (other q) ≡ Some cap
  cap_now q cap e = renamed (other q) ∙ ap (cap_of m) (twice q) ∙ e

  parent_now : (q parent : SlotRef) → parent_of m q ≡ Some parent → parent_of next (other q) ≡ Some (other parent)
  unfolding other
  parent_now q parent e =
      moves.parents (other q) ∙ ap (λ s. option_map other (parent_of m s)) (twice q) ∙ ap (option_map other) e

  parent_was : (q parent : SlotRef) → parent_of next q ≡ Some parent → parent_of m (other q) ≡ Some (other parent)
  unfolding other
  parent_was q parent e = by_parent (parent_of m (other q)) refl (sym (moves.parents q) ∙ e) where
    by_parent :
        (above : Option SlotRef) → parent_of m (other q) ≡ above → option_map other above ≡ Some parent
        → parent_of m (other q) ≡ Some (other parent)
    by_parent None is same = cc
    by_parent (Some above) is same =
        let one : other above ≡ parent = cc in
        is ∙ ap (λ s. Some s) (sym (twice above) ∙ ap other one)

  -- each pair was a pair of the renamed slots
  pub pair_was :
      (q parent : SlotRef) → parent_of next q ≡ Some parent
      → parent_of m (exchange source target q) ≡ Some (exchange source target parent)
  unfolding other
  pair_was q parent e = parent_was q parent e

  descends_now : {q above : SlotRef} → Descends m q above → Descends next (other q) (other above)
  descends_now (child e) = child (parent_now _ _ e)
  descends_now (further e rest) = further (parent_now _ _ e) (descends_now rest)

  descends_was : {q above : SlotRef} → Descends next q above → Descends m (other q) (other above)
  descends_was (child e) = child (parent_was _ _ e)
  descends_was (further e rest) = further (parent_was _ _ e) (descends_was rest)

  holder_now :
      (q : SlotRef) (cap : Cap) → cap_of next q ≡ Some cap
      → (object : Object) × (object_of next q.holder ≡ Some object) × (q.index < slot_count object)
  holder_now q cap e = by_case (was_or_moved q cap e) where
    by_case :
        (q ≡ target) ⊎ (cap_of m q ≡ Some cap)
        → (object : Object) × (object_of next q.holder ≡ Some object) × (q.index < slot_count object)
    by_case (inl is) =
        subst (λ (s : SlotRef). (object : Object) × (object_of next s.holder ≡ Some object) × (s.index < slot_count object))
        (sym is) (o.CNode within.0, moves.objects.objects target.holder ∙ within.1, within.2)
    by_case (inr was) =
        let w = formed.slots.holder q cap was in (w.0, moves.objects.objects q.holder ∙ w.1, w.2)

  root_now :
      (q : SlotRef) (cap : Cap) → cap_of next q ≡ Some cap → kind_of next q.holder ≡ Some kind.Tcb
      → kind_of_detail cap.detail ≡ kind.CNode
  root_now q cap e is_root = by_case (was_or_moved q cap e) where
    was_root : kind_of m q.holder ≡ Some kind.Tcb
    was_root = sym (kinds_same m next moves.objects q.holder) ∙ is_root

    by_case : (q ≡ target) ⊎ (cap_of m q ≡ Some cap) → kind_of_detail cap.detail ≡ kind.CNode
    by_case (inl is) =
        let node : kind_of m target.holder ≡ Some kind.CNode = rw within.1 refl in
        let two : Some kind.CNode ≡ Some kind.Tcb = sym node ∙ ap (λ (s : SlotRef). kind_of m s.holder) (sym is) ∙ was_root in
        cc
    by_case (inr was) = formed.slots.root q cap was was_root

  slots_formed : SlotsFit next
  slots_formed =
      record {
        holder = holder_now;
        object = λ q cap e. kinds_same m next moves.objects cap.object ∙ formed.slots.object (other q) cap (cap_was q cap e);
        root = root_now;
        child_filled = λ q parent e.
            let w = formed.slots.child_filled (other q) (other parent) (parent_was q parent e) in (w.0, renamed q ∙ w.1);
        parent_filled = λ q parent e.
            let w = formed.slots.parent_filled (other q) (other parent) (parent_was q parent e) in (w.0, renamed parent ∙ w.1);
        acyclic = λ q d. formed.slots.acyclic (other q) (descends_was d);
        kin = λ q parent below above e f g.
            kin_same m next moves.objects below.object above.object
            (formed.slots.kin (other q) (other parent) below above (parent_was q parent e) (cap_was q below f)
            (cap_was parent above g));
      }

  one_now : OneCap next
  one_now a b first second e f same untyped =
      sym (twice a)
      ∙ ap other (formed.numbers.one_cap (other a) (other b) first second (cap_was a first e) (cap_was b second f) same untyped)
      ∙ twice b

  descent_now : KeepsDescent m next
  descent_now q above cap over memory e f is all =
      subst (λ s. Descends next s above) (twice q)
      (subst (λ s. Descends next (other (other q)) s) (twice above)
      (descends_now (all (other q) (other above) cap over (cap_was q cap e) refl (cap_was above over f) refl)))

  pub moves_formed : IsWellFormed next
  moves_formed =
      record {
        slots = slots_formed;
        parts = parts_same m next moves.objects formed.parts;
        links = links_same m next moves.objects formed.links;
        numbers =
            numbers_same m next moves.objects (λ q cap e. (other q, cap, cap_now q cap e, refl)) one_now descent_now formed.numbers;
        settled = moves.objects.going ∙ formed.settled;
      }

pub move_formed :
    (m : Machine) (caller : ObjId) (to from : SlotAddress) (next : Machine) → IsWellFormed m → MoveDone m caller to from next
    → IsWellFormed next
move_formed m caller to from next formed done =
    moves_formed m next done.source done.target done.held formed done.changes (led_slot m caller to done.target done.finds.leads_to)
    done.finds.vacant done.finds.filled
