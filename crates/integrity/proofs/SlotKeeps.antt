-- A change of slots keeps what a part of a call keeps: the policy has each new capability and pair of the tree, and the caller may change
-- the objects whose slots change.
use Rattle.std.proofs.{Common.{ℕ, ◌∙◌, ◌≡◌, ◌⊎◌, None, Some, ap, arith, inl, inr, refl, sym, true}, lemmas.Option.{none-some, same_Some}}
use Rattle.base.specs.declared.{ids.{ObjId.ObjId, SlotRef.SlotRef}, kind.Kind.Kind}
use Rattle.machine.specs.declared.{call.Event.Event, cap.Cap.Cap, object.{Context.Context, Object.{Object, Object as o}}}
use Rattle.machine.specs.Authority.{HasAuthority.{by_cap, by_link, by_pair, by_root}, label_of}
use Rattle.machine.specs.{Capabilities.{gives, kind_of_detail}, Layout.Layout, Machine.{Machine, cap_of, object_of, parent_of}}
use Rattle.machine.{specs.{Objects.{address_of, kind_of_object}, Step.Reply.loan_in, WellFormed.kind_of}, proofs.SlotChanges.SameObjects}
use Rattle.{steps.proofs.SameObjects.kinds_same, policy.specs.{Change.WayToChange.modifies, Domain.EdgeTest}}
use Rattle.integrity.specs.{Awake.IsAwake, Confined.IsConfined, Invariant.{IsBare, IsHeld}, Keeping.{KeepersHoldNodes, MayKeep}}
use Rattle.integrity.{specs.OfTable.IsOfTable, proofs.{Asleep.sleeps_on, Borrowers.borrower_stays, Contents.changed}}
use Rattle.integrity.proofs.{Keeps.{Acts, Changes, Keeps}, ObjectLabels.same_label, Reach.IsControlled, Shrinking.same_context}
use Rattle.base.specs.declared.kind.Kind.TheVariants as authority
use Rattle.machine.specs.declared.object.ObjectKind.TheVariants as kind

-- a label may change an object's, in a step that began at some machine
pub record IsOpened (t : Layout) (allowed : EdgeTest) (began m : Machine) (a : ℕ) (id : ObjId) : Type 0 where
  pub label : ℕ
  pub labelled : label_of t m id ≡ Some label
  pub has : Changes t allowed began a label

-- a CNode that the label controls is such an object
pub opened :
    (t : Layout) (allowed : EdgeTest) (began m : Machine) (a : ℕ) (node : ObjId) → IsControlled t allowed m a node
    → IsOpened t allowed began m a node
opened t allowed began m a node c =
    record { label = c.label; labelled = c.labelled; has = λ awake. modifies authority.Control refl c.controls }

-- the policy has the edges of a capability in a slot: in a CNode all that it gives, if its label may keep any, and space in a thread's
-- root slot
abbrev pub IsAllowedIn : Layout → EdgeTest → Machine → SlotRef → Cap → Type 0
IsAllowedIn t allowed m slot cap =
    ((kind_of m slot.holder ≡ Some kind.CNode)
    × ((from : ℕ) (k : Kind) (to : ℕ) → gives cap.detail k ≡ true → label_of t m slot.holder ≡ Some from
    → label_of t m cap.object ≡ Some to → allowed from k to ≡ true)
    × ((from : ℕ) → label_of t m slot.holder ≡ Some from → MayKeep t allowed from))
    ⊎ ((kind_of m slot.holder ≡ Some kind.Tcb)
    × ((from to : ℕ) → label_of t m slot.holder ≡ Some from → label_of t m cap.object ≡ Some to
    → allowed from authority.Space to ≡ true))

-- the conditions on a change of slots
pub record SlotsFit (t : Layout) (allowed : EdgeTest) (began : Machine) (a : ℕ) (m next : Machine) : Type 0 where
  pub same : SameObjects m next
  -- a capability was there, or its edges are in the policy
  pub caps : (q : SlotRef) (cap : Cap) → cap_of next q ≡ Some cap → (cap_of m q ≡ Some cap) ⊎ IsAllowedIn t allowed m q cap
  -- each pair's edge is in the policy
  pub pairs :
      (q parent : SlotRef) (from to : ℕ) → parent_of next q ≡ Some parent → label_of t m parent.holder ≡ Some from
      → label_of t m q.holder ≡ Some to → allowed from authority.Derive to ≡ true
  -- an object's slots are as they were, or the caller's label may change it
  pub slots :
      (id : ObjId) → ((index : ℕ) → cap_of next (record { holder = id; index = index }) ≡ cap_of m (record { holder = id; index = index }))
      ⊎ IsOpened t allowed began m a id
  -- the object of a capability is of its kind, and an absent object has nothing
  pub kinds : (q : SlotRef) (cap : Cap) → cap_of next q ≡ Some cap → kind_of next cap.object ≡ Some (kind_of_detail cap.detail)
  pub bare : (id : ObjId) → object_of next id ≡ None → IsBare next id

module _
    (t : Layout) (allowed : EdgeTest) (began : Machine) (event : Event) (a : ℕ) (m next : Machine) (held : IsHeld t allowed m)
    (fit : SlotsFit t allowed began a m next) where
  was : (q : ObjId) (object : Object) → object_of next q ≡ Some object → object_of m q ≡ Some object
  was q object at = sym (fit.same.objects q) ∙ at

  labels : (q : ObjId) → label_of t next q ≡ label_of t m q
  labels q = same_label t m next q (fit.same.objects q)

  kinds : (q : ObjId) → kind_of next q ≡ kind_of m q
  kinds q = kinds_same m next fit.same q

  confined : IsConfined t allowed next
  confined from k to (by_cap q cap filled is_node given source target) = by_case (fit.caps q cap filled) where
    by_case : (cap_of m q ≡ Some cap) ⊎ IsAllowedIn t allowed m q cap → allowed from k to ≡ true
    by_case (inl before) =
        held.confined from k to
        (by_cap q cap before (sym (kinds q.holder) ∙ is_node) given (sym (labels q.holder) ∙ source) (sym (labels cap.object) ∙ target))
    by_case (inr (inl new)) = new.1 from k to given (sym (labels q.holder) ∙ source) (sym (labels cap.object) ∙ target)
    by_case (inr (inr new)) =
        let two : Some kind.Tcb ≡ Some kind.CNode = sym new.0 ∙ sym (kinds q.holder) ∙ is_node in
        cc
  confined from k to (by_root q cap filled is_thread source target) = by_case (fit.caps q cap filled) where
    by_case : (cap_of m q ≡ Some cap) ⊎ IsAllowedIn t allowed m q cap → allowed from authority.Space to ≡ true
    by_case (inl before) =
        held.confined from authority.Space to
        (by_root q cap before (sym (kinds q.holder) ∙ is_thread) (sym (labels q.holder) ∙ source) (sym (labels cap.object) ∙ target))
    by_case (inr (inl new)) =
        let two : Some kind.CNode ≡ Some kind.Tcb = sym new.0 ∙ sym (kinds q.holder) ∙ is_thread in
        cc
    by_case (inr (inr new)) = new.1 from to (sym (labels q.holder) ∙ source) (sym (labels cap.object) ∙ target)
  confined from k to (by_pair q parent derived source target) =
      fit.pairs q parent from to derived (sym (labels parent.holder) ∙ source) (sym (labels q.holder) ∙ target)
  confined from k to (by_link q end object at linked source target) =
      held.confined from k to (by_link q end object (was q object at) linked (sym (labels q) ∙ source) (sym (labels end) ∙ target))

  of_table : IsOfTable t next
  of_table = record {
    labelled = λ q object at.
        let label = held.of_table.labelled q object (was q object at) in (label.0, labels q ∙ label.1);
    initial = λ q object declared at. held.of_table.initial q object declared (was q object at);
    ranged = λ q memory label address at labelled.
        held.of_table.ranged q memory label address (was q (o.Untyped memory) at) (sym (labels q) ∙ labelled);
    inside = held.of_table.inside;
    lent = λ q context thread at lends.
        let number = fit.same.number in
        let below = held.of_table.lent q context thread (was q (o.Tcb thread) at) lends in
        omega (arith, number, below);
    counted = let number = fit.same.number in let before = held.of_table.counted in omega (arith, number, before);
  }

  nodes : KeepersHoldNodes t allowed next
  nodes q cap filled is_node for_node label labelled = by_case (fit.caps q cap filled) where
    by_case : (cap_of m q ≡ Some cap) ⊎ IsAllowedIn t allowed m q cap → MayKeep t allowed label
    by_case (inl before) =
        held.nodes q cap before (sym (kinds q.holder) ∙ is_node) for_node label (sym (labels q.holder) ∙ labelled)
    by_case (inr (inl new)) = new.2 label (sym (labels q.holder) ∙ labelled)
    by_case (inr (inr new)) =
        let two : Some kind.Tcb ≡ Some kind.CNode = sym new.0 ∙ sym (kinds q.holder) ∙ is_node in
        cc

  acts : (awake : IsAwake t allowed began a) (q : ObjId) → Acts t allowed awake.acts a m next q
  acts awake q = by_case (fit.slots q) where
    by_case :
        ((index : ℕ) → cap_of next (record { holder = q; index = index }) ≡ cap_of m (record { holder = q; index = index }))
        ⊎ IsOpened t allowed began m a q → Acts t allowed awake.acts a m next q
    by_case (inl slots) =
        inl (record { content = fit.same.objects q; queue = fit.same.queues q; words = fit.same.words q; slots = slots })
    by_case (inr mine) =
        inr (changed t allowed began a m next q mine.label mine.labelled mine.has awake)

  pub slots_keep : Keeps t allowed began event a m next
  slots_keep = record {
    held = record {
      of_table = of_table;
      confined = confined;
      nodes = nodes;
      idlers = λ q thread receiving at waits none label labelled.
          held.idlers q thread receiving (was q (o.Tcb thread) at) waits none label (sym (labels q) ∙ labelled);
      borrowers = λ q lent lends.
          let number = fit.same.number in
          borrower_stays t allowed m next lent (omega (arith, number)) (λ label labelled. sym (labels lent.borrower) ∙ labelled)
          (held.borrowers q lent (ap loan_in (sym (fit.same.objects q)) ∙ lends));
      kinds = fit.kinds;
      numbered = λ q object at.
          let below = held.numbered q object (was q object at) in
          let number = fit.same.number in
          omega (arith, below, number);
      bare = fit.bare;
    };
    acts = acts;
    stays = λ q before after there is.
        let one = same_Some after before (sym (was q after is) ∙ there) in
        (ap kind_of_object one, ap address_of one);
    born = λ q object absent is. absurd (none-some object (sym absent ∙ was q object is));
    grows = let number = fit.same.number in omega (arith, number);
    sleeps = λ awake others q thread at. sleeps_on t allowed m next q thread (labels q) (others q thread (was q (o.Tcb thread) at));
    serves = λ awake served q reply at thread is.
        let before = served q reply (was q (o.Reply reply) at) thread is in
        let below = before.0 in
        let number = fit.same.number in (
          omega (arith, below, number),
          λ holder caller at_holder at_caller. before.1 holder caller (sym (labels q) ∙ at_holder) (sym (labels thread) ∙ at_caller),
        );
    budgets = λ q before after there is.
        let one = same_Some (o.Context after) (o.Context before) (sym (was q (o.Context after) is) ∙ there) in
        inl (ap (λ (c : Context). c.share) (same_context after before one));
  }
