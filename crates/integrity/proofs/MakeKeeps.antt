-- Making an object from untyped memory keeps what a part of a call keeps: the caller's label controls the memory's label, and so has
-- all kinds of authority over it, and it controls the CNode into which the capability comes.
use Rattle.std.{specs.Prelude.if◌then◌else◌, proofs.Common.{ℕ, ◌+◌, ◌<◌, ◌∙◌, ◌≡◌, ◌≢◌, ◌≤◌, Bool, None, Some, ap, arith, false, inl, inr}}
use Rattle.std.proofs.{Common.{option_map, refl, subst, sym, true}, lemmas.{Bool.false≢true, Nat.pow_pos, Option.{none-some, same_Some}}}
use Rattle.base.specs.{declared.{ids.{ObjId.ObjId, SlotRef.SlotRef}, kind.Kind.{Kind, Kind as authority}}, Kinds.is_structural}
use Rattle.machine.specs.declared.{call.Event.Event, cap.Cap.Cap, object.{MemoryKind.MemoryKind, Object.{Object, Object as o}}}
use Rattle.machine.specs.declared.{object.Untyped.Untyped, thread.{Inbox.Inbox as inbox, RunState.RunState as state, Tcb.Tcb}}
use Rattle.machine.specs.{Authority.{label_at, label_of, links}, Capabilities.{gives, kind_of_detail}, Layout.Layout, Machine.Machine}
use Rattle.machine.specs.Machine.{cap_of, object_of, parent_of, queue_of, same_slot, with_cap, with_new, with_object, with_parent, words_of}
use Rattle.machine.specs.Memory.{Source, new_cap, new_detail, new_object, new_size, placed, taken, with_made}
use Rattle.machine.{specs.{Objects.{end_of, kind_of_object}, WellFormed.kind_of}, proofs.Ids.{at_itself, at_other}}
use Rattle.machine.proofs.LookUps.{cap_of-with_cap, cap_of-with_parent, object_of-with_new, object_of-with_object, parent_of-with_cap}
use Rattle.machine.proofs.{LookUps.parent_of-with_parent, ObjectMade.marked, SlotChanges.{Fills, SameObjects}}
use Rattle.{steps.proofs.RetypeFormed.{new_address, new_kind}, policy.specs.{Change.WayToChange.modifies, Domain.{EdgeTest, IsInDomain}}}
use Rattle.integrity.specs.{Awake.IsAsleep, Invariant.{IsBare, IsHeld}, Keeping.IsSharp}
use Rattle.integrity.proofs.{Contents.changed, FillKeeps.{MayFill, fill_fits, given_of_use, in_node, slots_elsewhere}}
use Rattle.integrity.proofs.{Joined.{IsJoined, joined_set}, Keeps.{Keeps, keeps_keeps}, NewKeeps.{IsMakeable, new_keeps, new_label}}
use Rattle.integrity.proofs.{ObjectLabels.{kind_there, same_label}, Reach.{IsControlled, controlled_keeps, controlled_put}}
use Rattle.integrity.proofs.{SetKeeps.set_keeps, Shrinking.same_tcb, SlotKeeps.{SlotsFit, slots_keep}}
use Rattle.machine.specs.declared.object.MemoryKind.TheVariants as memory
use Rattle.machine.specs.declared.object.ObjectKind.TheVariants as kind

-- a new object links to nothing
new_alone : (of : MemoryKind) (bits at : ℕ) (k : Kind) (end : ObjId) → links (new_object of bits at) k end ≡ false
new_alone memory.Tcb bits at authority.Runs end = refl
new_alone memory.Tcb bits at _ end = refl
new_alone memory.Reply bits at authority.Holds end = refl
new_alone memory.Reply bits at _ end = refl
new_alone memory.Untyped bits at k end = refl
new_alone memory.CNode bits at k end = refl
new_alone memory.Endpoint bits at k end = refl
new_alone memory.Notification bits at k end = refl
new_alone memory.Context bits at k end = refl
new_alone memory.Frame bits at k end = refl

-- a new thread is inactive
new_sleeps : (of : MemoryKind) (bits at : ℕ) (thread : Tcb) → new_object of bits at ≡ o.Tcb thread → IsAsleep thread
new_sleeps memory.Tcb bits at thread is =
    let new : Tcb = record { address = at; state = state.Inactive; inbox = inbox.Empty; context = None } in
    inl (sym (ap (λ (x : Tcb). x.state) (same_tcb new thread is)))
new_sleeps _ bits at thread is = cc

-- a new object takes memory
new_takes : (of : MemoryKind) (bits : ℕ) → 0 < new_size of bits
new_takes memory.Untyped bits = pow_pos bits
new_takes memory.CNode bits = pow_pos (bits + 5)
new_takes memory.Tcb bits = omega arith
new_takes memory.Endpoint bits = omega arith
new_takes memory.Notification bits = omega arith
new_takes memory.Reply bits = omega arith
new_takes memory.Context bits = omega arith
new_takes memory.Frame bits = omega arith

-- no control is made
no_control : (of : MemoryKind) → gives (new_detail of) authority.SchedControl ≡ false
no_control memory.Untyped = refl
no_control memory.CNode = refl
no_control memory.Tcb = refl
no_control memory.Endpoint = refl
no_control memory.Notification = refl
no_control memory.Reply = refl
no_control memory.Context = refl
no_control memory.Frame = refl

-- made untyped memory begins where it is placed
untyped_at :
    (of : MemoryKind) (bits at : ℕ) (memory : Untyped) → new_object of bits at ≡ o.Untyped memory
    → (memory.base ≡ at) × (end_of (o.Untyped memory) ≡ at + new_size of bits)
untyped_at memory.Untyped bits at found is =
    let same : (record { base = at; bits = bits; watermark = at }) ≡ found = cc in
    (sym (ap (λ (u : Untyped). u.base) same), sym (ap (λ (u : Untyped). end_of (o.Untyped u)) same))
untyped_at _ bits at found is = cc

-- an object may be made in a step of a label's thread: its label controls the untyped memory and the CNode, and the memory's capability
-- is held within its domain
pub record MayMake
    (t : Layout) (allowed : EdgeTest) (a : ℕ) (m : Machine) (source : Source) (of : MemoryKind) (bits : ℕ) (slot : SlotRef) : Type 0 where
  pub was : ℕ
  pub there : object_of m source.id ≡ Some (o.Untyped (marked source.memory was))
  pub label : ℕ
  pub labelled : label_of t m source.id ≡ Some label
  pub controls : allowed a authority.Control label ≡ true
  pub low : source.memory.base ≤ placed (new_size of bits) source.memory
  pub high : placed (new_size of bits) source.memory + new_size of bits ≤ end_of (o.Untyped source.memory)
  pub node : IsControlled t allowed m a slot.holder
  pub above : ℕ
  pub is_node : kind_of m source.slot.holder ≡ Some kind.CNode
  pub above_labelled : label_of t m source.slot.holder ≡ Some above
  pub domain : IsInDomain allowed a above

module _
    (t : Layout) (allowed : EdgeTest) (began : Machine) (event : Event) (a : ℕ) (m : Machine) (held : IsHeld t allowed m)
    (joined : IsJoined m) (closed : IsSharp t allowed) (source : Source) (of : MemoryKind) (bits : ℕ) (slot : SlotRef)
    (may : MayMake t allowed a m source of bits slot) where
  abbrev at : ℕ
  at = placed (new_size of bits) source.memory

  abbrev old : Object
  old = o.Untyped (marked source.memory may.was)

  abbrev mark : Object
  mark = o.Untyped (taken (new_size of bits) source.memory)

  abbrev object : Object
  object = new_object of bits at

  -- the machine with another watermark, then with the object, then with its capability
  abbrev m1 : Machine
  m1 = with_object m source.id mark

  abbrev m2 : Machine
  m2 = with_new m1 object

  abbrev id : ObjId
  id = record { 0 = m.next }

  abbrev m3 : Machine
  m3 = with_parent (with_cap m2 slot (new_cap m.next of)) slot source.slot

  number : m1.next ≡ m.next
  unfolding with_object
  number = refl

  marks : Keeps t allowed began event a m m1
  marks =
      set_keeps t allowed began event a m source.id held old mark
      (record {
        was = may.there;
        kind = refl;
        address = refl;
        end = refl;
        links = λ end k e. cc;
        lent = λ context thread e lends. cc;
        borrows = λ lent lends. cc;
        idles = λ thread receiving e waits none label labelled. cc;
        sleeps = λ awake others thread e. cc;
        serves = λ awake served reply e. cc;
        share = λ before after e. cc;
      })
      (changed t allowed began a m m1 source.id may.label may.labelled (λ awake. modifies authority.Control refl may.controls))

  -- the range has the memory's label
  lies : (address : ℕ) → at ≤ address → address < at + new_size of bits → label_at t address ≡ Some may.label
  lies address from below =
      let low = may.low in
      let high = may.high in
      held.of_table.ranged source.id (marked source.memory may.was) may.label address may.there may.labelled (omega (arith, low, from))
      (omega (arith, high, below))

  makeable : IsMakeable t allowed began a object
  makeable = record {
    label = may.label;
    lies = ap (label_at t) (new_address of bits at) ∙ lies at (omega arith) (let takes = new_takes of bits in omega (arith, takes));
    changes = λ awake. modifies authority.Control refl may.controls;
    ranged = λ memory address is from below.
        let range = untyped_at of bits at memory is in
        let base = range.0 in
        let end = range.1 in
        lies address (omega (arith, base, from)) (omega (arith, end, below));
    alone = new_alone of bits at;
    sleeps = new_sleeps of bits at;
  }

  joined1 : IsJoined m1
  joined1 = joined_set m source.id old mark may.there (λ k end. refl) joined

  makes : Keeps t allowed began event a m1 m2
  makes = new_keeps t allowed began event a m1 marks.held joined1 object makeable

  made : Keeps t allowed began event a m m2
  made = keeps_keeps t allowed began event a m m1 m2 held marks makes

  -- a CNode that was there is as it was
  node_same : (q : ObjId) → kind_of m q ≡ Some kind.CNode → object_of m2 q ≡ object_of m q
  node_same q is = object_of-with_new m1 object q ∙ at_other q (record { 0 = m1.next }) (Some object) (object_of m1 q) other ∙ object_of-with_object m source.id mark q ∙ at_other q source.id (Some mark) (object_of m q) apart where
    apart : q ≢ source.id
    apart same =
        let two : Some kind.CNode ≡ Some kind.Untyped = sym is ∙ ap (kind_of m) same ∙ ap (option_map kind_of_object) may.there in
        cc

    other : q ≢ record { 0 = m1.next }
    other same =
        let there = kind_there m q kind.CNode is in
        let below = held.numbered q there.0 there.1 in
        let at : q.0 ≡ m1.next = ap (λ (i : ObjId). i.0) same in
        let next = number in
        omega (arith, below, at, next)

  node_label : (q : ObjId) → kind_of m q ≡ Some kind.CNode → label_of t m2 q ≡ label_of t m q
  node_label q is = same_label t m m2 q (node_same q is)

  here : object_of m2 id ≡ Some object
  unfolding with_object
  here = object_of-with_new m1 object id ∙ at_itself id (Some object) (object_of m1 id)

  here_label : label_of t m2 id ≡ Some may.label
  unfolding with_object makeable
  here_label = new_label t allowed began event a m1 marks.held joined1 object makeable

  -- the CNode's label has each kind that the capability gives
  edges : (k : Kind) → gives (new_detail of) k ≡ true → allowed may.node.label k may.label ≡ true
  edges k given =
      closed.uses_fall a may.node.label k may.label (controlled_put t allowed m a slot.holder may.node) of_use
      (closed.keepers_have_all a k may.label may.node.keeper
      (record { controls = may.controls; given = inr (of_use, not_control) }))
    where
      of_use : is_structural k ≡ false
      of_use = given_of_use (new_detail of) k given

      not_control : k ≢ authority.SchedControl
      not_control is = false≢true (sym (no_control of) ∙ ap (gives (new_detail of)) (sym is) ∙ given)

  cap_now : (q : SlotRef) → cap_of m3 q ≡ (if same_slot q slot then Some (new_cap m.next of) else cap_of m2 q)
  cap_now q = cap_of-with_parent (with_cap m2 slot (new_cap m.next of)) slot source.slot q ∙ cap_of-with_cap m2 slot (new_cap m.next of) q

  parent_now : (q : SlotRef) → parent_of m3 q ≡ (if same_slot q slot then Some source.slot else parent_of m2 q)
  parent_now q =
      parent_of-with_parent (with_cap m2 slot (new_cap m.next of)) slot source.slot q
      ∙ ap (λ found. if same_slot q slot then Some source.slot else found) (parent_of-with_cap m2 slot (new_cap m.next of) q)

  same_objects : SameObjects m2 m3
  unfolding object_of queue_of words_of with_cap with_parent
  same_objects = record { objects = λ q. refl; queues = λ q. refl; words = λ q. refl; number = refl; going = refl }

  node_still : kind_of m2 slot.holder ≡ Some kind.CNode
  node_still = ap (option_map kind_of_object) (node_same slot.holder may.node.is_node) ∙ may.node.is_node

  may_fill : MayFill t allowed began a m2 slot (new_cap m.next of) (Some source.slot)
  may_fill = record {
    label = may.node.label;
    labelled = node_label slot.holder may.node.is_node ∙ may.node.labelled;
    has = λ awake. modifies authority.Control refl may.node.controls;
    edges =
        in_node t allowed m2 slot (new_cap m.next of) may.node.label node_still
        (node_label slot.holder may.node.is_node ∙ may.node.labelled)
        (λ k end given ends.
        ap (allowed may.node.label k) (same_Some end may.label (sym ends ∙ here_label)) ∙ edges k given)
        (controlled_keeps t allowed m a slot.holder may.node);
    derives = λ above start is begins.
        let start_is : start ≡ may.above =
        same_Some start may.above
        (sym begins ∙ ap (λ (s : SlotRef). label_of t m2 s.holder) (sym (same_Some source.slot above is))
        ∙ node_label source.slot.holder may.is_node ∙ may.above_labelled) in
        ap (λ l. allowed l authority.Derive may.node.label) start_is
        ∙ closed.keepers_derive a may.above may.node.label may.domain (controlled_put t allowed m a slot.holder may.node);
  }

  fills : Fills m2 slot (new_cap m.next of) (Some source.slot) m3
  fills = record { objects = same_objects; caps = cap_now; parents = parent_now }

  kinds : (q : SlotRef) (cap : Cap) → cap_of m3 q ≡ Some cap → kind_of m3 cap.object ≡ Some (kind_of_detail cap.detail)
  kinds q cap e = ap (option_map kind_of_object) (same_objects.objects cap.object) ∙ by_tie (same_slot q slot) (sym (cap_now q) ∙ e) where
    by_tie :
        (tie : Bool) → (if tie then Some (new_cap m.next of) else cap_of m2 q) ≡ Some cap
        → kind_of m2 cap.object ≡ Some (kind_of_detail cap.detail)
    by_tie false same = made.held.kinds q cap same
    by_tie true same =
        subst (λ (c : Cap). kind_of m2 c.object ≡ Some (kind_of_detail c.detail)) (same_Some (new_cap m.next of) cap same)
        (ap (option_map kind_of_object) here ∙ ap (λ k. Some k) (new_kind of bits at))

  bare : (q : ObjId) → object_of m3 q ≡ None → IsBare m3 q
  bare q gone =
      let before = made.held.bare q (sym (same_objects.objects q) ∙ gone) in
      let apart : q ≢ slot.holder = λ same.
      let node = kind_there m2 slot.holder kind.CNode node_still in
      none-some node.0 (sym gone ∙ same_objects.objects q ∙ ap (object_of m2) same ∙ node.1) in
      record {
        queue = same_objects.queues q ∙ before.queue;
        words = same_objects.words q ∙ before.words;
        slots = λ index.
            slots_elsewhere t allowed began a m2 m3 made.held slot (new_cap m.next of) (Some source.slot) may_fill fills q apart index
            ∙ before.slots index;
      }

  fit : SlotsFit t allowed began a m2 m3
  fit = fill_fits t allowed began a m2 m3 made.held slot (new_cap m.next of) (Some source.slot) may_fill fills kinds bare

  pub make_keeps : Keeps t allowed began event a m (with_made m source of bits slot)
  unfolding with_made
  make_keeps = keeps_keeps t allowed began event a m m2 m3 held made (slots_keep t allowed began event a m2 m3 made.held fit)
