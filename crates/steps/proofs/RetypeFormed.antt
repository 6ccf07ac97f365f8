-- That a retype makes its objects one after another, and keeps a machine well formed.
use Rattle.std.specs.{FinMap.{entries, get-entries, Entries.find}, List.list_any, Prelude.{None, Ok, Some, cond, if◌then◌else◌}}
use Rattle.std.proofs.Common.{[], ℕ, ◌+◌, ◌<◌, ◌^◌, ◌||◌, ◌∙◌, ◌∷◌, ◌≡◌, ◌≢◌, ◌≤◌, ◌⊎◌, Bool, List, ap, arith, false, inl, inr, refl, subst}
use Rattle.std.proofs.{Common.{suc, sym, true, zero}, Math.Nat.eq-or-lt_of_le, lemmas.Bool.or_right}
use Rattle.base.specs.declared.{ids.{ObjId.ObjId, SlotRef.SlotRef}, limits.TheConstants.ADDRESS_END}
use Rattle.machine.specs.declared.{call.Made.Made, cap.Cap.Cap, object.{CNode.CNode, MemoryKind.MemoryKind, Object.{Object, Object as o}}}
use Rattle.machine.specs.{declared.object.Untyped.Untyped, Capabilities.kind_of_detail, Machine.{Machine, cap_of, object_of, parent_of}}
use Rattle.machine.specs.{Machine.{same_slot, slot_cmp}, Memory.{Source, all_taken, begun, has_child, new_cap, new_detail, new_object}}
use Rattle.machine.specs.{Memory.{new_size, placed, taken, with_all_made, with_made}, Objects.{address_of, end_of, kind_of_object}}
use Rattle.machine.specs.{Step.{Retype.{all_vacant, retype_of, window}, Target.vacant}, WellFormed.{Descends, IsRanged, IsWellFormed}}
use Rattle.machine.{specs.WellFormed.{Meets, Descends.{child, further}}, proofs.{Exchange.slot_itself, Likeness.{IsLike, IsUnlinked}}}
use Rattle.machine.proofs.{LookUps.one_slot, ObjectMade.{MakesObject, following, made_makes, marked}}
use Rattle.machine.specs.declared.object.MemoryKind.TheVariants as kind
use Rattle.steps.proofs.{Conditions.both_done, FilledSlots.cap_stays, LedSlots.node_at, MadeFormed.{CanMake, before, fills, linked_stays}}
use Rattle.steps.proofs.{MadeFormed.{made_formed, memory_there}, RetypeRow.{IsSized, RetypeDone, retype_done}, SlotRows.is_vacant}

-- objects of one kind are made one after another, a slot for each
pub data MakesAll (of : MemoryKind) (bits : ℕ) : Machine → Source → List SlotRef → Machine → Type 0 where
  none : {m : Machine} {source : Source} → MakesAll of bits m source [] m
  first :
      {m between next : Machine} {source : Source} {slot : SlotRef} {slots : List SlotRef}
      → CanMake m source (taken (new_size of bits) source.memory).watermark
      (new_object of bits (placed (new_size of bits) source.memory)) (new_detail of) slot
      → MakesObject m source (taken (new_size of bits) source.memory).watermark
      (new_object of bits (placed (new_size of bits) source.memory)) (new_detail of) slot between
      → MakesAll of bits between (record source { memory = taken (new_size of bits) source.memory }) slots next
      → MakesAll of bits m source (slot ∷ slots) next

pub all_formed :
    {of : MemoryKind} {bits : ℕ} {m next : Machine} {source : Source} {slots : List SlotRef} → IsWellFormed m
    → MakesAll of bits m source slots next → IsWellFormed next
all_formed formed none = formed
all_formed {of = of} {bits = bits} {source = source} formed (first {m = m} {between = between} {slot = slot} can makes rest) =
    all_formed
    (made_formed m between source (taken (new_size of bits) source.memory).watermark
    (new_object of bits (placed (new_size of bits) source.memory)) (new_detail of) slot makes can formed) rest

pub new_address : (of : MemoryKind) (bits at : ℕ) → address_of (new_object of bits at) ≡ at
new_address kind.Untyped bits at = refl
new_address kind.CNode bits at = refl
new_address kind.Tcb bits at = refl
new_address kind.Endpoint bits at = refl
new_address kind.Notification bits at = refl
new_address kind.Reply bits at = refl
new_address kind.Context bits at = refl
new_address kind.Frame bits at = refl

pub new_end : (of : MemoryKind) (bits at : ℕ) → end_of (new_object of bits at) ≡ at + new_size of bits
new_end kind.Untyped bits at = refl
new_end kind.CNode bits at = refl
new_end kind.Tcb bits at = refl
new_end kind.Endpoint bits at = refl
new_end kind.Notification bits at = refl
new_end kind.Reply bits at = refl
new_end kind.Context bits at = refl
new_end kind.Frame bits at = refl

new_unlinked : (of : MemoryKind) (bits at : ℕ) → IsUnlinked (new_object of bits at)
new_unlinked kind.Untyped bits at = refl
new_unlinked kind.CNode bits at = tt
new_unlinked kind.Tcb bits at = (refl, refl)
new_unlinked kind.Endpoint bits at = tt
new_unlinked kind.Notification bits at = tt
new_unlinked kind.Reply bits at = refl
new_unlinked kind.Context bits at = refl
new_unlinked kind.Frame bits at = tt

pub new_kind : (of : MemoryKind) (bits at : ℕ) → kind_of_object (new_object of bits at) ≡ kind_of_detail (new_detail of)
new_kind kind.Untyped bits at = refl
new_kind kind.CNode bits at = refl
new_kind kind.Tcb bits at = refl
new_kind kind.Endpoint bits at = refl
new_kind kind.Notification bits at = refl
new_kind kind.Reply bits at = refl
new_kind kind.Context bits at = refl
new_kind kind.Frame bits at = refl

new_ranged :
    (of : MemoryKind) (bits at : ℕ) → IsSized of bits → end_of (new_object of bits at) ≤ ADDRESS_END
    → IsRanged (new_object of bits at)
new_ranged kind.Untyped bits at size ends = (size.0, size.1, ends)
new_ranged kind.CNode bits at size ends = ends
new_ranged kind.Tcb bits at size ends = ends
new_ranged kind.Endpoint bits at size ends = ends
new_ranged kind.Notification bits at size ends = ends
new_ranged kind.Reply bits at size ends = ends
new_ranged kind.Context bits at size ends = ends
new_ranged kind.Frame bits at size ends = ends

-- a watermark never falls when memory is taken
mark_rises : (count size : ℕ) (memory : Untyped) → memory.watermark ≤ (all_taken count size memory).watermark
mark_rises zero size memory = omega arith
mark_rises (suc count) size memory =
    let later : (taken size memory).watermark ≤ (all_taken count size (taken size memory)).watermark =
    mark_rises count size (taken size memory) in
    omega (arith, later)

-- objects can be made: the memory exists with a capability, holds nothing past its watermark and has room; and the slots are empty ones of
-- a CNode
record CanMakeAll (m : Machine) (source : Source) (size : ℕ) (node : ObjId) (offset count : ℕ) : Type 0 where
  was : ℕ
  there : object_of m source.id ≡ Some (o.Untyped (marked source.memory was))
  held : Cap
  holds : cap_of m source.slot ≡ Some held
  held_object : held.object ≡ source.id
  free :
      (q : ObjId) (other : Object) → object_of m q ≡ Some other → source.id.0 < q.0 → Meets (o.Untyped source.memory) other
      → end_of other ≤ source.memory.watermark
  low : source.memory.base ≤ source.memory.watermark
  room : (all_taken count size source.memory).watermark ≤ end_of (o.Untyped source.memory)
  holder : (slots : CNode) × (object_of m node ≡ Some (o.CNode slots)) × (offset + count ≤ 2 ^ slots.radix)
  vacant : (index : ℕ) → offset ≤ index → index < offset + count → cap_of m (record { holder = node; index = index }) ≡ None

module _ (of : MemoryKind) (bits : ℕ) (sized : IsSized of bits) (node : ObjId) where
  abbrev size : ℕ
  size = new_size of bits

  abbrev slot_at : ℕ → SlotRef
  slot_at index = record { holder = node; index = index }

  abbrev object_from : Source → Object
  object_from source = new_object of bits (placed size source.memory)

  abbrev mark_from : Source → ℕ
  mark_from source = (taken size source.memory).watermark

  can_first :
      (m : Machine) (source : Source) (offset count : ℕ) → IsWellFormed m → CanMakeAll m source size node offset (suc count)
      → CanMake m source (mark_from source) (object_from source) (new_detail of) (slot_at offset)
  can_first m source offset count formed can =
      let address : address_of (object_from source) ≡ placed size source.memory = new_address of bits (placed size source.memory) in
      let end : end_of (object_from source) ≡ mark_from source = new_end of bits (placed size source.memory) in
      let rises : source.memory.watermark ≤ placed size source.memory = omega arith in
      let later : mark_from source ≤ (all_taken count size (taken size source.memory)).watermark =
      mark_rises count size (taken size source.memory) in
      let room : mark_from source ≤ end_of (o.Untyped source.memory) = omega (arith, later, can.room) in
      let ranged = formed.numbers.ranged source.id (o.Untyped (marked source.memory can.was)) can.there in
      let below : end_of (o.Untyped source.memory) ≤ ADDRESS_END = ranged.2 in
      let ends : end_of (object_from source) ≤ ADDRESS_END = omega (arith, end, room, below) in
      record {
        was = can.was;
        there = can.there;
        held = can.held;
        holds = can.holds;
        held_object = can.held_object;
        free = λ q other e later meets.
            let apart : end_of other ≤ source.memory.watermark = can.free q other e later meets in
            omega (arith, apart, rises, address);
        low = omega (arith, can.low, rises, address);
        high = omega (arith, end);
        within = room;
        unlinked = new_unlinked of bits (placed size source.memory);
        ranged = new_ranged of bits (placed size source.memory) sized ends;
        kinds = new_kind of bits (placed size source.memory);
        vacant = can.vacant offset (omega arith) (omega arith);
        node = (can.holder.0, can.holder.1, omega (arith, can.holder.2));
      }

  abbrev rest_from : Source → Source
  rest_from source = record source { memory = taken size source.memory }

  can_rest :
      (m next : Machine) (source : Source) (offset count : ℕ) → IsWellFormed m
      → CanMakeAll m source size node offset (suc count)
      → MakesObject m source (mark_from source) (object_from source) (new_detail of) (slot_at offset) next
      → CanMakeAll next (rest_from source) size node (offset + 1) count
  can_rest m next source offset count formed can makes =
      record {
        was = mark_from source;
        there = memory_there m next source (mark_from source) (object_from source) (new_detail of) (slot_at offset) makes one formed;
        held = can.held;
        holds =
            cap_stays
            (fills m next source (mark_from source) (object_from source) (new_detail of) (slot_at offset) makes one formed)
            source.slot can.held can.holds;
        held_object = can.held_object;
        free = λ q other e later meets. free_now q other later meets
            (before m next source (mark_from source) (object_from source) (new_detail of) (slot_at offset) makes one formed q other e);
        low = omega (arith, can.low);
        room = can.room;
        holder = (
          can.holder.0,
          linked_stays m next source (mark_from source) (object_from source) (new_detail of) (slot_at offset) makes one formed node
              (o.CNode can.holder.0) (λ u same. cc) can.holder.1,
          omega (arith, can.holder.2),
        );
        vacant = λ index low high. makes.caps (slot_at index) ∙ by_tie index low high (same_slot (slot_at index) (slot_at offset)) refl;
      }
    where
      one : CanMake m source (mark_from source) (object_from source) (new_detail of) (slot_at offset)
      one = can_first m source offset count formed can

      free_now :
          (q : ObjId) (other : Object) → source.id.0 < q.0 → Meets (o.Untyped source.memory) other
          → ((q ≡ following m) × (other ≡ object_from source))
          ⊎ ((old : Object) × (object_of m q ≡ Some old) × IsLike other old) → end_of other ≤ mark_from source
      free_now q other later meets (inl is) =
          let end : end_of (object_from source) ≡ mark_from source = new_end of bits (placed size source.memory) in
          let same : end_of other ≡ end_of (object_from source) = ap (λ (x : Object). end_of x) is.1 in
          omega (arith, end, same)
      free_now q other later meets (inr was) =
          let address : address_of other ≡ address_of was.0 = was.2.address in
          let end : end_of other ≡ end_of was.0 = was.2.end in
          let apart : end_of was.0 ≤ source.memory.watermark =
          can.free q was.0 was.1 later (omega (arith, end, meets.0), omega (arith, address, meets.1)) in
          omega (arith, apart, end)

      by_tie :
          (index : ℕ) → offset + 1 ≤ index → index < offset + 1 + count → (tie : Bool)
          → same_slot (slot_at index) (slot_at offset) ≡ tie
          → (if tie then Some (new_cap m.next of) else cap_of m (slot_at index)) ≡ None
      by_tie index low high true is =
          let same : index ≡ offset = ap (λ (s : SlotRef). s.index) (one_slot (slot_at index) (slot_at offset) is) in
          absurd (omega (arith, low, same))
      by_tie index low high false is = can.vacant index (omega (arith, low)) (omega (arith, high))

  all_make :
      (m : Machine) (source : Source) (offset count : ℕ) → IsWellFormed m → CanMakeAll m source size node offset count
      → MakesAll of bits m source (window node offset count) (with_all_made m source of bits (window node offset count))
  all_make m source offset zero formed can = none
  all_make m source offset (suc count) formed can =
      let next : Machine = with_made m source of bits (slot_at offset) in
      let makes : MakesObject m source (mark_from source) (object_from source) (new_detail of) (slot_at offset) next =
      made_makes m source of bits (slot_at offset) in
      let one = can_first m source offset count formed can in
      first one makes
      (all_make next (rest_from source) (offset + 1) count
      (made_formed m next source (mark_from source) (object_from source) (new_detail of) (slot_at offset) makes one formed)
      (can_rest m next source offset count formed can makes))

-- a slot without children is nobody's parent

is_parent :
    (q slot : SlotRef) (pairs : List (SlotRef × SlotRef)) → find slot_cmp q pairs ≡ Some slot
    → list_any (λ pair. same_slot pair.1 slot) pairs ≡ true
is_parent q slot [] e = cc
is_parent q slot (pair ∷ pairs) e = by_tie (same_slot q pair.0) e (is_parent q slot pairs) where
  by_tie :
      (tie : Bool) → cond tie (Some pair.1) (find slot_cmp q pairs) ≡ Some slot
      → (find slot_cmp q pairs ≡ Some slot → list_any (λ other. same_slot other.1 slot) pairs ≡ true)
      → (same_slot pair.1 slot || list_any (λ other. same_slot other.1 slot) pairs) ≡ true
  by_tie true same later =
      let is : pair.1 ≡ slot = cc in
      ap (λ b. b || list_any (λ (other : SlotRef × SlotRef). same_slot other.1 slot) pairs)
      (ap (λ (s : SlotRef). same_slot s slot) is ∙ slot_itself slot)
  by_tie false same later = or_right _ _ (later same)

pub childless : (m : Machine) (slot q : SlotRef) → has_child m slot ≡ false → parent_of m q ≢ Some slot
unfolding has_child parent_of
childless m slot q leaf e =
    let some : has_child m slot ≡ true = is_parent q slot (entries m.parents) (sym (get-entries m.parents q) ∙ e) in
    let two : false ≡ true = sym leaf ∙ some in
    cc

no_descent : (m : Machine) (slot : SlotRef) → has_child m slot ≡ false → {q : SlotRef} → ¬ (Descends m q slot)
no_descent m slot leaf (child {slot = q} e) = childless m slot q leaf e
no_descent m slot leaf (further e rest) = no_descent m slot leaf rest

-- the empty slots of a window, one by one
pub each_vacant :
    (m : Machine) (node : ObjId) (offset count : ℕ) (u : Unit {0}) → all_vacant m (window node offset count) ≡ Ok u
    → (index : ℕ) → offset ≤ index → index < offset + count → cap_of m (record { holder = node; index = index }) ≡ None
each_vacant m node offset zero u e index low high = absurd (omega (arith, low, high))
each_vacant m node offset (suc count) u e index low high =
    let here = both_done (vacant (cap_of m (record { holder = node; index = offset }))) _ u e in
    by_case (is_vacant (cap_of m (record { holder = node; index = offset })) here.0 here.1) (eq-or-lt_of_le low)
    (λ past. each_vacant m node (offset + 1) count u here.2 index past (omega (arith, high))) where
      by_case :
          cap_of m (record { holder = node; index = offset }) ≡ None → (offset ≡ index) ⊎ (offset < index)
          → (offset + 1 ≤ index → cap_of m (record { holder = node; index = index }) ≡ None)
          → cap_of m (record { holder = node; index = index }) ≡ None
      by_case empty (inl is) later = subst (λ i. cap_of m (record { holder = node; index = i }) ≡ None) is empty
      by_case empty (inr past) later = later (omega (arith, past))

module _ (m : Machine) (caller : ObjId) (untyped : ℕ) (of : MemoryKind) (bits to offset count : ℕ) (next : Machine)
    (formed : IsWellFormed m) (done : RetypeDone m caller untyped of bits to offset count next) where
  abbrev source : Source
  source = done.source

  meeting :
      (q : ObjId) (other : Object) → object_of m q ≡ Some other → source.id.0 < q.0 → Meets (o.Untyped source.memory) other
      → end_of other ≤ source.memory.watermark
  meeting q other e later meets =
      let w =
      formed.numbers.inside source.id q (o.Untyped source.memory) other later done.finds.there e meets in
      let same : source.memory ≡ w.0 = of_memory (w.3) in
      let below : end_of other ≤ w.0.watermark = w.7 in
      subst (λ (memory : Untyped). end_of other ≤ memory.watermark) (sym same) below where
        of_memory : {one two : Untyped} → ◌≡◌ {A = Object} (o.Untyped one) (o.Untyped two) → one ≡ two
        of_memory is = cc

  none_meets :
      has_child m source.slot ≡ false → (q : ObjId) (other : Object) → object_of m q ≡ Some other → source.id.0 < q.0
      → ¬ (Meets (o.Untyped source.memory) other)
  none_meets leaf q other e later meets =
      let w = formed.numbers.has_cap source.id q (o.Untyped source.memory) other later done.finds.there e meets in
      no_descent m source.slot leaf
      (formed.numbers.made_from source.id q (o.Untyped source.memory) other w.0 source.slot w.1 done.finds.held later
      done.finds.there e meets w.2 w.3 done.finds.finds.holds done.finds.object)

  marks : (source.memory.base ≤ source.memory.watermark) × (source.memory.watermark ≤ end_of (o.Untyped source.memory))
  marks = formed.numbers.watermark source.id source.memory done.finds.there

  slots_there : (slots : CNode) × (object_of m done.node.node ≡ Some (o.CNode slots)) × (offset + count ≤ 2 ^ slots.radix)
  slots_there =
      let w = node_at m done.takes.at done.node done.takes.shows in
      (w.0, w.1, subst (λ r. offset + count ≤ 2 ^ r) (sym w.2) done.in_node)

  can_make : CanMakeAll m (begun m source) (new_size of bits) done.node.node offset count
  can_make = by_child (has_child m source.slot) refl where
    by_child :
        (tie : Bool) → has_child m source.slot ≡ tie
        → CanMakeAll m (begun m source) (new_size of bits) done.node.node offset count
    by_child true is =
        let same : source ≡ begun m source = rw is refl in
        subst (λ (s : Source). CanMakeAll m s (new_size of bits) done.node.node offset count) same
        (record {
          was = source.memory.watermark;
          there = done.finds.there;
          held = done.finds.held;
          holds = done.finds.finds.holds;
          held_object = done.finds.object;
          free = meeting;
          low = marks.0;
          room =
              subst
              (λ (s : Source). (all_taken count (new_size of bits) s.memory).watermark ≤ end_of (o.Untyped s.memory))
              (sym same) done.room;
          holder = slots_there;
          vacant = each_vacant m done.node.node offset count tt done.vacant;
        })
    by_child false is =
        let same : ◌≡◌ {A = Source} (record source { memory = marked source.memory source.memory.base }) (begun m source) =
        rw is refl in
        subst (λ (s : Source). CanMakeAll m s (new_size of bits) done.node.node offset count) same
        (record {
          was = source.memory.watermark;
          there = done.finds.there;
          held = done.finds.held;
          holds = done.finds.finds.holds;
          held_object = done.finds.object;
          free = λ q other e later meets. absurd (none_meets is q other e later meets);
          low = omega arith;
          room =
              subst
              (λ (s : Source). (all_taken count (new_size of bits) s.memory).watermark ≤ end_of (o.Untyped s.memory))
              (sym same) done.room;
          holder = slots_there;
          vacant = each_vacant m done.node.node offset count tt done.vacant;
        })

  -- the objects that a made retype makes
  pub retype_makes : MakesAll of bits m (begun m source) (window done.node.node offset count) next
  retype_makes =
      subst (λ (n : Machine). MakesAll of bits m (begun m source) (window done.node.node offset count) n) (sym done.changes)
      (all_make of bits done.size done.node.node m (begun m source) offset count formed can_make)

  pub retype_formed : IsWellFormed next
  retype_formed = all_formed formed retype_makes

pub made_retype_formed :
    (m : Machine) (caller : ObjId) (untyped : ℕ) (of : MemoryKind) (bits to offset count : ℕ) (made : Made) (next : Machine)
    → IsWellFormed m → retype_of m caller untyped of bits to offset count ≡ Ok (made, next) → IsWellFormed next
made_retype_formed m caller untyped of bits to offset count made next formed e =
    retype_formed m caller untyped of bits to offset count next formed
    (retype_done m caller untyped of bits to offset count made next e)
