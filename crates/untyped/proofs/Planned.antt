-- That a retype that met its conditions can be made.
use Rattle.std.{specs.Prelude.{Err, IsSome, None, Ok, Option, Some, nat_le}, proofs.Common.{ℕ, ◌*◌, ◌+◌, ◌<◌, ◌^◌, ◌∙◌, ◌≡◌, ◌≤◌, Bool, ap}}
use Rattle.std.proofs.Common.{arith, false, leb-true, refl, subst, sym, true}
use Rattle.base.specs.declared.{ids.{ObjId.ObjId, SlotRef.SlotRef}, limits.TheConstants.{ADDRESS_END, MAX_MADE, MAX_PRESENT, MAX_RADIX}}
use Rattle.base.specs.declared.{limits.TheConstants.{MAX_SLOTS, MAX_THREADS, OBJECT_NUMBERS}, refusal.Cause.TheVariants.RangeError}
use Rattle.base.specs.declared.refusal.Cause.TheVariants.{TooMany}
use Rattle.machine.specs.{declared.{cap.Cap.Cap, object.Object.{Object, Object as o}}, Counts.{objects_in, slots_in, threads_in}}
use Rattle.machine.specs.{Lookup.Level, Machine.{Machine, cap_of, object_of}, Memory.{Source, begun, has_child, new_object}, Objects.end_of}
use Rattle.machine.specs.{Objects.{slot_count, thread_count}, Step.Retype.{a_few, all_vacant, find_taker, find_untyped, in_node, sized}}
use Rattle.machine.specs.{Step.Retype.{window, within_limits}, Tree.IsAlone, WellFormed.IsWellFormed}
use Rattle.steps.proofs.{LedSlots.{IsNode, node_at, node_slot}, RetypeFormed.each_vacant, RetypeRow.{FindsUntyped, is_in_node, taker_found}}
use Rattle.steps.proofs.{RetypeRow.untyped_found, SlotRows.empty_alone}
use Rattle.untyped.specs.{declared.making.Making.Making, Making.CanBeMade, Shown.source_shown}

-- the memory where the making begins: it exists, but for its watermark, and is within an object's range
pub record IsBegun (found source : Source) : Type 0 where
  pub slot : source.slot ≡ found.slot
  pub id : source.id ≡ found.id
  pub memory : record source.memory { watermark = found.memory.watermark } ≡ found.memory
  pub bits : source.memory.bits ≤ 47
  pub ends : end_of (o.Untyped source.memory) ≤ ADDRESS_END
  pub mark : source.memory.watermark ≤ ADDRESS_END

pub begins :
    (m : Machine) (caller : ObjId) (address : ℕ) (found : Source) → IsWellFormed m → find_untyped m caller address ≡ Ok found
    → IsBegun found (begun m found)
begins m caller address found formed e = by_child (has_child m found.slot) refl where
  there : object_of m found.id ≡ Some (o.Untyped found.memory)
  there = (untyped_found m caller address found e).there

  by_child : (tie : Bool) → has_child m found.slot ≡ tie → IsBegun found (begun m found)
  by_child tie is =
      let ranged = formed.numbers.ranged found.id (o.Untyped found.memory) there in
      let bits = ranged.1 in
      let ends = ranged.2 in
      let marks = formed.numbers.watermark found.id found.memory there in
      let low = marks.0 in
      let high = marks.1 in
      by_tie tie is bits ends (omega (arith, high, ends)) (omega (arith, low, high, ends))
    where
      by_tie :
          (tie : Bool) → has_child m found.slot ≡ tie → found.memory.bits ≤ 47 → end_of (o.Untyped found.memory) ≤ ADDRESS_END
          → found.memory.watermark ≤ ADDRESS_END → found.memory.base ≤ ADDRESS_END → IsBegun found (begun m found)
      by_tie true is bits ends mark base =
          let same : found ≡ begun m found = rw is refl in
          subst (λ (s : Source). IsBegun found s) same
          (record { slot = refl; id = refl; memory = refl; bits = bits; ends = ends; mark = mark })
      by_tie false is bits ends mark base =
          let same : ◌≡◌ {A = Source} (record found { memory = record found.memory { watermark = found.memory.base } }) (begun m found) =
          rw is refl in
          subst (λ (s : Source). IsBegun found s) same
          (record { slot = refl; id = refl; memory = refl; bits = bits; ends = ends; mark = base })

is_few : (count : ℕ) → a_few count ≡ Ok tt → (0 < count) × (count ≤ MAX_MADE)
is_few count e = by_ties (nat_le 1 count) (nat_le count MAX_MADE) refl refl where
  by_ties : (low high : Bool) → nat_le 1 count ≡ low → nat_le count MAX_MADE ≡ high → (0 < count) × (count ≤ MAX_MADE)
  by_ties false high is at = let none : a_few count ≡ Err RangeError = rw is refl in cc
  by_ties true false is at = let none : a_few count ≡ Err RangeError = rw (is, at) refl in cc
  by_ties true true is at = (leb-true 1 count is, leb-true count MAX_MADE at)

numbers_left :
    (m : Machine) (object : Object) (count : ℕ) → within_limits m object count ≡ Ok tt → m.next + count ≤ OBJECT_NUMBERS
numbers_left m object count e =
    by_ties (nat_le (objects_in m + count) MAX_PRESENT) (nat_le (slots_in m + count * slot_count object) MAX_SLOTS)
    (nat_le (threads_in m + count * thread_count object) MAX_THREADS) (nat_le (m.next + count) OBJECT_NUMBERS) refl refl refl refl
  where
    by_ties :
        (a b c d : Bool) → nat_le (objects_in m + count) MAX_PRESENT ≡ a
        → nat_le (slots_in m + count * slot_count object) MAX_SLOTS ≡ b
        → nat_le (threads_in m + count * thread_count object) MAX_THREADS ≡ c
        → nat_le (m.next + count) OBJECT_NUMBERS ≡ d → m.next + count ≤ OBJECT_NUMBERS
    by_ties a b c true at_a at_b at_c at_d = leb-true (m.next + count) OBJECT_NUMBERS at_d
    by_ties false b c false at_a at_b at_c at_d = let none : within_limits m object count ≡ Err TooMany = rw at_a refl in cc
    by_ties true false c false at_a at_b at_c at_d =
        let none : within_limits m object count ≡ Err TooMany = rw (at_a, at_b) refl in cc
    by_ties true true false false at_a at_b at_c at_d =
        let none : within_limits m object count ≡ Err TooMany = rw (at_a, at_b, at_c) refl in cc
    by_ties true true true false at_a at_b at_c at_d =
        let none : within_limits m object count ≡ Err TooMany = rw (at_a, at_b, at_c, at_d) refl in cc

-- an empty slot is in no pair of the tree
vacant_alone : (m : Machine) (slot : SlotRef) → IsWellFormed m → cap_of m slot ≡ None → IsAlone m slot
vacant_alone m slot formed empty =
    record {
      root = empty_alone m slot formed empty;
      leaf = λ child is.
          let full = formed.slots.parent_filled child slot is in
          let none : None ≡ Some full.0 = sym empty ∙ full.1 in cc;
    }

pub can_be_made :
    (m : Machine) (caller : ObjId) (untyped to : ℕ) (found : Source) (level : Level) (making : Making) → IsWellFormed m
    → find_untyped m caller untyped ≡ Ok found → sized making.kind making.bits ≡ Ok tt → a_few making.window.count ≡ Ok tt
    → find_taker m caller to ≡ Ok level → level.node ≡ making.window.node
    → in_node level.radix making.window.offset making.window.count ≡ Ok tt
    → making.window.offset + making.window.count ≤ 2 ^ MAX_RADIX
    → all_vacant m (window making.window.node making.window.offset making.window.count) ≡ Ok tt
    → source_shown making.source ≡ begun m found
    → within_limits m (new_object making.kind making.bits 0) making.window.count ≡ Ok tt → CanBeMade m making
can_be_made m caller untyped to found level making formed finds size few takes node fits ends vacant begun_is limits =
    record {
      sized = size;
      some = (is_few making.window.count few).0;
      few = (is_few making.window.count few).1;
      numbers = numbers_left m (new_object making.kind making.bits 0) making.window.count limits;
      was = found.memory.watermark;
      there = there;
      below = formed.numbers.below_next making.source.id _ there;
      mark = begun_here.mark;
      held = subst (λ (c : Option Cap). IsSome c) (sym (ap (cap_of m) begun_here.slot ∙ source.finds.holds)) refl;
      node = formed.numbers.below_next making.window.node (o.CNode slots.0) slots_there;
      ends = omega (arith, ends);
      free = λ index low high. (
        node_slot m (record { holder = making.window.node; index = index })
            (slots.0, slots_there, omega (arith, high, slots_hold)),
        each_vacant m making.window.node making.window.offset making.window.count tt vacant index low high,
        vacant_alone m (record { holder = making.window.node; index = index }) formed
            (each_vacant m making.window.node making.window.offset making.window.count tt vacant index low high),
      );
    }
  where
    source : FindsUntyped m caller untyped found
    source = untyped_found m caller untyped found finds

    begun_here : IsBegun found (source_shown making.source)
    begun_here = subst (λ (s : Source). IsBegun found s) (sym begun_is) (begins m caller untyped found formed finds)

    there : object_of m making.source.id ≡ Some (o.Untyped (record making.source.memory { watermark = found.memory.watermark }))
    there = ap (object_of m) begun_here.id ∙ source.there ∙ ap (λ memory. Some (o.Untyped memory)) (sym begun_here.memory)

    slots : IsNode m level
    slots = node_at m (taker_found m caller to level takes).at level (taker_found m caller to level takes).shows

    slots_there : object_of m making.window.node ≡ Some (o.CNode slots.0)
    slots_there = ap (object_of m) (sym node) ∙ slots.1

    slots_hold : making.window.offset + making.window.count ≤ slot_count (o.CNode slots.0)
    slots_hold =
        subst (λ r. making.window.offset + making.window.count ≤ 2 ^ r) (sym slots.2)
        (is_in_node level.radix making.window.offset making.window.count tt fits)
