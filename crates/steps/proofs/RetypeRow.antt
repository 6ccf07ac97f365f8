-- A retype that isn't refused: what it found, and the objects that it made one after another.
use Rattle.std.{specs.Prelude.{Err, None, Ok, Option, Some, nat_le, nat_lt}, proofs.Common.{ℕ, ◌+◌, ◌^◌, ◌≡◌, ◌≤◌, Bool, ap, false}}
use Rattle.std.proofs.Common.{leb-true, ltb-false, refl, subst, sym, true}
use Rattle.base.specs.declared.{ids.{ObjId.ObjId, SlotRef.SlotRef}, limits.TheConstants.MAX_RADIX, refusal.Cause.Cause as cause}
use Rattle.machine.specs.declared.{call.Made.Made, cap.{Cap.Cap, Detail.Detail as d}, object.MemoryKind.MemoryKind}
use Rattle.machine.specs.{declared.object.{Object.{Object, Object as o}, Untyped.Untyped}, Lookup.{Level, level_at, lookup_of}}
use Rattle.machine.specs.{Machine.{Machine, object_of}, Memory.{Source, all_taken, begun, new_object, new_size, with_all_made}}
use Rattle.machine.specs.{Objects.end_of, Step.{Find.find, Retype.{a_few, all_vacant, between, find_taker, find_untyped, in_node}}}
use Rattle.machine.specs.Step.Retype.{memory_in, retype_of, roomy, sized, taker, window, within_limits}
use Rattle.machine.specs.declared.object.MemoryKind.TheVariants as kind
use Rattle.machine.specs.declared.object.ObjectKind.TheVariants as object_kind
use Rattle.steps.proofs.{Conditions.{both_done, same_ok}, Finding.{FindsCap, finds}}

-- a size that a retype may ask for
abbrev pub IsSized : MemoryKind → ℕ → Type 0
IsSized kind.Untyped bits = (4 ≤ bits) × (bits ≤ 47)
IsSized kind.CNode bits = (1 ≤ bits) × (bits ≤ MAX_RADIX)
IsSized _ bits = Unit {0}

-- an address leads to the capability of untyped memory
pub record FindsUntyped (m : Machine) (caller : ObjId) (address : ℕ) (source : Source) : Type 0 where
  pub held : Cap
  pub finds : FindsCap m caller address source.slot held
  pub untyped : held.detail ≡ d.Untyped
  pub object : held.object ≡ source.id
  pub there : object_of m source.id ≡ Some (o.Untyped source.memory)

-- an address leads to the capability of a CNode
pub record FindsTaker (m : Machine) (caller : ObjId) (address : ℕ) (node : Level) : Type 0 where
  pub at : SlotRef
  pub left : ℕ
  pub ends : lookup_of m caller address ≡ Ok (at, left)
  pub shows : level_at m at ≡ Some node

-- a retype was made
pub record RetypeDone (m : Machine) (caller : ObjId) (untyped : ℕ) (kind : MemoryKind) (bits to offset count : ℕ) (next : Machine) : Type 0 where
  pub source : Source
  pub node : Level
  pub finds : FindsUntyped m caller untyped source
  pub size : IsSized kind bits
  pub few : a_few count ≡ Ok tt
  pub takes : FindsTaker m caller to node
  pub in_node : offset + count ≤ 2 ^ node.radix
  pub vacant : all_vacant m (window node.node offset count) ≡ Ok tt
  pub room : (all_taken count (new_size kind bits) (begun m source).memory).watermark ≤ end_of (o.Untyped (begun m source).memory)
  pub limits : within_limits m (new_object kind bits 0) count ≡ Ok tt
  pub changes : next ≡ with_all_made m (begun m source) kind bits (window node.node offset count)

is_memory : (object : Option Object) (memory : Untyped) → memory_in object ≡ Ok memory → object ≡ Some (o.Untyped memory)
is_memory (Some (o.Untyped other)) memory e = ap (λ u. Some (o.Untyped u)) (same_ok e)
is_memory _ memory e = cc

pub untyped_found :
    (m : Machine) (caller : ObjId) (address : ℕ) (source : Source) → find_untyped m caller address ≡ Ok source
    → FindsUntyped m caller address source
unfolding find_untyped
untyped_found m caller address source e =
    let found = both_done (find object_kind.Untyped m caller address) _ source e in
    let there = finds object_kind.Untyped m caller address found.0 found.1 in
    let memory = both_done (memory_in (object_of m (found.0).1.object)) _ source found.2 in
    subst (λ (s : Source). FindsUntyped m caller address s) (same_ok memory.2)
    (record {
      held = (found.0).1;
      finds = there.finds;
      untyped = there.detail;
      object = refl;
      there = is_memory (object_of m (found.0).1.object) memory.0 memory.1;
    })

is_taker : (at : Option Level) (level : Level) → taker at ≡ Ok level → at ≡ Some level
is_taker None level e = cc
is_taker (Some other) level e = ap (λ l. Some l) (same_ok e)

pub taker_found :
    (m : Machine) (caller : ObjId) (address : ℕ) (node : Level) → find_taker m caller address ≡ Ok node
    → FindsTaker m caller address node
unfolding find_taker
taker_found m caller address node e =
    let place = both_done (lookup_of m caller address) _ node e in
    record {
      at = (place.0).0;
      left = (place.0).1;
      ends = place.1;
      shows = is_taker (level_at m (place.0).0) node place.2;
    }

is_between : (least most bits : ℕ) (u : Unit {0}) → between least most bits ≡ Ok u → (least ≤ bits) × (bits ≤ most)
is_between least most bits u e = by_ties (nat_lt bits least) (nat_lt most bits) refl refl where
  by_ties :
      (low high : Bool) → nat_lt bits least ≡ low → nat_lt most bits ≡ high → (least ≤ bits) × (bits ≤ most)
  by_ties true high is at = let none : between least most bits ≡ Err cause.InvalidArgument = rw is refl in cc
  by_ties false true is at = let none : between least most bits ≡ Err cause.RangeError = rw (is, at) refl in cc
  by_ties false false is at = (ltb-false bits least is, ltb-false most bits at)

pub is_sized : (of : MemoryKind) (bits : ℕ) (u : Unit {0}) → sized of bits ≡ Ok u → IsSized of bits
is_sized kind.Untyped bits u e = is_between 4 47 bits u e
is_sized kind.CNode bits u e = is_between 1 MAX_RADIX bits u e
is_sized _ bits u e = tt

pub is_in_node : (radix offset count : ℕ) (u : Unit {0}) → in_node radix offset count ≡ Ok u → offset + count ≤ 2 ^ radix
is_in_node radix offset count u e = by_tie (nat_le (offset + count) (2 ^ radix)) refl where
  by_tie : (fits : Bool) → nat_le (offset + count) (2 ^ radix) ≡ fits → offset + count ≤ 2 ^ radix
  by_tie true is = leb-true (offset + count) (2 ^ radix) is
  by_tie false is = let none : in_node radix offset count ≡ Err cause.RangeError = rw is refl in cc

is_roomy :
    (memory : Untyped) (size count : ℕ) (u : Unit {0}) → roomy memory size count ≡ Ok u
    → (all_taken count size memory).watermark ≤ end_of (o.Untyped memory)
is_roomy memory size count u e = by_tie (nat_le (all_taken count size memory).watermark (end_of (o.Untyped memory))) refl where
  by_tie :
      (fits : Bool) → nat_le (all_taken count size memory).watermark (end_of (o.Untyped memory)) ≡ fits
      → (all_taken count size memory).watermark ≤ end_of (o.Untyped memory)
  by_tie true is = leb-true (all_taken count size memory).watermark (end_of (o.Untyped memory)) is
  by_tie false is = let none : roomy memory size count ≡ Err cause.NotEnoughMemory = rw is refl in cc

pub retype_done :
    (m : Machine) (caller : ObjId) (untyped : ℕ) (of : MemoryKind) (bits to offset count : ℕ) (made : Made) (next : Machine)
    → retype_of m caller untyped of bits to offset count ≡ Ok (made, next)
    → RetypeDone m caller untyped of bits to offset count next
unfolding retype_of
retype_done m caller untyped of bits to offset count made next e =
    let source = both_done (find_untyped m caller untyped) _ (made, next) e in
    let size = both_done (sized of bits) _ (made, next) source.2 in
    let few = both_done (a_few count) _ (made, next) size.2 in
    let node = both_done (find_taker m caller to) _ (made, next) few.2 in
    let fits = both_done (in_node node.0.radix offset count) _ (made, next) node.2 in
    let empty = both_done (all_vacant m (window node.0.node offset count)) _ (made, next) fits.2 in
    let room = both_done (roomy (begun m source.0).memory (new_size of bits) count) _ (made, next) empty.2 in
    let limits = both_done (within_limits m (new_object of bits 0) count) _ (made, next) room.2 in
    record {
      source = source.0;
      node = node.0;
      finds = untyped_found m caller untyped source.0 source.1;
      size = is_sized of bits size.0 size.1;
      few = few.1;
      takes = taker_found m caller to node.0 node.1;
      in_node = is_in_node node.0.radix offset count fits.0 fits.1;
      vacant = empty.1;
      room = is_roomy (begun m source.0).memory (new_size of bits) count room.0 room.1;
      limits = limits.1;
      changes = sym (ap (λ p. p.1) (same_ok limits.2));
    }
