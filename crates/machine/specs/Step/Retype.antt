-- Retype (seL4 manual, seL4_Untyped_Retype): untyped memory becomes objects of one kind, whose capabilities fill the slots of a window
-- of a CNode.
use Rattle.std.specs.{List.range_with_len, Prelude.{[], ℕ, ◌&&◌, ◌*◌, ◌+◌, ◌^◌, ◌∷◌, Err, List, None, Ok, Option, Result, Some}}
use Rattle.std.specs.Prelude.{if◌then◌else◌, map, nat_le, nat_lt}
use Rattle.base.specs.declared.{ids.{ObjId.ObjId, SlotRef.SlotRef}, limits.TheConstants.{MAX_MADE, MAX_PRESENT, MAX_RADIX, MAX_SLOTS}}
use Rattle.base.specs.declared.{limits.TheConstants.{MAX_THREADS, OBJECT_NUMBERS}, refusal.Cause.{Cause, Cause as cause}}
use Rattle.base.specs.declared.refusal.LookupFailure.TheVariants.{MissingCapability}
use Rattle.machine.specs.declared.{call.{Answer.Answer as answer, Made.{Made, TheVariants.Done}}}
use Rattle.machine.specs.{declared.object.{MemoryKind.MemoryKind, Object.{Object, Object as o}, Untyped.Untyped}, Counts.objects_in}
use Rattle.machine.specs.declared.object.MemoryKind.TheVariants as kind
use Rattle.machine.specs.declared.object.ObjectKind.TheVariants as object_kind
use Rattle.machine.specs.{Counts.{slots_in, threads_in}, Lookup.{Level, level_at, lookup_of}, Machine.{Machine, cap_of, object_of}}
use Rattle.machine.specs.{Memory.{Source, all_taken, begun, new_object, new_size, with_all_made}, Objects.{end_of, slot_count}}
use Rattle.machine.specs.{Objects.thread_count, Refusing.◌>>=◌, Step.{Find.find, Target.vacant}}

abbrev pub memory_in : Option Object → Result Untyped Cause
memory_in (Some (o.Untyped memory)) = Ok memory
memory_in _ = Err cause.InvalidCapability

unfoldable pub find_untyped : Machine → ObjId → ℕ → Result Source Cause
find_untyped m caller address = do
  found ← find object_kind.Untyped m caller address
  memory ← memory_in (object_of m found.1.object)
  Ok (record { slot = found.0; id = found.1.object; memory = memory })

-- a number that has to lie from one to another
abbrev pub between : ℕ → ℕ → ℕ → Result (Unit {0}) Cause
between least most bits =
    if nat_lt bits least then Err cause.InvalidArgument else if nat_lt most bits then Err cause.RangeError else Ok tt

-- the size of untyped memory and the radix of a CNode have limits; other kinds have one size, whatever is asked for
abbrev pub sized : MemoryKind → ℕ → Result (Unit {0}) Cause
sized kind.Untyped bits = between 4 47 bits
sized kind.CNode bits = between 1 MAX_RADIX bits
sized _ bits = Ok tt

-- the number of objects made at a time has a limit
abbrev pub a_few : ℕ → Result (Unit {0}) Cause
a_few count = if nat_le 1 count && nat_le count MAX_MADE then Ok tt else Err cause.RangeError

-- the CNode that takes the capabilities; without one the capability is missing
abbrev pub taker : Option Level → Result Level Cause
taker None = Err (cause.FailedLookup MissingCapability)
taker (Some level) = Ok level

unfoldable pub find_taker : Machine → ObjId → ℕ → Result Level Cause
find_taker m caller address = do
  place ← lookup_of m caller address
  taker (level_at m place.0)

-- slots of a CNode, one after another
abbrev pub window : ObjId → ℕ → ℕ → List SlotRef
window node offset count = map (λ index. record { holder = node; index = index }) (range_with_len offset count)

-- a CNode of that radix has the window
abbrev pub in_node : ℕ → ℕ → ℕ → Result (Unit {0}) Cause
in_node radix offset count = if nat_le (offset + count) (2 ^ radix) then Ok tt else Err cause.RangeError

-- slots that all have to be empty
abbrev pub all_vacant : Machine → List SlotRef → Result (Unit {0}) Cause
all_vacant m [] = Ok tt
all_vacant m (slot ∷ slots) = do
  _ ← vacant (cap_of m slot)
  all_vacant m slots

abbrev pub roomy : Untyped → ℕ → ℕ → Result (Unit {0}) Cause
roomy memory size count =
    if nat_le (all_taken count size memory).watermark (end_of (o.Untyped memory)) then Ok tt else Err cause.NotEnoughMemory

abbrev pub within_limits : Machine → Object → ℕ → Result (Unit {0}) Cause
within_limits m object count =
    if nat_le (objects_in m + count) MAX_PRESENT
    && nat_le (slots_in m + count * slot_count object) MAX_SLOTS
    && nat_le (threads_in m + count * thread_count object) MAX_THREADS
    && nat_le (m.next + count) OBJECT_NUMBERS
    then Ok tt else Err cause.TooMany

unfoldable pub retype_of : Machine → ObjId → ℕ → MemoryKind → ℕ → ℕ → ℕ → ℕ → Result (Made × Machine) Cause
retype_of m caller untyped kind bits to offset count = do
  source ← find_untyped m caller untyped
  _ ← sized kind bits
  _ ← a_few count
  node ← find_taker m caller to
  _ ← in_node node.radix offset count
  _ ← all_vacant m (window node.node offset count)
  _ ← roomy (begun m source).memory (new_size kind bits) count
  _ ← within_limits m (new_object kind bits 0) count
  Ok (Done (answer.Count count), with_all_made m (begun m source) kind bits (window node.node offset count))
