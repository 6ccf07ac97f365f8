-- The rules that a capability table keeps on its names, objects and their addresses, filled slots, derivation tree and bindings (compare
-- the seL4 manual, "Bootstrapping").
use Rattle.std.specs.{declared.cmp.Ordering.TheVariants.Less, Prelude.{ℕ, ⊤, ◌+◌, ◌<◌, ◌==◌, ◌^◌, ◌≡◌, ◌≢◌, ◌≤◌, All, AllPairs}}
use Rattle.std.specs.Prelude.{Bool, List, None, Option, Some, count_by, false, length, option_map, slice_get, sum_by, true}
use Rattle.base.specs.declared.{ids.{ObjId.ObjId, SlotRef.SlotRef}, limits.TheConstants.{ADDRESS_END, MAX_OBJECTS}}
use Rattle.{base.specs.declared.limits.TheConstants.{MAX_PERIOD, MAX_RADIX, MAX_SLOTS, MAX_THREADS}, words.specs.Name.is_name}
use Rattle.machine.specs.declared.cap.{Badged.Badged, Detail.{Detail, Detail as d}}
use Rattle.machine.specs.declared.layout.{Binding.Binding, Filled.Filled, Initial.Initial, Pair.Pair}
use Rattle.machine.specs.declared.object.{Object.{Object, Object as o}, ObjectKind.ObjectKind, ReplyState.ReplyState as reply, Share.Share}
use Rattle.machine.specs.{declared.thread.{Inbox.Inbox as inbox, RunState.{RunState, RunState as run}}, Capabilities.kind_of_detail}
use Rattle.machine.specs.{Layout.{Layout, initial_of, most_labels}, Machine.slot_cmp, Objects.{end_of, kind_of_object, slot_count}}
use Rattle.table.specs.{Placement.{IsApart, is_aligned}, Tree.{IsPairOf, is_original}}
use Rattle.base.specs.declared.core_number.TheConstants.CoreNo as CoreNo
use Rattle.machine.specs.declared.object.ObjectKind.TheVariants as kind

-- a thread starts ready or inactive
abbrev pub IsAtRest : RunState → Type 0
IsAtRest run.Ready = ⊤
IsAtRest run.Inactive = ⊤
IsAtRest _ = ⊥

-- a context isn't configured yet, or has a share within the limits
abbrev pub IsWithinLimits : Option Share → Type 0
IsWithinLimits None = ⊤
IsWithinLimits (Some share) = (1 ≤ share.budget) × (share.budget ≤ share.period) × (share.period ≤ MAX_PERIOD) × (share.core < CoreNo.COUNT)

-- an object as it is at boot: empty, and with nothing queued, received, pending or bound
abbrev pub IsBlank : Object → Type 0
IsBlank (o.Untyped memory) = (4 ≤ memory.bits) × (memory.bits ≤ 47) × (memory.watermark ≡ memory.base)
IsBlank (o.CNode node) = (0 < node.radix) × (node.radix ≤ MAX_RADIX)
IsBlank (o.Tcb thread) = IsAtRest thread.state × (thread.inbox ≡ inbox.Empty) × (thread.context ≡ None)
IsBlank (o.Endpoint _) = ⊤
IsBlank (o.Notification notification) = notification.pending ≡ None
IsBlank (o.Reply answer) = answer.state ≡ reply.Free
IsBlank (o.Context context) = IsWithinLimits context.share × (context.thread ≡ None)
IsBlank (o.Frame _) = ⊤
IsBlank (o.Control control) = control.core < CoreNo.COUNT

-- rights below a bound, as bits, and a badge that is a word
abbrev pub IsBadged : ℕ → Badged → Type 0
IsBadged rights end = (end.rights.0 < rights) × (end.badge < 2 ^ 64)

-- a capability's detail fits its object: it says the object's kind, has only rights of that kind, a badge that is a word, and a guard that
-- leaves room for the radix
abbrev pub IsDetailOf : Object → Detail → Type 0
IsDetailOf (o.Untyped _) d.Untyped = ⊤
IsDetailOf (o.CNode node) (d.CNode guard) = (guard.size + node.radix ≤ 64) × (guard.value < 2 ^ guard.size)
IsDetailOf (o.Tcb _) d.Tcb = ⊤
IsDetailOf (o.Endpoint _) (d.Endpoint end) = IsBadged 16 end
IsDetailOf (o.Notification _) (d.Notification end) = IsBadged 4 end
IsDetailOf (o.Reply _) d.Reply = ⊤
IsDetailOf (o.Context _) d.Context = ⊤
IsDetailOf (o.Frame _) (d.Frame rights) = rights.0 < 4
IsDetailOf (o.Control _) d.Control = ⊤
IsDetailOf _ _ = ⊥

-- whether an object is the control of a core
abbrev pub is_control_of : Object → ℕ → Bool
is_control_of (o.Control control) core = control.core == core
is_control_of _ core = false

abbrev pub is_tcb : Object → Bool
is_tcb (o.Tcb _) = true
is_tcb _ = false

-- the kind of an object that the table declares
unfoldable pub kind_at : Layout → ObjId → Option ObjectKind
kind_at t id = option_map (λ initial. kind_of_object initial.object) (initial_of t id)

-- the number of slots of objects
abbrev pub slots_in : List Initial → ℕ
slots_in objects = sum_by (λ initial. slot_count initial.object) objects

-- the number of objects that are threads
abbrev pub threads_in : List Initial → ℕ
threads_in objects = count_by (λ initial. is_tcb initial.object) objects

-- Each section's rules read only the labels and objects, which come before it.

-- an object that a table of so many labels may declare
pub record IsObjectOf (labels : ℕ) (initial : Initial) : Type 0 where
  pub label : initial.label < labels
  pub blank : IsBlank initial.object
  pub aligned : is_aligned initial.object ≡ true
  pub end : end_of initial.object ≤ ADDRESS_END

-- the objects have the slot
pub record HasSlot (objects : List Initial) (slot : SlotRef) : Type 0 where
  pub holder : Initial
  pub held : slice_get objects slot.holder.0 ≡ Some holder
  pub within : slot.index < slot_count holder.object

-- a slot that the table may fill, with a capability that it may hold
pub record IsCapOf (objects : List Initial) (filled : Filled) : Type 0 where
  pub place : HasSlot objects filled.slot
  pub target : Initial
  pub aimed : slice_get objects filled.cap.object.0 ≡ Some target
  -- the root of a thread's capability space is a CNode
  pub root : kind_of_object place.holder.object ≡ kind.Tcb → kind_of_detail filled.cap.detail ≡ kind.CNode
  pub detail : IsDetailOf target.object filled.cap.detail

-- a parent and a child that the table may pair
pub record IsSlotPair (objects : List Initial) (pair : Pair) : Type 0 where
  pub parent : HasSlot objects pair.parent
  pub child : HasSlot objects pair.child

abbrev pub IsOfKind : List Initial → ObjId → ObjectKind → Type 0
IsOfKind objects id kind = option_map (λ initial. kind_of_object initial.object) (slice_get objects id.0) ≡ Some kind

-- a thread and a context that the table may bind to each other
pub record IsBindingOf (objects : List Initial) (binding : Binding) : Type 0 where
  pub thread : IsOfKind objects binding.thread kind.Tcb
  pub context : IsOfKind objects binding.context kind.Context

-- the labels of a table that may have at most `most`
pub record LabelsFit (most : ℕ) (labels : List (List ℕ)) : Type 0 where
  pub few : length labels ≤ most
  pub spelled : All (λ name. is_name name ≡ true) labels
  pub differ : AllPairs (λ one other. one ≢ other) labels

pub record ObjectsFit (labels : ℕ) (names : List (List ℕ)) (objects : List Initial) : Type 0 where
  pub spelled : All (λ name. is_name name ≡ true) names
  pub differ : AllPairs (λ one other. one ≢ other) names
  pub named : length names ≡ length objects
  pub few : length objects ≤ MAX_OBJECTS
  pub few_slots : slots_in objects ≤ MAX_SLOTS
  pub few_threads : threads_in objects ≤ MAX_THREADS
  pub each : All (IsObjectOf labels) objects
  pub apart : AllPairs (λ one other. IsApart one.object other.object) objects
  pub controls_differ :
      AllPairs (λ one other. (core : ℕ) → is_control_of one.object core ≡ true → is_control_of other.object core ≡ false) objects

abbrev pub Rises : List Filled → Type 0
Rises caps = AllPairs (λ one other. slot_cmp one.slot other.slot ≡ Less) caps

abbrev pub RisesByChild : List Pair → Type 0
RisesByChild pairs = AllPairs (λ one other. slot_cmp one.child other.child ≡ Less) pairs

pub record CapsFit (objects : List Initial) (caps : List Filled) : Type 0 where
  pub each : All (IsCapOf objects) caps
  pub rise : Rises caps
  -- an untyped has at most one capability
  pub untypeds_once :
      AllPairs (λ one other. kind_of_detail other.cap.detail ≡ kind.Untyped → one.cap.object ≢ other.cap.object) caps

pub record PairsFit (objects : List Initial) (pairs : List Pair) : Type 0 where
  pub each : All (IsSlotPair objects) pairs
  pub rise : RisesByChild pairs

pub record BindingsFit (objects : List Initial) (bindings : List Binding) : Type 0 where
  pub each : All (IsBindingOf objects) bindings
  pub rise : AllPairs (λ one other. one.thread.0 < other.thread.0) bindings
  -- a context is bound to at most one thread
  pub contexts_differ : AllPairs (λ one other. one.context ≢ other.context) bindings

-- the rules that a table keeps line by line
pub record IsDraft (t : Layout) : Type 0 where
  pub labels : LabelsFit (most_labels t.version) t.labels
  pub objects : ObjectsFit (length t.labels) t.names t.objects
  pub caps : CapsFit t.objects t.caps
  pub pairs : PairsFit t.objects t.pairs
  pub bindings : BindingsFit t.objects t.bindings

-- the rules that every capability table keeps
pub record IsLawful (t : Layout) : Type 0 where
  pub draft : IsDraft t
  -- each capability is marked as its source says
  pub marked : All (λ filled. filled.cap.original ≡ is_original t filled.slot filled.cap.detail) t.caps
  -- each pair of the tree may be parent and child
  pub tree : All (IsPairOf t) t.pairs
