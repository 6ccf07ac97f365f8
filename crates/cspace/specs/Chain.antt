-- Guarded lookup by chains of CNode capabilities: guards and indices, joined, are a beginning of the address (seL4 manual,
-- "Capability Address Lookup").
use Rattle.std.specs.{List.flat_map, Prelude.{[], ℕ, ◌++◌, ◌+◌, ◌<◌, ◌∷◌, ◌≡◌, ◌≤◌, ◌⊎◌, Bool, List, None, Some, length}}
use Rattle.base.specs.declared.{ids.{ObjId.ObjId, SlotRef.SlotRef}, refusal.Cause.{Cause, TheVariants.{FailedLookup, RangeError}}}
use Rattle.base.specs.declared.refusal.LookupFailure.{LookupFailure, TheVariants.{DepthMismatch, GuardMismatch, InvalidRoot}}
use Rattle.{machine.specs.{Bits.{bits, number}, Lookup.{Level, level_at}, Machine.Machine}, cspace.specs.Roots.root_level}

-- a CNode as a capability shows it, with the bits that select one of its slots
pub record Link : Type 0 where
  pub level : Level
  pub index : List Bool

-- the bits of an address that a link takes
abbrev pub taken : Link → List Bool
taken link = link.level.guard ++ link.index

-- the guards and indices of a chain, joined
abbrev pub spelled : List Link → List Bool
spelled links = flat_map taken links

abbrev pub selected : Link → SlotRef
selected link = record { holder = link.level.node; index = number link.index }

-- the index is as long as the CNode's radix
abbrev pub IsWhole : Link → Type 0
IsWhole link = length link.index ≡ link.level.radix

-- a link at one CNode selects a slot that holds a capability of the next
pub record Joins (m : Machine) (from : Level) (link : Link) (next : Level) : Type 0 where
  pub here : link.level ≡ from
  pub whole : IsWhole link
  pub held : level_at m (selected link) ≡ Some next

-- a chain leads from one CNode to another
abbrev pub Leads : Machine → Level → List Link → Level → Type 0
Leads m from [] to = from ≡ to
Leads m from (link ∷ links) to = (next : Level) × Joins m from link next × Leads m next links to

-- a lookup finds a slot: a chain ends there, and all bits are used up, or the slot holds no CNode capability
pub record Resolves (m : Machine) (from : Level) (string : List Bool) (slot : SlotRef) (rest : List Bool) : Type 0 where
  pub links : List Link
  pub last : Link
  pub leads : Leads m from links last.level
  pub whole : IsWhole last
  pub spells : spelled links ++ (taken last ++ rest) ≡ string
  pub selects : selected last ≡ slot
  pub ends : (rest ≡ []) ⊎ (level_at m slot ≡ None)

abbrev pub BeginsWith : List Bool → List Bool → Type 0
BeginsWith string beginning = (rest : List Bool) × (beginning ++ rest ≡ string)

-- why a lookup cannot go on at a CNode: the guard is no beginning of the rest, or it is, and guard and radix are longer than the
-- rest
abbrev pub Hinders : LookupFailure → Level → List Bool → Type 0
Hinders GuardMismatch level rest = ¬ BeginsWith rest level.guard
Hinders DepthMismatch level rest = BeginsWith rest level.guard × (length rest < length level.guard + level.radix)
Hinders _ level rest = ⊥

-- a lookup fails: a chain leads to a CNode where bits are left, but hindered
pub record Misses (m : Machine) (from : Level) (string : List Bool) (failure : LookupFailure) : Type 0 where
  pub links : List Link
  pub to : Level
  pub rest : List Bool
  pub leads : Leads m from links to
  pub spells : spelled links ++ rest ≡ string
  pub left : 0 < length rest
  pub why : Hinders failure to rest

-- each CNode takes at least one bit to select a slot
abbrev pub TakesBits : Machine → Type 0
TakesBits m = (slot : SlotRef) (level : Level) → level_at m slot ≡ Some level → 0 < level.radix

-- the lookup of a thread's address finds a slot with so many bits left
pub record Finds (m : Machine) (thread : ObjId) (address : ℕ) (slot : SlotRef) (left : ℕ) : Type 0 where
  pub root : Level
  pub rest : List Bool
  pub rooted : root_level m thread ≡ Some root
  pub resolves : Resolves m root (bits 64 address) slot rest
  pub counts : length rest ≡ left

-- the lookup of a thread's address fails: there is no root, or a chain from it is hindered
abbrev pub Fails : Machine → ObjId → ℕ → LookupFailure → Type 0
Fails m thread address failure =
    ((root_level m thread ≡ None) × (failure ≡ InvalidRoot))
    ⊎ ((root : Level) × (root_level m thread ≡ Some root) × Misses m root (bits 64 address) failure)

-- a slot holds the capability of the CNode where the lookup of a target begins, and an index has so many bits to look up
pub record TargetStarts (m : Machine) (from : SlotRef) (depth : ℕ) (root : Level) : Type 0 where
  pub rooted : level_at m from ≡ Some root
  pub least : 1 ≤ depth
  pub most : depth ≤ 64

-- a chain ends at a slot that holds no CNode capability, and bits are left: an empty slot, or one that leads no further
pub record StopsShort (m : Machine) (from : Level) (string : List Bool) : Type 0 where
  pub slot : SlotRef
  pub rest : List Bool
  pub resolves : Resolves m from string slot rest
  pub left : 0 < length rest

-- the lookup of a target finds a slot: a chain ends there whose guards and indices, joined, are the low bits of the index
pub record TargetFinds (m : Machine) (from : SlotRef) (index depth : ℕ) (slot : SlotRef) : Type 0 where
  pub root : Level
  pub starts : TargetStarts m from depth root
  pub resolves : Resolves m root (bits depth index) slot []

-- the lookup of a target has no CNode where it can begin
pub record TargetUnrooted (m : Machine) (from : SlotRef) (cause : Cause) : Type 0 where
  pub unrooted : level_at m from ≡ None
  pub is : cause ≡ FailedLookup InvalidRoot

-- the lookup of a target has a CNode where it can begin, but an index has not so many bits to look up
pub record TargetOutside (m : Machine) (from : SlotRef) (depth : ℕ) (cause : Cause) : Type 0 where
  pub root : Level
  pub rooted : level_at m from ≡ Some root
  pub outside : (depth < 1) ⊎ (64 < depth)
  pub is : cause ≡ RangeError

-- the lookup of a target is hindered at a CNode on the way
pub record TargetMisses (m : Machine) (from : SlotRef) (index depth : ℕ) (cause : Cause) : Type 0 where
  pub root : Level
  pub starts : TargetStarts m from depth root
  pub failure : LookupFailure
  pub misses : Misses m root (bits depth index) failure
  pub is : cause ≡ FailedLookup failure

-- the lookup of a target ends before its bits are used up
pub record TargetStops (m : Machine) (from : SlotRef) (index depth : ℕ) (cause : Cause) : Type 0 where
  pub root : Level
  pub starts : TargetStarts m from depth root
  pub stops : StopsShort m root (bits depth index)
  pub is : cause ≡ FailedLookup DepthMismatch

-- the lookup of a target fails: it cannot begin, or a chain from where it begins is hindered or stops short
abbrev pub TargetFails : Machine → SlotRef → ℕ → ℕ → Cause → Type 0
TargetFails m from index depth cause =
    TargetUnrooted m from cause
    ⊎ TargetOutside m from depth cause
    ⊎ TargetMisses m from index depth cause
    ⊎ TargetStops m from index depth cause
