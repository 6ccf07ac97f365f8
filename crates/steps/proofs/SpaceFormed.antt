-- That a machine stays well formed when a thread's root slot is cleared, or gets a CNode's capability.
use Rattle.std.{specs.Prelude.{IsTrue, None, Option, Some}, proofs.Common.{ℕ, ◌∙◌, ◌≡◌, ◌⊎◌, ap, arith, inl, inr, refl, subst, sym}}
use Rattle.{std.proofs.lemmas.{Bool.lt-ltb, Option.same_Some}, base.specs.declared.ids.{ObjId.ObjId, SlotRef.SlotRef}}
use Rattle.machine.specs.declared.{cap.{Cap.Cap, Detail.{Detail, Detail as d}}, object.{Object.Object as o, ObjectKind.ObjectKind as kind}}
use Rattle.machine.specs.{Capabilities.kind_of_detail, Lookup.root_of, Machine.{Machine, cap_of, has_slot, object_of, same_slot}}
use Rattle.machine.specs.{Step.{Delete.deleted, Space.{with_root, without_root}}, Tree.{copied, with_copy}}
use Rattle.machine.{specs.WellFormed.{IsWellFormed, kind_of}, proofs.{Exchange.slot_itself, RemovalStays.cap_was}}
use Rattle.steps.proofs.{FillsFormed.{Takes, fills_formed}, FoundObjects.tcb_of_kind, RemovalNumbers.removed_formed}
use Rattle.steps.proofs.{RemovalRows.chosen_empty, SlotRows.with_copy_fills, SpaceRow.{ClearDone, RootFilled, SetDone, root_filled}}

-- a root slot is cleared: the machine stays well formed

pub rootless_formed : (m : Machine) (thread : ObjId) → IsWellFormed m → IsWellFormed (without_root m thread)
rootless_formed m thread formed = by_cap (cap_of m (root_of thread)) where
  by_cap : (filling : Option Cap) → IsWellFormed (deleted m (root_of thread) filling)
  by_cap None = formed
  by_cap (Some held) = removed_formed m (same_slot (root_of thread)) formed

-- the cleared root slot is empty
pub root_empty : (m : Machine) (thread : ObjId) → cap_of (without_root m thread) (root_of thread) ≡ None
root_empty m thread = by_cap (cap_of m (root_of thread)) refl where
  by_cap :
      (filling : Option Cap) → cap_of m (root_of thread) ≡ filling
      → cap_of (deleted m (root_of thread) filling) (root_of thread) ≡ None
  by_cap None e = e
  by_cap (Some held) e = chosen_empty m (same_slot (root_of thread)) (root_of thread) (slot_itself (root_of thread))

-- a slot that is still filled holds what it held
pub held_before :
    (m : Machine) (thread : ObjId) (slot : SlotRef) (held : Cap) → cap_of (without_root m thread) slot ≡ Some held
    → cap_of m slot ≡ Some held
held_before m thread slot held = by_cap (cap_of m (root_of thread)) where
  by_cap : (filling : Option Cap) → cap_of (deleted m (root_of thread) filling) slot ≡ Some held → cap_of m slot ≡ Some held
  by_cap None e = e
  by_cap (Some _) e = (cap_was m (same_slot (root_of thread)) slot held e).1

-- a thread whose capability a slot holds exists
pub thread_there :
    (m : Machine) (thread : ObjId) (tcb : SlotRef) (of : Cap) → IsWellFormed m → cap_of m tcb ≡ Some of → of.object ≡ thread
    → of.detail ≡ d.Tcb → kind_of m thread ≡ Some kind.Tcb
thread_there m thread tcb of formed filled object detail =
    ap (kind_of m) (sym object) ∙ formed.slots.object tcb of filled ∙ ap (λ x. Some (kind_of_detail x)) detail

-- an existing thread has its root slot
pub root_there : (m : Machine) (thread : ObjId) → kind_of m thread ≡ Some kind.Tcb → IsTrue (has_slot m (root_of thread))
root_there m thread is = let tcb = tcb_of_kind (object_of m thread) is in rw tcb.1 (lt-ltb 0 1 (omega arith))

-- an empty root slot gets a copy of a CNode's capability, if there is one
pub rooted_formed :
    (m : Machine) (thread : ObjId) (tcb node : SlotRef) → IsWellFormed m → cap_of m (root_of thread) ≡ None
    → ((of : Cap) → cap_of m tcb ≡ Some of → kind_of m thread ≡ Some kind.Tcb)
    → ((held : Cap) → cap_of m node ≡ Some held → kind_of_detail held.detail ≡ kind.CNode)
    → IsWellFormed (with_root m thread tcb node)
rooted_formed m thread tcb node formed empty there nodes = by_case (root_filled m thread tcb node) where
  takes :
      (detail : Detail) → kind_of m thread ≡ Some kind.Tcb → kind_of_detail detail ≡ kind.CNode
      → Takes m (root_of thread) detail
  takes detail is of_node =
      let tcb = tcb_of_kind (object_of m thread) is in
      record { object = o.Tcb tcb.0; there = tcb.1; within = omega arith; root = λ same. of_node }

  filled_formed :
      (held : Cap) → kind_of m thread ≡ Some kind.Tcb → cap_of m node ≡ Some held
      → IsWellFormed (with_copy m (root_of thread) node held held.detail)
  filled_formed held is full =
      let of_node = nodes held full in
      fills_formed m (with_copy m (root_of thread) node held held.detail) (root_of thread) node held (copied held held.detail)
      formed (with_copy_fills m (root_of thread) node held held.detail formed empty) (takes held.detail is of_node) empty full
      refl refl
      (λ untyped. let two : kind.CNode ≡ kind.Untyped = sym of_node ∙ untyped in cc)

  by_case : RootFilled m thread tcb node ⊎ (with_root m thread tcb node ≡ m) → IsWellFormed (with_root m thread tcb node)
  by_case (inl w) = subst IsWellFormed (sym w.changes) (filled_formed w.held (there w.of w.thread_held) w.node_held)
  by_case (inr same) = subst IsWellFormed (sym same) formed

module _ (m : Machine) (thread : ObjId) (tcb : SlotRef) (of : Cap) (formed : IsWellFormed m) (filled : cap_of m tcb ≡ Some of)
    (object : of.object ≡ thread) (detail : of.detail ≡ d.Tcb) where
  -- a thread is still there if the slot with its capability is still filled
  still_there :
      (now : Cap) → cap_of (without_root m thread) tcb ≡ Some now
      → kind_of (without_root m thread) thread ≡ Some kind.Tcb
  still_there now e =
      let same : of ≡ now = same_Some of now (sym filled ∙ held_before m thread tcb now e) in
      thread_there (without_root m thread) thread tcb now (rootless_formed m thread formed) e
      (ap (λ (c : Cap). c.object) (sym same) ∙ object) (ap (λ (c : Cap). c.detail) (sym same) ∙ detail)

  pub still_rooted :
      (now : Cap) → cap_of (without_root m thread) tcb ≡ Some now → IsTrue (has_slot (without_root m thread) (root_of thread))
  still_rooted now e = root_there (without_root m thread) thread (still_there now e)

  pub space_set_formed :
      (node : SlotRef) (held : Cap) → cap_of m node ≡ Some held → kind_of_detail held.detail ≡ kind.CNode
      → IsWellFormed (with_root (without_root m thread) thread tcb node)
  space_set_formed node held full is =
      rooted_formed (without_root m thread) thread tcb node (rootless_formed m thread formed) (root_empty m thread) still_there
      (λ now e.
      let same : now ≡ held = same_Some now held (sym (held_before m thread node now e) ∙ full) in
      ap (λ (c : Cap). kind_of_detail c.detail) same ∙ is)

pub clear_formed :
    (m : Machine) (caller : ObjId) (address : ℕ) (next : Machine) → IsWellFormed m → ClearDone m caller address next
    → IsWellFormed next
clear_formed m caller address next formed done = subst IsWellFormed (sym done.changes) (rootless_formed m done.thread formed)

pub set_formed :
    (m : Machine) (caller : ObjId) (address space : ℕ) (next : Machine) → IsWellFormed m → SetDone m caller address space next
    → IsWellFormed next
set_formed m caller address space next formed done =
    subst IsWellFormed (sym done.changes)
    (space_set_formed m done.thread done.finds.slot done.finds.held formed done.finds.finds.holds done.finds.object done.finds.detail
    done.node done.held done.finds_node.holds (ap kind_of_detail done.detail))
