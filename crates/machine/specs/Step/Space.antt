-- Setspace and Clearspace (seL4 manual, seL4_TCB_SetSpace; confine's own as two calls): a thread gets another root for its capability
-- space, or loses the one that it has.
use Rattle.{std.specs.Prelude.{ℕ, Ok, Option, Result, Some}, base.specs.declared.{ids.{ObjId.ObjId, SlotRef.SlotRef}, refusal.Cause.Cause}}
use Rattle.machine.specs.declared.call.{Answer.Answer as answer, Made.{Made, TheVariants.Done}}
use Rattle.machine.specs.{declared.{cap.Cap.Cap, object.ObjectKind.ObjectKind as kind}, Lookup.root_of}
use Rattle.machine.specs.{Machine.{Machine, cap_of}, Refusing.◌>>=◌, Step.{Delete.deleted, Find.find}, Tree.with_copy}

-- a thread's root slot loses its capability, and what can't stay without it goes too
abbrev pub without_root : Machine → ObjId → Machine
without_root m thread = deleted m (root_of thread) (cap_of m (root_of thread))

unfoldable pub clear_space_of : Machine → ObjId → ℕ → Result (Made × Machine) Cause
clear_space_of m caller address = do
  found ← find kind.Tcb m caller address
  Ok (Done answer.Nothing, without_root m found.1.object)

-- a thread's root slot gets a copy of what a slot holds, if that slot and the one with the thread's capability are still filled
unfoldable pub with_root : Machine → ObjId → SlotRef → SlotRef → Machine
with_root m thread tcb node = by_caps (cap_of m tcb) (cap_of m node) where
  by_caps : Option Cap → Option Cap → Machine
  by_caps (Some _) (Some held) = with_copy m (root_of thread) node held held.detail
  by_caps _ _ = m

unfoldable pub set_space_of : Machine → ObjId → ℕ → ℕ → Result (Made × Machine) Cause
set_space_of m caller address space = do
  found ← find kind.Tcb m caller address
  node ← find kind.CNode m caller space
  Ok (Done answer.Nothing, with_root (without_root m found.1.object) found.1.object found.0 node.0)
