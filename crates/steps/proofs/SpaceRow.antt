-- The effect of a clearspace or setspace that isn't refused: the thread and the CNode's capability that it found, and the machine after it.
use Rattle.std.{specs.Prelude.{None, Ok, Option, Some}, proofs.Common.{ℕ, ◌≡◌, ◌⊎◌, ap, inl, inr, refl, sym}}
use Rattle.base.specs.declared.ids.{ObjId.ObjId, SlotRef.SlotRef}
use Rattle.machine.specs.{declared.{call.Made.Made, cap.{Cap.Cap, Detail.Detail as d, Guard.Guard}}, Lookup.root_of, Machine.Machine}
use Rattle.machine.specs.{Machine.cap_of, Step.{Find.find, Space.{clear_space_of, set_space_of, with_root, without_root}}, Tree.with_copy}
use Rattle.machine.specs.declared.object.ObjectKind.TheVariants as kind
use Rattle.steps.proofs.{Conditions.{both_done, same_ok}, Finding.{FindsCap, FindsObject, finds}}

pub record ClearDone (m : Machine) (caller : ObjId) (address : ℕ) (next : Machine) : Type 0 where
  pub thread : ObjId
  pub finds : FindsObject m caller address thread d.Tcb
  pub changes : next ≡ without_root m thread

pub clear_done :
    (m : Machine) (caller : ObjId) (address : ℕ) (made : Made) (next : Machine)
    → clear_space_of m caller address ≡ Ok (made, next) → ClearDone m caller address next
unfolding clear_space_of
clear_done m caller address made next e =
    let found = both_done (find kind.Tcb m caller address) _ (made, next) e in
    record {
      thread = (found.0).1.object;
      finds = finds kind.Tcb m caller address found.0 found.1;
      changes = sym (ap (λ p. p.1) (same_ok found.2));
    }

pub record SetDone (m : Machine) (caller : ObjId) (address space : ℕ) (next : Machine) : Type 0 where
  pub thread : ObjId
  pub finds : FindsObject m caller address thread d.Tcb
  pub node : SlotRef
  pub held : Cap
  pub guard : Guard
  pub finds_node : FindsCap m caller space node held
  pub detail : held.detail ≡ d.CNode guard
  pub changes : next ≡ with_root (without_root m thread) thread finds.slot node

pub set_done :
    (m : Machine) (caller : ObjId) (address space : ℕ) (made : Made) (next : Machine)
    → set_space_of m caller address space ≡ Ok (made, next) → SetDone m caller address space next
unfolding set_space_of
set_done m caller address space made next e =
    let found = both_done (find kind.Tcb m caller address) _ (made, next) e in
    let of = both_done (find kind.CNode m caller space) _ (made, next) found.2 in
    let node = finds kind.CNode m caller space of.0 of.1 in
    record {
      thread = (found.0).1.object;
      finds = finds kind.Tcb m caller address found.0 found.1;
      node = node.slot;
      held = node.held;
      guard = _;
      finds_node = node.finds;
      detail = node.detail;
      changes = sym (ap (λ p. p.1) (same_ok of.2));
    }

-- a thread's root slot got a copy of what a slot holds
pub record RootFilled (m : Machine) (thread : ObjId) (tcb node : SlotRef) : Type 0 where
  pub of : Cap
  pub held : Cap
  pub thread_held : cap_of m tcb ≡ Some of
  pub node_held : cap_of m node ≡ Some held
  pub changes : with_root m thread tcb node ≡ with_copy m (root_of thread) node held held.detail

-- a root slot got such a copy, or nothing changed as one of the two slots was empty
pub root_filled :
    (m : Machine) (thread : ObjId) (tcb node : SlotRef)
    → RootFilled m thread tcb node ⊎ (with_root m thread tcb node ≡ m)
unfolding with_root
root_filled m thread tcb node = by_caps (cap_of m tcb) (cap_of m node) refl refl where
  by_caps :
      (one other : Option Cap) → cap_of m tcb ≡ one → cap_of m node ≡ other
      → RootFilled m thread tcb node ⊎ (with_root m thread tcb node ≡ m)
  by_caps (Some of) (Some held) e f =
      inl (record { of = of; held = held; thread_held = e; node_held = f; changes = rw (e, f) refl })
  by_caps (Some of) None e f = inr (rw (e, f) refl)
  by_caps None _ e f = inr (rw e refl)
