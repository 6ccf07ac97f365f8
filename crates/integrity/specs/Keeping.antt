-- Keepers: labels that keep capabilities for CNodes, and so may receive, copy, move and make capabilities. A CNode of theirs holds one at
-- boot, or they find one in the space of a keeper, or a keeper may put one into their CNodes (confine's own).
use Rattle.std.specs.Prelude.{ℕ, ◌<◌, ◌≡◌, None, Some, true}
use Rattle.base.specs.declared.{ids.{ObjId.ObjId, SlotRef.SlotRef}, kind.Kind.Kind as authority}
use Rattle.machine.specs.declared.{cap.Cap.Cap, layout.Initial.Initial, object.Object.Object as o}
use Rattle.machine.specs.declared.thread.{Lent.Lent, Receiving.Receiving, RunState.RunState as state, Tcb.Tcb}
use Rattle.machine.specs.{Authority.label_of, Capabilities.kind_of_detail, Layout.{Layout, initial_cap, initial_of}}
use Rattle.machine.specs.{Machine.{Machine, cap_of, object_of}, Objects.kind_of_object, Step.Reply.loan_in, WellFormed.kind_of}
use Rattle.policy.specs.{Domain.EdgeTest, Sharp.{IsSharplyClosed, KeeperTest, MayIdle}}
use Rattle.machine.specs.declared.object.ObjectKind.TheVariants as kind

-- a CNode of the label holds a capability for a CNode at boot
pub record HoldsNode (t : Layout) (a : ℕ) : Type 0 where
  pub slot : SlotRef
  pub held : Cap
  pub filled : initial_cap t slot ≡ Some held
  pub for_node : kind_of_detail held.detail ≡ kind.CNode
  pub holder : Initial
  pub declares : initial_of t slot.holder ≡ Some holder
  pub in_node : kind_of_object holder.object ≡ kind.CNode
  pub labelled : holder.label ≡ a

-- a label may keep one: it holds one at boot, finds one of a label that may keep one, or is controlled by a label that may keep one,
-- which may hand it over
pub data MayKeep (t : Layout) (allowed : EdgeTest) : ℕ → Type 0 where
  holds : {a : ℕ} → HoldsNode t a → MayKeep t allowed a
  finds : {a b : ℕ} → MayKeep t allowed b → allowed a authority.Space b ≡ true → MayKeep t allowed a
  handed : {a b : ℕ} → MayKeep t allowed b → allowed b authority.Control a ≡ true → MayKeep t allowed a

-- a test holds of each label that may keep
abbrev pub HoldsOfKeepers : Layout → EdgeTest → KeeperTest → Type 0
HoldsOfKeepers t allowed keeps = (a : ℕ) → MayKeep t allowed a → keeps a ≡ true

-- each CNode that holds a CNode's capability is of a label that may keep one
abbrev pub KeepersHoldNodes : Layout → EdgeTest → Machine → Type 0
KeepersHoldNodes t allowed m =
    (slot : SlotRef) (held : Cap) → cap_of m slot ≡ Some held → kind_of m slot.holder ≡ Some kind.CNode
    → kind_of_detail held.detail ≡ kind.CNode → (label : ℕ) → label_of t m slot.holder ≡ Some label → MayKeep t allowed label

-- each thread that waits for a message without a context is of a label that may idle
abbrev pub WaitersMayIdle : Layout → EdgeTest → Machine → Type 0
WaitersMayIdle t allowed m =
    (id : ObjId) (thread : Tcb) (receiving : Receiving) → object_of m id ≡ Some (o.Tcb thread) → thread.state ≡ state.Receiving receiving
    → thread.context ≡ None → (label : ℕ) → label_of t m id ≡ Some label → MayIdle allowed label

-- the borrower of a loan has a number that was given out, and a label that may idle
pub record IsIdleBorrower (t : Layout) (allowed : EdgeTest) (m : Machine) (lent : Lent) : Type 0 where
  pub number : lent.borrower.0 < m.next
  pub idles : (label : ℕ) → label_of t m lent.borrower ≡ Some label → MayIdle allowed label

-- each thread to which a context is lent is of a label that may idle
abbrev pub BorrowersMayIdle : Layout → EdgeTest → Machine → Type 0
BorrowersMayIdle t allowed m = (id : ObjId) (lent : Lent) → loan_in (object_of m id) ≡ Some lent → IsIdleBorrower t allowed m lent

-- the policy is sharply closed, and the keepers are the labels that may keep
abbrev pub IsSharp : Layout → EdgeTest → Type 0
IsSharp t allowed = IsSharplyClosed allowed (MayKeep t allowed)
