-- Systems on which a property of the headline fails, since their policies lack an edge or break a rule (confine's own).
use Rattle.std.specs.Prelude.{ℕ, ◌≡◌, ◌≢◌, List, Ok, Some, false}
use Rattle.base.specs.declared.{edge.Edge.Edge, ids.{ObjId.ObjId, SlotRef.SlotRef}, kind.Kind.Kind as authority}
use Rattle.machine.specs.declared.call.{Answer.TheVariants.Nothing, Call.TheVariants.Signal, Event.Event, Outcome.TheVariants.Done}
use Rattle.machine.specs.declared.{cap.Cap.Cap, object.{Object.Object, ObjectKind.TheVariants.Notification}}
use Rattle.machine.specs.{Authority.label_of, Boot.IsBoot, Layout.Layout, Machine.{Machine, with_object}, Step.{Find.find, Step}}
use Rattle.{table.specs.Rules.IsLawful, policy.specs.{Domain.EdgeTest, Needed.{Obeys, ObeysSharply, Rule}, Policy.{IsPolicy, allows}}}
use Rattle.integrity.specs.{Allowed.IsAllowedStep, Confined.IsConfined, Keeping.MayKeep}
use Rattle.integrity.specs.Safe.{GuardsBudgets, KeepsIntegrity, LabelsObjects, StaysConfined}

-- from the boot state of a lawful table a thread signals a notification, and the signal is done; a policy lacks the edge of
-- kind notify from the thread's label to the notification's, and doesn't allow the step
pub record UnallowedSignal : Type 0 where
  pub t : Layout
  pub allowed : EdgeTest
  pub m : Machine
  pub next : Machine
  pub event : Event
  pub address : ℕ
  pub slot : SlotRef
  pub held : Cap
  pub caller : ℕ
  pub label : ℕ
  pub lawful : IsLawful t
  pub booted : IsBoot t m
  pub signals : event.call ≡ Signal address
  pub found : find Notification m event.thread address ≡ Ok (slot, held)
  pub done : Step m event (Done Nothing) next
  pub calls : label_of t m event.thread ≡ Some caller
  pub labelled : label_of t m held.object ≡ Some label
  pub missing : allowed caller authority.Notify label ≡ false
  pub not_allowed : ¬ IsAllowedStep t allowed m event next

-- the headline holds of every run: all that a safe system keeps, whichever labels act
pub record HoldsHeadline (t : Layout) (allowed : EdgeTest) : Type 0 where
  pub labelled : LabelsObjects t
  pub confined : StaysConfined t allowed
  pub integrity : KeepsIntegrity t allowed
  pub budgets : GuardsBudgets t allowed

-- a lawful table and a policy that obeys every rule of closed policies but one; the table's boot state is confined, and the
-- headline doesn't hold
pub record UnsafeWithout (rule : Rule) : Type 0 where
  pub t : Layout
  pub edges : List Edge
  pub lawful : IsLawful t
  pub policy : IsPolicy edges
  pub others : (other : Rule) → other ≢ rule → Obeys (allows edges) other
  pub confined : (boot : Machine) → IsBoot t boot → IsConfined t (allows edges) boot
  pub unsafe : ¬ HoldsHeadline t (allows edges)

-- a lawful table and a policy that obeys every sharp rule but one, where the keepers are the labels that may keep; the table's boot state
-- is confined, and the headline doesn't hold
pub record SharplyUnsafeWithout (rule : Rule) : Type 0 where
  pub t : Layout
  pub edges : List Edge
  pub lawful : IsLawful t
  pub policy : IsPolicy edges
  pub others : (other : Rule) → other ≢ rule → ObeysSharply (allows edges) (MayKeep t (allows edges)) other
  pub confined : (boot : Machine) → IsBoot t boot → IsConfined t (allows edges) boot
  pub unsafe : ¬ HoldsHeadline t (allows edges)

-- in some system a state lies in a policy where an object has the lesser content, and doesn't where it has the greater, and nothing
-- else differs
pub record TakesOut (lesser greater : Object) : Type 0 where
  pub t : Layout
  pub allowed : EdgeTest
  pub m : Machine
  pub id : ObjId
  pub within : IsConfined t allowed (with_object m id lesser)
  pub out : ¬ (IsConfined t allowed (with_object m id greater))
