-- Reads by threads, of a word of a frame, the word of a notification or a message at an endpoint; writes of words of frames; and that
-- threads of a label never do so to objects of another (compare the authority to read in 'seL4 Enforces Integrity', section 3; as a law on
-- runs it is confine's own).
use Rattle.std.specs.Prelude.{ℕ, ◌≡◌, ◌≢◌, None, Ok, Option, Some}
use Rattle.base.specs.declared.{ids.{ObjId.ObjId, SlotRef.SlotRef}, kind.Kind.{Kind, Kind as authority}}
use Rattle.machine.specs.declared.{call.{Call.{Call, Call as call}, Event.Event, Outcome.Outcome}, cap.Cap.Cap}
use Rattle.machine.specs.{declared.object.ObjectKind.{ObjectKind, ObjectKind as kind}, Authority.label_of, Layout.Layout}
use Rattle.{machine.specs.{Machine.Machine, Outcomes.IsRefused, Step.{Find.find, Step}}, integrity.specs.Safe.IsReached}

-- the authority by which a call reads or writes, the kind of the object, and the address at which it finds its capability
pub record Use : Type 0 where
  pub authority : Kind
  pub object : ObjectKind
  pub address : ℕ

-- the use by each call that reads, and by the one that writes a word
abbrev pub use_of : Call → Option Use
use_of (call.Read address index) = Some (record { authority = authority.Read; object = kind.Frame; address = address })
use_of (call.Write address index word) = Some (record { authority = authority.Write; object = kind.Frame; address = address })
use_of (call.Poll address) = Some (record { authority = authority.Await; object = kind.Notification; address = address })
use_of (call.Wait address) = Some (record { authority = authority.Await; object = kind.Notification; address = address })
use_of (call.Receive address reply slot) = Some (record { authority = authority.Receive; object = kind.Endpoint; address = address })
use_of _ = None

-- the event's call uses this authority on the object: its thread finds a capability for the object at the call's address
pub record UsesObject (m : Machine) (event : Event) (by : Kind) (id : ObjId) : Type 0 where
  pub usage : Use
  pub uses : use_of event.call ≡ Some usage
  pub so : usage.authority ≡ by
  pub slot : SlotRef
  pub held : Cap
  pub finds : find usage.object m event.thread usage.address ≡ Ok (slot, held)
  pub object : held.object ≡ id

-- in no run does a call of a thread of the label a use this authority on an object of the label l, unless it is refused
abbrev pub NeverUses : Layout → ℕ → Kind → ℕ → Type 0
NeverUses t a by l =
    (m next : Machine) (event : Event) (outcome : Outcome) → IsReached t m → Step m event outcome next → ¬ IsRefused outcome
    → label_of t m event.thread ≡ Some a → (id : ObjId) → label_of t m id ≡ Some l → ¬ UsesObject m event by id

-- threads of the label a neither read, receive, poll nor wait at objects of the label l
pub record NeverReads (t : Layout) (a l : ℕ) : Type 0 where
  pub words : NeverUses t a authority.Read l
  pub messages : NeverUses t a authority.Receive l
  pub signals : NeverUses t a authority.Await l

-- in some run a call of a thread of the label a uses this authority on an object of the label l, and isn't refused
pub record IsUsed (t : Layout) (a : ℕ) (by : Kind) (l : ℕ) : Type 0 where
  pub before : Machine
  pub next : Machine
  pub event : Event
  pub outcome : Outcome
  pub reached : IsReached t before
  pub step : Step before event outcome next
  pub done : ¬ IsRefused outcome
  pub caller : label_of t before event.thread ≡ Some a
  pub id : ObjId
  pub labelled : label_of t before id ≡ Some l
  pub uses : UsesObject before event by id

-- threads of the label a write no frame of a label whose frames threads of the label l read, except frames of l itself
abbrev pub NeverPassesMemory : Layout → ℕ → ℕ → Type 0
NeverPassesMemory t a l = (region : ℕ) → region ≢ l → IsUsed t a authority.Write region → ¬ IsUsed t l authority.Read region
