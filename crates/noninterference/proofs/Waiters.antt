-- Threads that wait where a label receives or calls: the label sees them, so they are the same in two machines that are alike to it.
use Rattle.std.{specs.Prelude.Some, proofs.Common.{ℕ, ◌∙◌, ◌≡◌, subst, sym, true}}
use Rattle.base.specs.declared.{ids.ObjId.ObjId, kind.Kind.Kind as authority}
use Rattle.machine.specs.declared.{object.Object.Object as o, thread.{Receiving.Receiving, Sending.Sending, Tcb.Tcb}}
use Rattle.machine.specs.{Authority.label_of, Layout.Layout, Machine.Machine, WellFormed.IsThread}
use Rattle.{steps.proofs.EndpointRow.{IsReceiver, IsSender}, policy.specs.{Change.ActorTest, Domain.EdgeTest}}
use Rattle.integrity.{specs.{Invariant.IsSound, Shrinks.{IsBlocked, IsSame}}, proofs.Asleep.blocked_acts}
use Rattle.integrity.proofs.{Awake.has_threads, Keeps.some_event, MessageParts.{receiver_receives, sender_sends}, Runs.IsKept}
use Rattle.{flows.specs.Seeing.WayToSee.{receivers, senders}, noninterference.proofs.Both.{AreBoth, seen_same}}

module _ (t : Layout) (allowed : EdgeTest) (acts : ActorTest) (a : ℕ) (m n : Machine) (both : AreBoth t allowed acts a m n) where
  -- the label of a thread that is blocked acts
  pub blocked_acting :
      (x : Machine) → IsSound t allowed x → IsKept t allowed x → (thread : ObjId) (tcb : Tcb) → IsThread x thread tcb → IsBlocked tcb.state
      → (label : ℕ) → label_of t x thread ≡ Some label → acts label ≡ true
  blocked_acting x sound kept thread tcb there blocked label labelled =
      both.actors label (blocked_acts t allowed x thread tcb kept.others there blocked label labelled)
      (has_threads t x sound.of_table thread tcb there label labelled)

  -- a thread that waits to send where the label receives is the same in both

  pub sender_same :
      (id sender : ObjId) (sending : Sending) (e : ℕ) → label_of t m id ≡ Some e → allowed a authority.Receive e ≡ true
      → IsSender m id sender sending → IsSame m n sender
  sender_same id sender sending e labelled edge is =
      let l = both.one.of_table.labelled sender (o.Tcb is.tcb) is.there in
      seen_same t allowed acts a m n both sender l.0 l.1
      (senders e edge (sender_sends t allowed m (some_event sender) a m both.one id sender sending is l.0 e l.1 labelled)
      (blocked_acting m both.one both.kept sender is.tcb is.there (subst IsBlocked (sym is.state) tt) l.0 l.1))

  pub sender_same_too :
      (id sender : ObjId) (sending : Sending) (e : ℕ) → label_of t m id ≡ Some e → allowed a authority.Receive e ≡ true
      → IsSender n id sender sending → IsSame m n sender
  sender_same_too id sender sending e labelled edge is =
      let l = both.other.of_table.labelled sender (o.Tcb is.tcb) is.there in
      seen_same t allowed acts a m n both sender l.0 (sym (both.labels sender) ∙ l.1)
      (senders e edge
      (sender_sends t allowed n (some_event sender) a n both.other id sender sending is l.0 e l.1 (both.labels id ∙ labelled))
      (blocked_acting n both.other both.kept_too sender is.tcb is.there (subst IsBlocked (sym is.state) tt) l.0 l.1))

  -- a thread that waits to receive where the label calls is the same in both
  pub receiver_same :
      (id receiver : ObjId) (receiving : Receiving) (e : ℕ) → label_of t m id ≡ Some e → allowed a authority.Call e ≡ true
      → IsReceiver m id receiver receiving → IsSame m n receiver
  receiver_same id receiver receiving e labelled edge is =
      let l = both.one.of_table.labelled receiver (o.Tcb is.tcb) is.there in
      seen_same t allowed acts a m n both receiver l.0 l.1
      (receivers e edge (receiver_receives t allowed m (some_event receiver) a m both.one id receiver receiving is l.0 l.1 e labelled)
      (blocked_acting m both.one both.kept receiver is.tcb is.there (subst IsBlocked (sym is.state) tt) l.0 l.1))
