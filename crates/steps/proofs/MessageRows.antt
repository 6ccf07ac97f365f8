-- That send, call, receive, reply and fetch keep a machine well formed, and that the machines between are well formed too.
use Rattle.std.{specs.Prelude.{None, Option, Some, if◌then◌else◌, is_ok, option_map}, proofs.Common.{ℕ, ◌∙◌, ◌≡◌, ◌≢◌, Bool, List, ap}}
use Rattle.{std.proofs.{Common.{false, inl, inr, refl, subst, sym, true}, lemmas.Option.none-some}, base.specs.declared.ids.ObjId.ObjId}
use Rattle.machine.specs.declared.{object.{Object.Object as o, ObjectKind.ObjectKind as kind}, slot_address.SlotAddress.SlotAddress}
use Rattle.machine.specs.declared.thread.{Calling.Calling, Lent.Lent, Message.Message, Receiving.Receiving, RunState.RunState}
use Rattle.machine.specs.{declared.thread.{Sending.Sending, Tcb.Tcb}, Finalising.halted, Machine.{Machine, object_of}}
use Rattle.machine.specs.{Objects.kind_of_object, Releasing.{given, ready, with_called, with_given, with_halted, with_ready}}
use Rattle.machine.specs.Step.{Bind.context_under, Deliver.{answer_through, arrival_of, delivered, linked, message_of, sending_by, sent}}
use Rattle.machine.specs.Step.{Deliver.with_arrival, Receive.with_reply_ended, Reply.with_returned, Send.called_through}
use Rattle.machine.specs.{Step.Send.{loan_made, with_lent}, WellFormed.{IsFree, IsIdle, IsReceivingWith, IsThread, IsWellFormed}}
use Rattle.steps.proofs.{Admission.IsCaller, Arrival.{arrival_formed, arrival_same}}
use Rattle.steps.proofs.Beside.{ended_endpoint, ended_formed, ended_free, ended_idle, free_stays, leaver_now, named_free, other_stays}
use Rattle.steps.proofs.{ContextsFormed.with_handed_formed, EndpointRow.{IsReceiver, IsSender}, FetchRow.FetchDone, Finding.found_kind}
use Rattle.steps.proofs.{FoundObjects.reply_of_kind, Joins.{IsJoined, called_joins}, Lending.{lends, returned_formed}}
use Rattle.steps.proofs.MessageFormed.{awaiting_formed, blocked_formed, called_formed, emptied_formed, given_formed, released_formed}
use Rattle.steps.proofs.{ReceiveRow.ReceiveDone, ReplyRow.ReplyDone, SendRow.{EndpointCallDone, SendDone}}
use Rattle.machine.specs.declared.object.ReplyState.TheVariants as reply
use Rattle.machine.specs.declared.thread.RunState.TheVariants as state

-- a caller waits for nothing
pub caller_idle : (m : Machine) (caller : ObjId) (is : IsCaller m caller) → IsIdle is.thread.state
caller_idle m caller is = subst IsIdle (sym is.ready) tt

-- a halted thread is there and waits for nothing, and a free reply stays free
pub halted_between :
    (m : Machine) (thread : ObjId) (tcb : Tcb) → IsWellFormed m → IsThread m thread tcb
    → IsWellFormed (with_halted m thread) × IsThread (with_halted m thread) thread (halted tcb) × IsIdle (halted tcb).state
    × ((id : ObjId) → IsFree m id → IsFree (with_halted m thread) id)
halted_between m thread tcb formed there = (
  released_formed m thread tcb halted formed there refl refl tt,
  leaver_now m thread tcb halted formed.links there,
  tt,
  free_stays m thread tcb halted formed.links there,
)

-- a halted thread begins to wait for an answer through that reply, with what it lends
module _ (m : Machine) (thread id : ObjId) (lent : Option Lent) (tcb : Tcb) (formed : IsWellFormed m)
    (there : IsThread m thread tcb) (free : IsFree m id) where
  abbrev calling : Calling
  calling = record { reply = id; lent = lent }

  abbrev stopped : Machine
  stopped = with_halted m thread

  abbrev waits : Machine
  waits = with_called stopped thread calling

  stopped_there : IsThread stopped thread (halted tcb)
  stopped_there = (halted_between m thread tcb formed there).1

  stopped_free : IsFree stopped id
  stopped_free = (halted_between m thread tcb formed there).3 id free

  pub waits_formed : IsWellFormed waits
  waits_formed =
      called_formed stopped thread calling (halted tcb) (halted_between m thread tcb formed there).0 stopped_there tt stopped_free

  pub waits_joins : IsJoined stopped thread (record tcb { state = state.Called calling }) waits
  waits_joins = called_joins stopped thread calling (halted tcb) stopped_free.0 stopped_there stopped_free.1

  -- the thread keeps its context
  pub waits_there : IsThread waits thread (record tcb { state = state.Called calling })
  waits_there = waits_joins.there

  -- each other thread is as it was
  pub waits_other : (other : ObjId) (its : Tcb) → other ≢ thread → IsThread m other its → IsThread waits other its
  waits_other other its apart e =
      let stays = other_stays m thread tcb halted formed.links there other its apart e in
      waits_joins.others other apart
      (λ same.
      let one : Some (o.Tcb its) ≡ Some (o.Reply (record { address = stopped_free.0; state = reply.Free })) =
      sym stays ∙ ap (object_of stopped) (sym same) ∙ stopped_free.1 in
      cc)
      ∙ stays

-- the call of a thread was delivered
pub linked_formed :
    (m : Machine) (thread : ObjId) (tcb : Tcb) (through : Option ObjId) → IsWellFormed m → IsThread m thread tcb
    → ((id : ObjId) → through ≡ Some id → IsFree m id) → IsWellFormed (linked m thread through)
linked_formed m thread tcb None formed there free = (halted_between m thread tcb formed there).0
linked_formed m thread tcb (Some id) formed there free = waits_formed m thread id None tcb formed there (free id refl)

-- the call of a thread was delivered, and the thread lends its context to the receiver
module _ (m : Machine) (caller receiver : ObjId) (tcb its : Tcb) (formed : IsWellFormed m) (there : IsThread m caller tcb)
    (receives : IsThread m receiver its) (apart : caller ≢ receiver) where
  -- the thread waits for its answer, and still has its context
  abbrev pub lending : ObjId → Machine
  lending id = with_called (with_halted m caller) caller (record { reply = id; lent = loan_made m caller receiver })

  module _ (id : ObjId) (free : IsFree m id) where
    pub lending_formed : IsWellFormed (lending id)
    lending_formed = waits_formed m caller id (loan_made m caller receiver) tcb formed there free

    pub lending_there :
        IsThread (lending id) caller
        (record tcb { state = state.Called (record { reply = id; lent = loan_made m caller receiver }) })
    lending_there = waits_there m caller id (loan_made m caller receiver) tcb formed there free

    pub lending_receiver : IsThread (lending id) receiver its
    lending_receiver =
        waits_other m caller id (loan_made m caller receiver) tcb formed there free receiver its (λ same. apart (sym same))
        receives

    module _ (lent : Lent) (loans : loan_made m caller receiver ≡ Some lent) where
      pub lending_runs : context_under (object_of (lending id) caller) ≡ Some lent.context
      lending_runs =
          ap context_under lending_there ∙ ap context_under (sym there) ∙ (lends m caller receiver lent loans).runs

      pub lending_free : context_under (object_of (lending id) lent.borrower) ≡ None
      lending_free =
          ap (λ (q : ObjId). context_under (object_of (lending id) q)) (lends m caller receiver lent loans).borrower
          ∙ ap context_under lending_receiver
          ∙ ap context_under (sym receives)
          ∙ (lends m caller receiver lent loans).free

  pub called_through_formed :
      (through : Option ObjId) → ((id : ObjId) → through ≡ Some id → IsFree m id)
      → IsWellFormed (called_through m caller receiver through)
  called_through_formed None free = (halted_between m caller tcb formed there).0
  called_through_formed (Some id) free = by_loan (loan_made m caller receiver) refl where
    by_loan : (lent : Option Lent) → loan_made m caller receiver ≡ lent → IsWellFormed (with_lent (lending id) caller lent)
    by_loan None e = lending_formed id (free id refl)
    by_loan (Some lent) e =
        with_handed_formed (lending id) caller lent.borrower (lending_formed id (free id refl))
        (lending_free id (free id refl) lent e)

-- an answer goes through the reply that was named, or through none
pub answers_through :
    (sending : Sending) (named : Option ObjId) (id : ObjId) → answer_through sending named ≡ Some id → named ≡ Some id
answers_through sending named id e = by_leave sending.can_reply refl where
  by_leave : (leave : Bool) → sending.can_reply ≡ leave → named ≡ Some id
  by_leave true is = sym (ap (λ (b : Bool). if b then named else None) is) ∙ e
  by_leave false is = absurd (none-some id (sym (ap (λ (b : Bool). if b then named else None) is) ∙ e))

-- the message of a thread was delivered
pub sent_formed :
    (m : Machine) (sender : ObjId) (tcb : Tcb) (sending : Sending) (named : Option ObjId) → IsWellFormed m
    → IsThread m sender tcb → ((id : ObjId) → named ≡ Some id → IsFree m id) → IsWellFormed (sent m sender sending named)
sent_formed m sender tcb sending named formed there free = by_call sending.is_call where
  by_call :
      (call : Bool)
      → IsWellFormed (if call then linked m sender (answer_through sending named) else with_ready m sender)
  by_call true =
      linked_formed m sender tcb (answer_through sending named) formed there
      (λ id e. free id (answers_through sending named id e))
  by_call false = released_formed m sender tcb ready formed there refl refl tt

-- a message is delivered

module _ (m : Machine) (sender : ObjId) (sending : Sending) (id receiver : ObjId) (receiving : Receiving)
    (formed : IsWellFormed m) (is : IsReceiver m id receiver receiving) where
  abbrev mid : Machine
  mid = with_arrival m (arrival_of m sender sending receiver receiving.slot)

  abbrev message : Message
  message = message_of sending (is_ok (arrival_of m sender sending receiver receiving.slot))

  pub arrived_formed : IsWellFormed mid
  arrived_formed = arrival_formed m sender sending receiver receiving.slot formed

  pub arrived_there : IsThread mid receiver is.tcb
  arrived_there = (arrival_same m sender sending receiver receiving.slot formed receiver).0 ∙ is.there

  pub delivered_is : delivered m sender sending receiver receiving ≡ with_given mid receiver message
  unfolding delivered
  delivered_is = refl

  pub delivered_formed : IsWellFormed (delivered m sender sending receiver receiving)
  delivered_formed =
      subst IsWellFormed (sym delivered_is)
      (released_formed mid receiver is.tcb (given message) arrived_formed arrived_there refl refl tt)

  -- the receiver has the message
  pub delivered_there : IsThread (delivered m sender sending receiver receiving) receiver (given message is.tcb)
  delivered_there =
      subst (λ (n : Machine). IsThread n receiver (given message is.tcb)) (sym delivered_is)
      (leaver_now mid receiver is.tcb (given message) arrived_formed.links arrived_there)

  -- each other thread is as it was
  pub delivered_other :
      (other : ObjId) (its : Tcb) → other ≢ receiver → IsThread m other its
      → IsThread (delivered m sender sending receiver receiving) other its
  delivered_other other its apart e =
      subst (λ (n : Machine). IsThread n other its) (sym delivered_is)
      (other_stays mid receiver is.tcb (given message) arrived_formed.links arrived_there other its apart
      ((arrival_same m sender sending receiver receiving.slot formed other).0 ∙ e))

  -- the reply that the receiver named is free
  pub delivered_free :
      (named : ObjId) → receiving.reply ≡ Some named → IsFree (delivered m sender sending receiver receiving) named
  delivered_free named e =
      subst (λ (n : Machine). IsFree n named) (sym delivered_is)
      (named_free mid receiver is.tcb (given message) arrived_formed.links arrived_there named
      (subst (λ (run : RunState). IsReceivingWith run named) (sym is.state) e))

-- a caller doesn't wait to receive
pub caller_apart :
    (m : Machine) (caller id receiver : ObjId) (receiving : Receiving) → IsCaller m caller → IsReceiver m id receiver receiving
    → caller ≢ receiver
caller_apart m caller id receiver receiving is waits same =
    let one : Some (o.Tcb is.thread) ≡ Some (o.Tcb waits.tcb) = sym is.there ∙ ap (object_of m) same ∙ waits.there in
    let tcbs : is.thread ≡ waits.tcb = cc in
    let two : state.Ready ≡ state.Receiving receiving = sym is.ready ∙ ap (λ (t : Tcb). t.state) tcbs ∙ waits.state in
    cc

pub send_formed :
    (m : Machine) (caller : ObjId) (address : ℕ) (words : List ℕ) (capability : Option ℕ) (next : Machine) → IsWellFormed m
    → IsCaller m caller → SendDone m caller address words capability next → IsWellFormed next
send_formed m caller address words capability next formed is done =
    let sending : Sending = sending_by done.open_to.id done.open_to.end false words capability in
    elim done.changes as (λ _. IsWellFormed next) [
      | inl w ↦ subst IsWellFormed (sym w.3) (delivered_formed m caller sending done.open_to.id w.0 w.1 formed w.2)
      | inr w ↦ subst IsWellFormed (sym w.1)
          (blocked_formed m caller done.open_to.id is.thread (state.Sending sending) kind.Endpoint formed is.there
          (caller_idle m caller is) (ap (option_map kind_of_object) done.open_to.there) refl tt (λ named none. none) w.0)
    ]

pub endpoint_call_formed :
    (m : Machine) (caller : ObjId) (address : ℕ) (words : List ℕ) (capability : Option ℕ) (next : Machine) → IsWellFormed m
    → IsCaller m caller → EndpointCallDone m caller address words capability next → IsWellFormed next
endpoint_call_formed m caller address words capability next formed is done =
    let sending : Sending = sending_by done.open_to.id done.open_to.end true words capability in
    elim done.changes as (λ _. IsWellFormed next) [
      | inl w ↦ subst IsWellFormed (sym w.3)
          (called_through_formed (delivered m caller sending w.0 w.1) caller w.0 is.thread _
          (delivered_formed m caller sending done.open_to.id w.0 w.1 formed w.2)
          (delivered_other m caller sending done.open_to.id w.0 w.1 formed w.2 caller is.thread
          (caller_apart m caller done.open_to.id w.0 w.1 is w.2) is.there)
          (delivered_there m caller sending done.open_to.id w.0 w.1 formed w.2)
          (caller_apart m caller done.open_to.id w.0 w.1 is w.2) (answer_through sending w.1.reply)
          (λ named e.
          delivered_free m caller sending done.open_to.id w.0 w.1 formed w.2 named (answers_through sending w.1.reply named e)))
      | inr w ↦ subst IsWellFormed (sym w.1)
          (blocked_formed m caller done.open_to.id is.thread (state.Sending sending) kind.Endpoint formed is.there
          (caller_idle m caller is) (ap (option_map kind_of_object) done.open_to.there) refl tt (λ named none. none) w.0)
    ]

-- the machines between in a receive

module _ (m : Machine) (caller : ObjId) (address : ℕ) (named : Option ℕ) (slot : Option SlotAddress) (next : Machine)
    (formed : IsWellFormed m) (done : ReceiveDone m caller address named slot next) where
  abbrev ended : Machine
  ended = with_reply_ended m done.reply

  pub received_ended_formed : IsWellFormed ended
  received_ended_formed = ended_formed m done.reply formed

  -- the reply that the receiver names is free
  pub received_free : (id : ObjId) → done.reply ≡ Some id → IsFree ended id
  received_free =
      ended_free m done.reply formed
      (λ id e. reply_of_kind (object_of m id) (found_kind formed (done.finds_reply id e).1))

  -- the caller is as it was
  pub received_caller : (is : IsCaller m caller) → IsThread ended caller is.thread
  received_caller is = ended_idle m done.reply formed.links caller is.thread is.there (caller_idle m caller is)

  -- the endpoint is as it was
  pub received_endpoint : object_of ended done.open_to.id ≡ Some (o.Endpoint done.open_to.endpoint)
  received_endpoint = ended_endpoint m done.reply formed.links done.open_to.id done.open_to.endpoint done.open_to.there

  -- a capability arrives from a sender
  module _ (sender : ObjId) (sending : Sending) (is : IsSender ended done.open_to.id sender sending) where
    abbrev arrived : Machine
    arrived = with_arrival ended (arrival_of ended sender sending caller slot)

    pub received_arrived_formed : IsWellFormed arrived
    received_arrived_formed = arrival_formed ended sender sending caller slot received_ended_formed

    pub received_sender : IsThread arrived sender is.tcb
    received_sender = (arrival_same ended sender sending caller slot received_ended_formed sender).0 ∙ is.there

    pub received_arrived_free : (id : ObjId) → done.reply ≡ Some id → IsFree arrived id
    received_arrived_free id e =
        let w = received_free id e in (w.0, (arrival_same ended sender sending caller slot received_ended_formed id).0 ∙ w.1)

    pub received_sent_formed : IsWellFormed (sent arrived sender sending done.reply)
    received_sent_formed =
        sent_formed arrived sender is.tcb sending done.reply received_arrived_formed received_sender received_arrived_free

pub receive_formed :
    (m : Machine) (caller : ObjId) (address : ℕ) (named : Option ℕ) (slot : Option SlotAddress) (next : Machine) → IsWellFormed m
    → IsCaller m caller → ReceiveDone m caller address named slot next → IsWellFormed next
receive_formed m caller address named slot next formed is done =
    elim done.changes as (λ _. IsWellFormed next) [
      | inl w ↦ subst IsWellFormed (sym w.3) (received_sent_formed m caller address named slot next formed done w.0 w.1 w.2)
      | inr w ↦ subst IsWellFormed (sym w.1)
          (awaiting_formed (with_reply_ended m done.reply) caller is.thread
          (record { endpoint = done.open_to.id; reply = done.reply; slot = slot })
          (received_ended_formed m caller address named slot next formed done)
          (received_caller m caller address named slot next formed done is) (caller_idle m caller is)
          (ap (option_map kind_of_object) (received_endpoint m caller address named slot next formed done)) w.0
          (received_free m caller address named slot next formed done))
    ]

pub reply_formed :
    (m : Machine) (caller : ObjId) (address : ℕ) (words : List ℕ) (next : Machine) → IsWellFormed m
    → ReplyDone m caller address words next → IsWellFormed next
reply_formed m caller address words next formed done =
    elim done.changes as (λ _. IsWellFormed next) [
      | inl w ↦ subst IsWellFormed (sym w.3)
          (given_formed (with_returned m caller w.0) w.0 (record { badge = 0; words = words; capability = false })
          (returned_formed m caller w.0 formed))
      | inr same ↦ subst IsWellFormed (sym same) formed
    ]

pub fetch_formed :
    (m : Machine) (caller : ObjId) (next : Machine) → IsWellFormed m → IsCaller m caller → FetchDone m caller next
    → IsWellFormed next
fetch_formed m caller next formed is done =
    subst IsWellFormed (sym done.changes) (emptied_formed m caller is.thread formed is.there (caller_idle m caller is))
