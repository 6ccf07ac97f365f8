-- The two threads of a call that was delivered: they differ, and the reply that the receiver named holds nobody, so the caller's context
-- may be handed over if it is lent.
use Rattle.std.{specs.Prelude.{None, Some, option_map}, proofs.{Common.{◌∙◌, ◌≡◌, ◌≢◌, ap, sym}, lemmas.Option.none-some}}
use Rattle.base.specs.declared.ids.ObjId.{ObjId}
use Rattle.machine.specs.declared.{object.ObjectKind.ObjectKind as kind, thread.{Lent.Lent, Receiving.Receiving, Sending.Sending, Tcb.Tcb}}
use Rattle.machine.specs.{Machine.{Machine, object_of}, Objects.kind_of_object, Releasing.{with_called, with_halted}}
use Rattle.machine.specs.Step.{Bind.context_under, Deliver.{answer_through, delivered, first_at, receiver_in}, Send.loan_made}
use Rattle.machine.specs.WellFormed.{IsCaller, IsFree, IsThread, IsWellFormed, kind_of}
use Rattle.steps.proofs.{EndpointRow.{IsReceiver, receiver_first}, FoundObjects.tcb_of_kind, Lending.lends, MessageRows.answers_through}
use Rattle.steps.proofs.MessageRows.{caller_apart, delivered_free, delivered_other, delivered_there, lending_free, lending_receiver}
use Rattle.steps.proofs.MessageRows.{lending_runs}

module _ (m : Machine) (caller : ObjId) (sending : Sending) (receiver : ObjId) (receiving : Receiving) (formed : IsWellFormed m)
    (is : IsCaller m caller) (first : receiver_in (first_at m sending.endpoint) ≡ Some (receiver, receiving)) where
  waits : IsReceiver m sending.endpoint receiver receiving
  waits = receiver_first m sending.endpoint formed receiver receiving first

  pub apart : caller ≢ receiver
  apart = caller_apart m caller sending.endpoint receiver receiving is waits

  pub caller_there : kind_of (delivered m caller sending receiver receiving) caller ≡ Some kind.Tcb
  caller_there =
      ap (option_map kind_of_object)
      (delivered_other m caller sending sending.endpoint receiver receiving formed waits caller is.thread apart is.there)

  pub receiver_there : kind_of (delivered m caller sending receiver receiving) receiver ≡ Some kind.Tcb
  receiver_there =
      ap (option_map kind_of_object) (delivered_there m caller sending sending.endpoint receiver receiving formed waits)

  pub reply_free :
      (id : ObjId) → answer_through sending receiving.reply ≡ Some id → IsFree (delivered m caller sending receiver receiving) id
  reply_free id e =
      delivered_free m caller sending sending.endpoint receiver receiving formed waits id
      (answers_through sending receiving.reply id e)

module _ (m : Machine) (caller receiver id : ObjId) (formed : IsWellFormed m) (caller_is : kind_of m caller ≡ Some kind.Tcb)
    (receiver_is : kind_of m receiver ≡ Some kind.Tcb) (apart : caller ≢ receiver) (free : IsFree m id) (lent : Lent)
    (loans : loan_made m caller receiver ≡ Some lent) where
  abbrev lending : Machine
  lending = with_called (with_halted m caller) caller (record { reply = id; lent = loan_made m caller receiver })

  tcb : (thread : Tcb) × IsThread m caller thread
  tcb = tcb_of_kind (object_of m caller) caller_is

  its : (thread : Tcb) × IsThread m receiver thread
  its = tcb_of_kind (object_of m receiver) receiver_is

  pub lender_runs : context_under (object_of lending caller) ≢ None
  lender_runs none =
      none-some lent.context
      (sym none ∙ lending_runs m caller receiver tcb.0 its.0 formed tcb.1 its.1 apart id free lent loans)

  pub borrower_there : kind_of lending lent.borrower ≡ Some kind.Tcb
  borrower_there =
      ap (kind_of lending) (lends m caller receiver lent loans).borrower
      ∙ ap (option_map kind_of_object) (lending_receiver m caller receiver tcb.0 its.0 formed tcb.1 its.1 apart id free)

  pub borrower_free : context_under (object_of lending lent.borrower) ≡ None
  borrower_free = lending_free m caller receiver tcb.0 its.0 formed tcb.1 its.1 apart id free lent loans
