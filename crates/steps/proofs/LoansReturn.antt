-- That a call and the answer right after it leave each thread on its context: the answer returns what the call lent.
use Rattle.std.{specs.Prelude.{None, Option, Some, if◌then◌else◌, option_map}, proofs.Common.{ℕ, ◌∙◌, ◌≡◌, ◌≢◌, ◌⊎◌, Bool, List, ap, false}}
use Rattle.std.proofs.{Common.{inl, inr, refl, subst, sym, true}, lemmas.{Bool.and_from, Option.{none-some, same_Some}}}
use Rattle.base.specs.declared.ids.ObjId.{ObjId}
use Rattle.machine.specs.{declared.{object.{Context.Context, Object.{Object, Object as o}}, thread.{Lent.Lent, Tcb.Tcb}}, Finalising.halted}
use Rattle.machine.specs.{Machine.{Machine, object_of, same_id}, Releasing.{given, with_called, with_halted, with_released}}
use Rattle.machine.specs.Step.{Bind.{context_under, with_handed}, Reply.{answered, gives_back, has_on_loan, loan_in, with_returned}}
use Rattle.machine.{specs.{Step.Send.{called_through, loan_made, with_lent}, WellFormed.{IsFree, IsThread, IsWellFormed}}, proofs.Ids.itself}
use Rattle.machine.proofs.{Ids.one_or_two, Leaving.freed, LookUps.one_id}
use Rattle.machine.specs.declared.thread.RunState.TheVariants as state
use Rattle.steps.proofs.{ContextsFormed.{handed_from, handed_other, handed_there}, Joins.IsJoined, Lending.{GivesBack, Lends, lends}}
use Rattle.steps.proofs.{Lending.{returned_formed, returned_or_same, returned_there}, MessageRows.{called_through_formed, lending_formed}}
use Rattle.steps.proofs.{MessageRows.{lending_receiver, lending_there, waits_joins}, Releases.released_is}

-- a thread that leaves its queue and its reply keeps its context
freed_under : (thread : ObjId) (content : Option Object) → context_under (option_map (freed thread) content) ≡ context_under content
freed_under thread None = refl
freed_under thread (Some (o.Reply holding)) = refl
freed_under thread (Some _) = refl

released_under :
    (m : Machine) (thread : ObjId) (tcb : Tcb) (change : Tcb → Tcb) → IsWellFormed m → IsThread m thread tcb
    → (change tcb).context ≡ tcb.context
    → (q : ObjId) → context_under (object_of (with_released m thread change) q) ≡ context_under (object_of m q)
released_under m thread tcb change formed there same q =
    ap context_under ((released_is m thread tcb change formed.links there).objects q) ∙ by_tie (same_id q thread) refl where
      by_tie :
          (tie : Bool) → same_id q thread ≡ tie
          → context_under (if tie then Some (o.Tcb (change tcb)) else option_map (freed thread) (object_of m q))
          ≡ context_under (object_of m q)
      by_tie true e =
          same ∙ ap context_under (sym there) ∙ ap (λ (p : ObjId). context_under (object_of m p)) (sym (one_id q thread e))
      by_tie false e = freed_under thread (object_of m q)

-- a thread that begins to wait for an answer keeps its context
module _ (m : Machine) (thread id : ObjId) (lent : Option Lent) (tcb : Tcb) (formed : IsWellFormed m) (there : IsThread m thread tcb)
    (free : IsFree m id) where
  abbrev waiting : Machine
  waiting = with_called (with_halted m thread) thread (record { reply = id; lent = lent })

  joins :
      IsJoined (with_halted m thread) thread (record tcb { state = state.Called (record { reply = id; lent = lent }) }) waiting
  joins = waits_joins m thread id lent tcb formed there free

  stopped : (q : ObjId) → context_under (object_of (with_halted m thread) q) ≡ context_under (object_of m q)
  stopped = released_under m thread tcb halted formed there refl

  waits_under : (q : ObjId) → context_under (object_of waiting q) ≡ context_under (object_of m q)
  waits_under q = by_id (one_or_two q thread) (one_or_two id q) where
    by_id : (q ≡ thread) ⊎ (q ≢ thread) → (id ≡ q) ⊎ (id ≢ q) → context_under (object_of waiting q) ≡ context_under (object_of m q)
    by_id (inl same) named =
        ap (λ (p : ObjId). context_under (object_of waiting p)) same ∙ ap context_under joins.there
        ∙ ap context_under (sym there)
        ∙ ap (λ (p : ObjId). context_under (object_of m p)) (sym same)
    by_id (inr apart) (inl named) =
        let w = joins.named q named in ap context_under w.2 ∙ ap context_under (sym w.1) ∙ stopped q
    by_id (inr apart) (inr not_named) = ap context_under (joins.others q apart not_named) ∙ stopped q

module _ (m : Machine) (caller receiver id : ObjId) (tcb its : Tcb) (words : List ℕ) (formed : IsWellFormed m)
    (there : IsThread m caller tcb) (receives : IsThread m receiver its) (apart : caller ≢ receiver) (free : IsFree m id) where
  abbrev lending : Machine
  lending = with_called (with_halted m caller) caller (record { reply = id; lent = loan_made m caller receiver })

  abbrev lender : Tcb
  lender = record tcb { state = state.Called (record { reply = id; lent = loan_made m caller receiver }) }

  abbrev next : Machine
  next = called_through m caller receiver (Some id)

  abbrev returned : Machine
  returned = with_returned next receiver caller

  abbrev last : Machine
  last = answered next receiver (Some caller) words

  next_formed : IsWellFormed next
  next_formed =
      called_through_formed m caller receiver tcb its formed there receives apart (Some id)
      (λ q e. subst (λ (p : ObjId). IsFree m p) (same_Some id q e) free)

  lending_is : IsThread lending caller lender
  lending_is = lending_there m caller receiver tcb its formed there receives apart id free

  receiver_is : IsThread lending receiver its
  receiver_is = lending_receiver m caller receiver tcb its formed there receives apart id free

  lending_under : (q : ObjId) → context_under (object_of lending q) ≡ context_under (object_of m q)
  lending_under = waits_under m caller id (loan_made m caller receiver) tcb formed there free

  answered_under :
      (now : Tcb) → IsThread next caller now → (q : ObjId) → context_under (object_of last q) ≡ context_under (object_of returned q)
  answered_under now e q =
      let w = returned_there next receiver caller now next_formed e in
      released_under returned caller (record now { context = w.0 })
      (given (record { badge = 0; words = words; capability = false })) (returned_formed next receiver caller next_formed) w.1
      refl q

  none_lent : loan_made m caller receiver ≡ None → (q : ObjId) → context_under (object_of last q) ≡ context_under (object_of m q)
  none_lent e q = answered_under lender next_caller q ∙ by_case (returned_or_same next receiver caller) where
    next_is : next ≡ lending
    next_is = ap (λ (lent : Option Lent). with_lent lending caller lent) e

    next_caller : IsThread next caller lender
    next_caller = ap (λ (n : Machine). object_of n caller) next_is ∙ lending_is

    by_case :
        (GivesBack next receiver caller × (returned ≡ with_handed next receiver caller)) ⊎ (returned ≡ next)
        → context_under (object_of returned q) ≡ context_under (object_of m q)
    by_case (inl w) = absurd (none-some _ (sym (ap loan_in next_caller ∙ e) ∙ (w.0).lent))
    by_case (inr same) = ap (λ (n : Machine). context_under (object_of n q)) (same ∙ next_is) ∙ lending_under q

  -- what is lent is given back
  module _ (lent : Lent) (loans : loan_made m caller receiver ≡ Some lent) where
    made_loan : Lends m caller receiver lent
    made_loan = lends m caller receiver lent loans

    next_is : next ≡ with_handed lending caller receiver
    next_is =
        ap (λ (what : Option Lent). with_lent lending caller what) loans ∙ ap (with_handed lending caller) made_loan.borrower

    runs : lender.context ≡ Some lent.context
    runs = ap context_under (sym there) ∙ made_loan.runs

    receiver_free : context_under (object_of lending receiver) ≡ None
    receiver_free = lending_under receiver ∙ made_loan.free

    lent_there : (context : Context) × (object_of lending lent.context ≡ Some (o.Context context)) × (context.thread ≡ Some caller)
    lent_there =
        (lending_formed m caller receiver tcb its formed there receives apart id free).links.thread_context caller lent.context
        lender lending_is runs

    next_caller : IsThread next caller (record lender { context = None })
    next_caller =
        ap (λ (n : Machine). object_of n caller) next_is
        ∙ handed_from lending caller lent.context receiver lender lent_there.0 lending_is runs lent_there.1 receiver_free its
        receiver_is

    next_receiver : IsThread next receiver (record its { context = Some lent.context })
    next_receiver =
        ap (λ (n : Machine). object_of n receiver) next_is
        ∙ handed_there lending caller lent.context receiver lender lent_there.0 lending_is runs lent_there.1 receiver_free its
        receiver_is

    next_other : (q : ObjId) → q ≢ caller → q ≢ receiver → context_under (object_of next q) ≡ context_under (object_of m q)
    next_other q not_caller not_receiver =
        ap (λ (n : Machine). context_under (object_of n q)) next_is
        ∙ handed_other lending caller lent.context receiver lender lent_there.0 lending_is runs lent_there.1 receiver_free its
        receiver_is q not_caller not_receiver
        ∙ lending_under q

    gives : gives_back next receiver caller ≡ true
    gives =
        (λ i. has_on_loan receiver (context_under (next_receiver i)) (loan_in (next_caller i)) (context_under (next_caller i)))
        ∙ (λ i. has_on_loan receiver (Some lent.context) (loans i) None)
        ∙ and_from (same_id lent.borrower receiver) (same_id lent.context lent.context)
        (ap (λ (p : ObjId). same_id p receiver) made_loan.borrower ∙ itself receiver) (itself lent.context)

    returned_is : returned ≡ with_handed next receiver caller
    returned_is = ap (λ (b : Bool). if b then with_handed next receiver caller else next) gives

    abbrev back : Machine
    back = with_handed next receiver caller

    back_there :
        (context : Context) × (object_of next lent.context ≡ Some (o.Context context)) × (context.thread ≡ Some receiver)
    back_there =
        next_formed.links.thread_context receiver lent.context (record its { context = Some lent.context }) next_receiver refl

    some_lent : (q : ObjId) → context_under (object_of last q) ≡ context_under (object_of m q)
    some_lent q =
        answered_under (record lender { context = None }) next_caller q
        ∙ ap (λ (n : Machine). context_under (object_of n q)) returned_is
        ∙ by_id (one_or_two q caller) (one_or_two q receiver) where
          by_id :
              (q ≡ caller) ⊎ (q ≢ caller) → (q ≡ receiver) ⊎ (q ≢ receiver)
              → context_under (object_of back q) ≡ context_under (object_of m q)
          by_id (inl same) other =
              ap (λ (p : ObjId). context_under (object_of back p)) same
              ∙ ap context_under
              (handed_there next receiver lent.context caller (record its { context = Some lent.context }) back_there.0
              next_receiver refl back_there.1 (ap context_under next_caller) (record lender { context = None }) next_caller)
              ∙ sym made_loan.runs
              ∙ ap (λ (p : ObjId). context_under (object_of m p)) (sym same)
          by_id (inr not_caller) (inl same) =
              ap (λ (p : ObjId). context_under (object_of back p)) same
              ∙ ap context_under
              (handed_from next receiver lent.context caller (record its { context = Some lent.context }) back_there.0
              next_receiver refl back_there.1 (ap context_under next_caller) (record lender { context = None }) next_caller)
              ∙ sym made_loan.free
              ∙ ap (λ (p : ObjId). context_under (object_of m p)) (sym same)
          by_id (inr not_caller) (inr not_receiver) =
              handed_other next receiver lent.context caller (record its { context = Some lent.context }) back_there.0
              next_receiver refl back_there.1 (ap context_under next_caller) (record lender { context = None }) next_caller q
              not_receiver not_caller
              ∙ next_other q not_caller not_receiver

  pub loans_return : (q : ObjId) → context_under (object_of last q) ≡ context_under (object_of m q)
  loans_return q = by_loan (loan_made m caller receiver) refl where
    by_loan :
        (lent : Option Lent) → loan_made m caller receiver ≡ lent → context_under (object_of last q) ≡ context_under (object_of m q)
    by_loan None e = none_lent e q
    by_loan (Some lent) e = some_lent lent e q
