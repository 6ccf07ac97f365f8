-- Loans of scheduling contexts: what a call lends and an answer gives back, and which thread has the context.
use Rattle.std.{specs.Prelude.{None, Option, Some, if◌then◌else◌}, proofs.Common.{◌∙◌, ◌≡◌, ◌⊎◌, Bool, ap, false, inl, inr, refl, subst}}
use Rattle.std.proofs.{Common.{sym, true}, lemmas.{Bool.{and_parts, false≢true}, Option.{none-some, same_Some}}}
use Rattle.base.specs.declared.ids.ObjId.{ObjId}
use Rattle.machine.specs.{declared.{object.Object.{Object, Object as o}, thread.{Lent.Lent, Tcb.Tcb}}, Machine.{Machine, object_of}}
use Rattle.machine.specs.{Machine.same_id, Step.{Bind.{context_under, with_handed}, Reply.{gives_back, has_on_loan, loan_in}}}
use Rattle.machine.{specs.{Step.{Reply.with_returned, Send.{loan_made, loan}}, WellFormed.{IsThread, IsWellFormed}}, proofs.LookUps.one_id}
use Rattle.steps.proofs.ContextsFormed.{handed_there, with_handed_formed}

-- a caller lends its context to a receiver that has none
pub record Lends (m : Machine) (caller receiver : ObjId) (lent : Lent) : Type 0 where
  pub runs : context_under (object_of m caller) ≡ Some lent.context
  pub free : context_under (object_of m receiver) ≡ None
  pub borrower : lent.borrower ≡ receiver

loan_is :
    (own its : Option ObjId) (borrower : ObjId) (lent : Lent) → loan own its borrower ≡ Some lent
    → (own ≡ Some lent.context) × (its ≡ None) × (lent.borrower ≡ borrower)
loan_is (Some context) None borrower lent e =
    let same : record { context = context; borrower = borrower } ≡ lent = same_Some _ lent e in
    (ap (λ (l : Lent). Some l.context) same, refl, sym (ap (λ (l : Lent). l.borrower) same))
loan_is (Some context) (Some other) borrower lent e = absurd (none-some lent e)
loan_is None its borrower lent e = absurd (none-some lent e)

pub lends :
    (m : Machine) (caller receiver : ObjId) (lent : Lent) → loan_made m caller receiver ≡ Some lent → Lends m caller receiver lent
lends m caller receiver lent e =
    let w = loan_is (context_under (object_of m caller)) (context_under (object_of m receiver)) receiver lent e in
    record { runs = w.0; free = w.1; borrower = w.2 }

-- a thread that answers runs on the context that the called thread lent to it, and the called thread on none
pub record GivesBack (m : Machine) (invoker called : ObjId) : Type 0 where
  pub context : ObjId
  pub runs : context_under (object_of m invoker) ≡ Some context
  pub lent : loan_in (object_of m called) ≡ Some (record { context = context; borrower = invoker })
  pub free : context_under (object_of m called) ≡ None

on_loan :
    (borrower : ObjId) (own : Option ObjId) (lent : Option Lent) (its : Option ObjId) → has_on_loan borrower own lent its ≡ true
    → (context : ObjId) × (own ≡ Some context) × (lent ≡ Some (record { context = context; borrower = borrower })) × (its ≡ None)
on_loan borrower (Some context) (Some lent) None e =
    let parts = and_parts (same_id lent.borrower borrower) (same_id lent.context context) e in
    let whose = one_id lent.borrower borrower parts.0 in
    let what = one_id lent.context context parts.1 in
    (context, refl, (λ i. Some (record { context = what i; borrower = whose i })), refl)
on_loan borrower None lent its e = absurd (false≢true e)
on_loan borrower (Some context) None its e = absurd (false≢true e)
on_loan borrower (Some context) (Some lent) (Some other) e = absurd (false≢true e)

pub gives_back_is : (m : Machine) (invoker called : ObjId) → gives_back m invoker called ≡ true → GivesBack m invoker called
gives_back_is m invoker called e =
    let w =
    on_loan invoker (context_under (object_of m invoker)) (loan_in (object_of m called)) (context_under (object_of m called)) e in
    record { context = w.0; runs = w.1; lent = w.2; free = w.3 }

-- a thread runs on a context
runs_on :
    (content : Option Object) (id : ObjId) → context_under content ≡ Some id
    → (tcb : Tcb) × (content ≡ Some (o.Tcb tcb)) × (tcb.context ≡ Some id)
runs_on (Some (o.Tcb tcb)) id e = (tcb, refl, e)
runs_on None id e = absurd (none-some id e)
runs_on (Some _) id e = absurd (none-some id e)

-- the context is given back, or nothing changes
pub returned_or_same :
    (m : Machine) (invoker called : ObjId)
    → (GivesBack m invoker called × (with_returned m invoker called ≡ with_handed m invoker called))
    ⊎ (with_returned m invoker called ≡ m)
returned_or_same m invoker called = by_test (gives_back m invoker called) refl where
  by_test :
      (gives : Bool) → gives_back m invoker called ≡ gives
      → (GivesBack m invoker called × ((if gives then with_handed m invoker called else m) ≡ with_handed m invoker called))
      ⊎ ((if gives then with_handed m invoker called else m) ≡ m)
  by_test true e = inl (gives_back_is m invoker called e, refl)
  by_test false e = inr refl

pub returned_formed : (m : Machine) (invoker called : ObjId) → IsWellFormed m → IsWellFormed (with_returned m invoker called)
returned_formed m invoker called formed = by_case (returned_or_same m invoker called) where
  by_case :
      (GivesBack m invoker called × (with_returned m invoker called ≡ with_handed m invoker called))
      ⊎ (with_returned m invoker called ≡ m) → IsWellFormed (with_returned m invoker called)
  by_case (inl w) = subst IsWellFormed (sym w.1) (with_handed_formed m invoker called formed (w.0).free)
  by_case (inr same) = subst IsWellFormed (sym same) formed

-- the called thread is as it was, but for its context
pub returned_there :
    (m : Machine) (invoker called : ObjId) (tcb : Tcb) → IsWellFormed m → IsThread m called tcb
    → (link : Option ObjId) × IsThread (with_returned m invoker called) called (record tcb { context = link })
returned_there m invoker called tcb formed there = by_case (returned_or_same m invoker called) where
  by_case :
      (GivesBack m invoker called × (with_returned m invoker called ≡ with_handed m invoker called))
      ⊎ (with_returned m invoker called ≡ m)
      → (link : Option ObjId) × IsThread (with_returned m invoker called) called (record tcb { context = link })
  by_case (inl w) =
      let runner = runs_on (object_of m invoker) (w.0).context (w.0).runs in
      let its = formed.links.thread_context invoker (w.0).context runner.0 runner.1 runner.2 in (
        Some (w.0).context,
        ap (λ (n : Machine). object_of n called) w.1
            ∙ handed_there m invoker (w.0).context called runner.0 its.0 runner.1 runner.2 its.1 (w.0).free tcb there,
      )
  by_case (inr same) = (tcb.context, ap (λ (n : Machine). object_of n called) same ∙ there)
