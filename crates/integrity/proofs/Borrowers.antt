-- Loans of contexts: a thread runs on what it lent, a finalised thread lends nothing anew, and a borrower whose label may idle stays one.
use Rattle.std.proofs.{Common.{ℕ, ◌≡◌, ◌≤◌, Bool, Some, ap, arith, cond, false, option_map, true}, lemmas.Option.none-some}
use Rattle.base.specs.declared.{ids.ObjId.ObjId, kind.Kind.Kind as authority}
use Rattle.machine.specs.declared.{object.Object.{Object, Object as o}, thread.{Lent.Lent, RunState.{RunState, RunState as state}, Tcb.Tcb}}
use Rattle.machine.specs.{Authority.{context_lent, label_of, links}, Finalising.{aborted, finalised, halted, is_aborted, is_halted}}
use Rattle.machine.{specs.{Finalising.unbound, Layout.Layout, Machine.Machine, Step.Reply.loan_in}, proofs.RunsLinks.runs_lent}
use Rattle.{policy.specs.Domain.EdgeTest, integrity.specs.Keeping.IsIdleBorrower}

-- what a thread that called lent is among what it runs on
pub lent_back :
    (tcb : Tcb) (run : RunState) (lent : Lent) → loan_in (Some (o.Tcb (record tcb { state = run }))) ≡ Some lent
    → context_lent run ≡ Some lent.context
lent_back tcb (state.Called calling) lent e = ap (option_map (λ (l : Lent). l.context)) e
lent_back tcb _ lent e = absurd (none-some lent e)

pub lender_runs : (object : Object) (lent : Lent) → loan_in (Some object) ≡ Some lent → links object authority.Runs lent.context ≡ true
lender_runs (o.Tcb tcb) lent e = runs_lent tcb lent.context (lent_back tcb tcb.state lent e)
lender_runs _ lent e = absurd (none-some lent e)

-- a thread that lent something did so before it was finalised

halted_lends :
    (vanished : ObjId → Bool) (tcb : Tcb) (halts aborts : Bool) (lent : Lent)
    → loan_in (Some (o.Tcb (unbound vanished (cond halts (halted tcb) (cond aborts (aborted tcb) tcb))))) ≡ Some lent
    → loan_in (Some (o.Tcb tcb)) ≡ Some lent
halted_lends vanished tcb true aborts lent e = absurd (none-some lent e)
halted_lends vanished tcb false true lent e = absurd (none-some lent e)
halted_lends vanished tcb false false lent e = e

pub finalised_lends :
    (m : Machine) (vanished : ObjId → Bool) (object : Object) (lent : Lent)
    → loan_in (Some (finalised m vanished object)) ≡ Some lent → loan_in (Some object) ≡ Some lent
finalised_lends m vanished (o.Tcb tcb) lent e =
    halted_lends vanished tcb (is_halted vanished tcb.state) (is_aborted vanished tcb.state) lent e
finalised_lends m vanished _ lent e = absurd (none-some lent e)

-- a borrower stays one if no number is given back, and has no other label
pub borrower_stays :
    (t : Layout) (allowed : EdgeTest) (m next : Machine) (lent : Lent) → m.next ≤ next.next
    → ((label : ℕ) → label_of t next lent.borrower ≡ Some label → label_of t m lent.borrower ≡ Some label)
    → IsIdleBorrower t allowed m lent → IsIdleBorrower t allowed next lent
borrower_stays t allowed m next lent grows labels before = record {
  number = let below = before.number in omega (arith, below, grows);
  idles = λ label labelled. before.idles label (labels label labelled);
}
