-- The effect of a suspend or resume that isn't refused: the thread that it found, and the machine after it.
use Rattle.std.{specs.Prelude.Ok, proofs.Common.{ℕ, ◌≡◌, ap, sym}}
use Rattle.base.specs.declared.ids.ObjId.{ObjId}
use Rattle.machine.specs.{declared.{call.Made.Made, cap.Detail.Detail as d}, Machine.Machine, Releasing.with_suspended, Step.Find.find}
use Rattle.machine.specs.declared.object.ObjectKind.TheVariants as kind
use Rattle.machine.specs.Step.Suspend.{resume_of, suspend_of, with_resumed}
use Rattle.steps.proofs.{Conditions.{both_done, same_ok}, Finding.{FindsObject, finds}}

pub record SuspendDone (m : Machine) (caller : ObjId) (address : ℕ) (next : Machine) : Type 0 where
  pub thread : ObjId
  pub finds : FindsObject m caller address thread d.Tcb
  pub changes : next ≡ with_suspended m thread

pub suspend_done :
    (m : Machine) (caller : ObjId) (address : ℕ) (made : Made) (next : Machine) → suspend_of m caller address ≡ Ok (made, next)
    → SuspendDone m caller address next
unfolding suspend_of
suspend_done m caller address made next e =
    let found = both_done (find kind.Tcb m caller address) _ (made, next) e in
    record {
      thread = (found.0).1.object;
      finds = finds kind.Tcb m caller address found.0 found.1;
      changes = sym (ap (λ p. p.1) (same_ok found.2));
    }

pub record ResumeDone (m : Machine) (caller : ObjId) (address : ℕ) (next : Machine) : Type 0 where
  pub thread : ObjId
  pub finds : FindsObject m caller address thread d.Tcb
  pub changes : next ≡ with_resumed m thread

pub resume_done :
    (m : Machine) (caller : ObjId) (address : ℕ) (made : Made) (next : Machine) → resume_of m caller address ≡ Ok (made, next)
    → ResumeDone m caller address next
unfolding resume_of
resume_done m caller address made next e =
    let found = both_done (find kind.Tcb m caller address) _ (made, next) e in
    record {
      thread = (found.0).1.object;
      finds = finds kind.Tcb m caller address found.0 found.1;
      changes = sym (ap (λ p. p.1) (same_ok found.2));
    }
