-- That the loop keeps exactly the labels that have no thread.
use Rattle.std.proofs.Common.{ℕ, ◌∙◌, Bool, ap, arith, not, sym}
use Rattle.summary.{specs.Labelled.has_thread, proofs.Pieces.{number_fails, number_passes}}
use Rattle.summary.proofs.labelled.others.Goals.{in-Some+else-not-has, in-Some+then-not-has+in_ok-push, in_default}
use Rattle.summary.proofs.labelled.others.Goals as goal
use mathlib.Core.Bool.{false≢true}

pub loop-number-preserved : goal.loop-number-preserved
loop-number-preserved c =
    let p : ℕ → Bool = λ label. not (has_thread c.args.table.now label) in
    let n = c.loop-number.number in
    let threads = c.with_threads-threads.ensures in
    elim c.match-new.branch [
      | in-Some+then-not-has+in_ok-push w ↦
          number_passes p n w.in-Some.label c.loop-number.labels.items c.match-new.labels.items w.in-Some.ensures.value
          (ap not (sym (threads w.in-Some.label) ∙ sym w.has.ensures ∙ w.if-not-has.true)) c.loop-number.invariant
          (ap (λ v. v.items) w.labels-is ∙ w.in_ok-push.ensures.items)
      | in-Some+else-not-has w ↦
          ap (λ v. v.items) w.labels-is
          ∙ number_fails p n w.in-Some.label c.loop-number.labels.items w.in-Some.ensures.value
          (ap not (sym (threads w.in-Some.label) ∙ sym w.has.ensures ∙ w.if-not-has.false)) c.loop-number.invariant
      | in_default w ↦ absurd (false≢true (w.in_default.ensures.valid.1 (omega (arith, c.keeps_rules.ensures.draft.labels.few))))
    ]
