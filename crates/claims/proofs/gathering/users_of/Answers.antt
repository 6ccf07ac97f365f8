-- Each turn adds one label more, if it may change or shrink the object.
use Rattle.std.proofs.{Common.{ℕ, ◌∙◌, Bool, ap, arith, sym}, lemmas.Bool.false≢true}
use Rattle.summary.proofs.Pieces.{number_fails, number_passes}
use Rattle.claims.{specs.{Rows.extents_of, Strongest.is_user}, proofs.{StrongestLaws.row_at, gathering.users_of.Goals.in-Some+else-is_user}}
use Rattle.claims.proofs.gathering.users_of.Goals.{in-Some+then-is_user+in_ok-push, in_default}
use Rattle.claims.proofs.gathering.users_of.Goals as goal

pub loop-number-preserved : goal.loop-number-preserved
loop-number-preserved c =
    let rows = c.args.rows.now in
    let object = c.args.object in
    let p : ℕ → Bool = λ a. is_user (extents_of rows a) a object in
    let n = c.loop-number.number in
    elim c.match-new.branch [
      | in-Some+then-is_user+in_ok-push w ↦
          number_passes p n w.in-Some.actor c.loop-number.users c.match-new.users w.in-Some.ensures.value
          (ap (λ goes. is_user goes w.in-Some.actor object) (sym (row_at rows w.in-Some.actor w.row.result w.row.ensures)) ∙ sym w.is_user.ensures ∙ w.if-is_user.true)
          c.loop-number.invariant (w.users-is ∙ w.in_ok-push.ensures.ok)
      | in-Some+else-is_user w ↦
          w.users-is
          ∙ number_fails p n w.in-Some.actor c.loop-number.users w.in-Some.ensures.value
          (ap (λ goes. is_user goes w.in-Some.actor object) (sym (row_at rows w.in-Some.actor w.row.result w.row.ensures)) ∙ sym w.is_user.ensures ∙ w.if-is_user.false)
          c.loop-number.invariant
      | in_default w ↦ absurd (false≢true (w.in_default.ensures.valid.1 (omega (arith, c.keeps_rules.ensures.draft.labels.few))))
    ]
