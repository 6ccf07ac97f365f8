-- That a verdict has one text and one status, as the answer to `check` and to `verify`.
use Rattle.std.{specs.Prelude.slice_get, proofs.{Common.{ℕ, ◌+◌, ◌∙◌, ◌≡◌, List, ap, inl, inr, sym}, lemmas.Bool.cases_order}}
use Rattle.{base.specs.declared.edge.Edge.Edge, machine.specs.Layout.Layout, policy.specs.Policy.allows}
use Rattle.verdict.specs.declared.{denial.Denial.{Denial, Denial as denial}, rules.Rules.Rules}
use Rattle.verdict.{specs.{ByRules.{IsAcceptedBy, IsLeastBrokenBy}, Verdict.rule_name}, proofs.OneVerdict.one_denial}
use Rattle.{certificate.specs.{declared.line.Line.Line, Right.right_certificate}, checker.specs.Verified.{DiffersFirst, IsDeniedBy}}
use Rattle.reptext.{specs.{Places.place_names, Reports.{accept_data, denial_report, line_of}}, proofs.OneText.report_once}
use Rattle.commands.specs.{declared.{answer.Answer.Answer, choices.OnAccept.{OnAccept, OnAccept as on_accept}}, Commands.{IsPlain, Says}}
use Rattle.report.specs.Answers.{Answers, AnswersVerdict, Checks, TellsCheck, Verifies, accepted, denied}
use Rattle.report.proofs.OneAnswer.{IsOne, JudgesOnce, JudgesTwoOnce}

-- an acceptance with one text, and denials of which there is at most one, and none beside an acceptance
module _
    (t : Layout) (Accepted : Type 0) (Denied : Denial → Type 0) (Tells : Answer → Type 0)
    (one : (d e : Denial) → Denied d → Denied e → d ≡ e) (never : (d : Denial) → Accepted → Denied d → ⊥) (told : IsOne Tells) where
  pub answers_once : IsOne (Answers t Accepted Denied Tells)
  answers_once a b (accepted is tells) (accepted also again) = told a b tells again
  answers_once a b (accepted is tells) (denied d broken says) = absurd (never d is broken)
  answers_once a b (denied d broken says) (accepted is tells) = absurd (never d is broken)
  answers_once a b (denied d is says) (denied e also again) = (
    says.text ∙ ap (λ (d : Denial). denial_report (rule_name d) (place_names t d)) (one d e is also) ∙ sym again.text,
    says.status ∙ sym again.status,
  )

pub verdict_once : (set : Rules) (t : Layout) (edges : List Edge) (Tells : Answer → Type 0) → IsOne Tells → IsOne (AnswersVerdict set t edges Tells)
verdict_once set t edges Tells told =
    answers_once t (IsAcceptedBy set t (allows edges)) (IsLeastBrokenBy set t (allows edges)) Tells (one_denial set t (allows edges))
    (λ d none least. none d least.has) told

-- the answer to `check`

check_told :
    (written : OnAccept) (t : Layout) (edges : List Edge) (text other : List ℕ) → TellsCheck written t edges text
    → TellsCheck written t edges other → text ≡ other
check_told on_accept.Report t edges text other is also = report_once t edges text other is also
check_told on_accept.Certificate t edges text other is also = is ∙ sym also

pub check_once : (set : Rules) (written : OnAccept) → JudgesTwoOnce (Checks set written)
check_once set written t edges =
    verdict_once set t edges (Says (TellsCheck written t edges))
    (λ a b is also. (check_told written t edges a.text.items b.text.items is.so also.so, is.status ∙ sym also.status))

-- the answer to `verify`

differ_once : (lines right : List Line) (m n : ℕ) → DiffersFirst m lines right → DiffersFirst n lines right → m ≡ n
differ_once lines right m n one two = elim (cases_order one.before two.before) [
  | inl same ↦ one.counted ∙ ap (λ k. k + 1) same ∙ sym two.counted
  | inr (inl below) ↦ absurd (one.differ (two.agree one.before below))
  | inr (inr above) ↦ absurd (two.differ (one.agree two.before above))
]

module _ (set : Rules) (t : Layout) (edges : List Edge) (lines : List Line) where
  denied_once : (d e : Denial) → IsDeniedBy set t edges lines d → IsDeniedBy set t edges lines e → d ≡ e
  denied_once (denial.Certificate m) (denial.Certificate n) is also =
      ap denial.Certificate (differ_once lines (right_certificate t) m n is.1 also.1)
  denied_once (denial.Certificate m) e is also = absurd (is.0 e also.has)
  denied_once d (denial.Certificate n) is also = absurd (also.0 d is.has)
  denied_once d e is also = one_denial set t (allows edges) d e is also

  never_denied : (d : Denial) → IsAcceptedBy set t (allows edges) × (lines ≡ right_certificate t) → IsDeniedBy set t edges lines d → ⊥
  never_denied (denial.Certificate m) is broken = broken.1.differ (ap (λ (ls : List Line). slice_get ls broken.1.before) is.1)
  never_denied d is broken = is.0 d broken.has

pub verify_once : (set : Rules) → JudgesOnce (Verifies set)
verify_once set t edges lines =
    answers_once t (IsAcceptedBy set t (allows edges) × (lines ≡ right_certificate t)) (IsDeniedBy set t edges lines)
    (IsPlain (line_of accept_data) 0) (denied_once set t edges lines) (never_denied set t edges lines)
    (λ a b is also. (is.text ∙ sym also.text, is.status ∙ sym also.status))
