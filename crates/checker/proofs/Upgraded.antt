-- Tables that are made ones of version 2: what is said of such a table is what was said of it before.
use Rattle.std.proofs.Common.{◌↔◌, ◌≡◌, List, refl, subst, sym}
use Rattle.words.specs.Reading.{list_text}
use Rattle.machine.specs.Layout.{Layout, bound_context, declared_label, initial_cap, initial_of, initial_parent, upgraded}
use Rattle.{table.specs.Rules.kind_at, policy.specs.Domain.EdgeTest}
use Rattle.verdict.specs.{declared.denial.Denial.{Denial, Denial as denial}, Sources.{Sources, of_table}, Verdict.{Breaks, IsExceeded}}
use Rattle.certificate.specs.{declared.line.Line.Line, Certificate.{certificate_header, certificate_text}}
use Rattle.certificate.specs.{Line.line_words, Right.right_certificate}
use Rattle.certificate.specs.declared.line.Line.TheVariants as line

same_sources : (t : Layout) → of_table (upgraded t) ≡ of_table t
unfolding bound_context declared_label initial_cap initial_of initial_parent kind_at
same_sources t = refl

pub same_verdict : (t : Layout) (allowed : EdgeTest) (d : Denial) → Breaks (upgraded t) allowed d ↔ Breaks t allowed d
same_verdict t allowed (denial.Policy broken) = (λ h. h, λ h. h)
same_verdict t allowed d =
    let At : Sources → Type 0 = λ s. IsExceeded s allowed d in
    (subst At (same_sources t), subst At (sym (same_sources t)))

pub same_certificate : (t : Layout) → right_certificate (upgraded t) ≡ right_certificate t
unfolding declared_label initial_of kind_at
same_certificate t = refl

same_words : (t : Layout) (l : Line) → line_words (upgraded t) l ≡ line_words t l
unfolding initial_of kind_at
same_words t (line.Cap slot from kinds to) = refl
same_words t (line.Space slot from to) = refl
same_words t (line.Derive parent child from to) = refl
same_words t (line.Runs thread context from to) = refl

pub same_text : (t : Layout) (lines : List Line) → certificate_text (upgraded t) lines ≡ certificate_text t lines
same_text t lines = λ i. list_text certificate_header (λ l. same_words t l i) lines
