-- That a row says what its label may do, by the policy and the labels from which the ways were made.
use Rattle.std.proofs.Common.{ℕ, ◌↔◌, ◌≡◌, subst, true}
use Rattle.{base.specs.Labels.is_in, reach.specs.Extents.limits_by}
use Rattle.summary.specs.{Letters.{HasLetter, by_answer, by_call, by_other, by_signal}, Ways.WaysOf}
use Rattle.summary.proofs.rows.row_of.Goals as goal

pub returns-clause-row : goal.returns-clause-row
returns-clause-row c =
    let ways = c.requires.ways in
    let label = c.args.label in
    record {
      calls = subst (λ (w : WaysOf). (l : ℕ) → (is_in c.calls.result l ≡ true) ↔ HasLetter by_call (limits_by w.edges w.actors) label l) ways c.calls.ensures;
      answers = subst (λ (w : WaysOf). (l : ℕ) → (is_in c.answers.result l ≡ true) ↔ HasLetter by_answer (limits_by w.edges w.actors) label l) ways c.answers.ensures;
      signals = subst (λ (w : WaysOf). (l : ℕ) → (is_in c.signals.result l ≡ true) ↔ HasLetter by_signal (limits_by w.edges w.actors) label l) ways c.signals.ensures;
      others = subst (λ (w : WaysOf). (l : ℕ) → (is_in c.others.result l ≡ true) ↔ HasLetter by_other (limits_by w.edges w.actors) label l) ways c.others.ensures;
      changes = c.change_labels.ensures;
      shrinks = c.shrink_labels.ensures;
      shares = c.shared_by.ensures;
      reads = c.read_by.ensures;
    }
