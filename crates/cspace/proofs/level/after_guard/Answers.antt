-- A guard that is longer than what is left, or differs from it, ends the lookup.
use Rattle.std.proofs.Common.{◌∙◌, arith, sym}
use Rattle.cspace.proofs.BitLemmas.{after-equal, after-short, after-unequal}
use Rattle.cspace.proofs.level.after_guard.Goals as goal

pub returns-then-size-left-clause-value : goal.returns-then-size-left-clause-value
returns-then-size-left-clause-value c =
    sym (after-short c.args.guard.size c.args.guard.value c.args.address c.args.left (omega arith))

pub returns-then-field-clause-value : goal.returns-then-field-clause-value
returns-then-field-clause-value c =
    sym
    (after-equal c.args.guard.size c.args.guard.value c.args.address c.args.left c.from-size.result c.from-size.ensures
    c.if-size-left.false (sym c.field.ensures ∙ c.if-field.true ∙ c.field-2.ensures))

pub returns-else-field-clause-value : goal.returns-else-field-clause-value
returns-else-field-clause-value c =
    sym
    (after-unequal c.args.guard.size c.args.guard.value c.args.address c.args.left c.from-size.result c.from-size.ensures
    c.if-size-left.false (λ same. c.if-field.false (c.field.ensures ∙ same ∙ sym c.field-2.ensures)))
