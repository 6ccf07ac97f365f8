-- The extents by the two sets of labels, and what every run keeps of labels in neither.
use Rattle.std.proofs.{Common.{◌∙◌, sym}, lemmas.Bool.false≢true}
use Rattle.reach.proofs.least.Reach.extent.Goals as goal

pub returns-then-has-clause-extent : goal.returns-then-has-clause-extent
returns-then-has-clause-extent c = (c.changed_by.ensures.changed c.args.object).0 (sym c.has.ensures ∙ c.if-has.true)

pub returns-then-has-2-clause-extent : goal.returns-then-has-2-clause-extent
returns-then-has-2-clause-extent c = (
  λ may. false≢true (sym c.if-has.false ∙ c.has.ensures ∙ (c.changed_by.ensures.changed c.args.object).1 may),
  (c.shrunk_by.ensures.shrunk c.args.object).0 (sym c.has-2.ensures ∙ c.if-has-2.true),
)

pub returns-then-has-2-clause-kept : goal.returns-then-has-2-clause-kept
returns-then-has-2-clause-kept c = c.changed_by.ensures.kept c.args.object (sym c.has.ensures ∙ c.if-has.false)

pub returns-clause-extent : goal.returns-clause-extent
returns-clause-extent c = (
  λ may. false≢true (sym c.if-has.false ∙ c.has.ensures ∙ (c.changed_by.ensures.changed c.args.object).1 may),
  λ may. false≢true (sym c.if-has-2.false ∙ c.has-2.ensures ∙ (c.shrunk_by.ensures.shrunk c.args.object).1 may),
)

pub returns-clause-kept : goal.returns-clause-kept
returns-clause-kept c =
    c.shrunk_by.ensures.kept c.args.object (sym c.has-2.ensures ∙ c.if-has-2.false) (returns-clause-extent c).0
