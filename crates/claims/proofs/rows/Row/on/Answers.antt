use Rattle.std.proofs.{Common.{◌∙◌, sym}, lemmas.Bool.false≢true}
use Rattle.claims.proofs.rows.Row.on.Goals as goal

pub returns-then-has-clause-goes_to : goal.returns-then-has-clause-goes_to
returns-then-has-clause-goes_to c = λ limits a is. (is.changed c.args.object).0 (sym c.has.ensures ∙ c.if-has.true)

pub returns-then-has-2-clause-goes_to : goal.returns-then-has-2-clause-goes_to
returns-then-has-2-clause-goes_to c = λ limits a is. (
  λ change. false≢true (sym c.if-has.false ∙ c.has.ensures ∙ (is.changed c.args.object).1 change),
  (is.shrunk c.args.object).0 (sym c.has-2.ensures ∙ c.if-has-2.true),
)

pub returns-clause-goes_to : goal.returns-clause-goes_to
returns-clause-goes_to c = λ limits a is. (
  λ change. false≢true (sym c.if-has.false ∙ c.has.ensures ∙ (is.changed c.args.object).1 change),
  λ shrink. false≢true (sym c.if-has-2.false ∙ c.has-2.ensures ∙ (is.shrunk c.args.object).1 shrink),
)
