-- That a context is lacking exactly if it exists and the policy lacks the edge to its label.
use Rattle.std.proofs.{Common.{◌∙◌, ap, sym}, lemmas.Option.same_Some}
use Rattle.machine.specs.Authority.{label_of}
use Rattle.verdict.proofs.excess.links.lacking.Goals as goal

pub returns : goal.returns
returns c = λ end. (
  λ is.
      let found = (c.missing_label.ensures c.in_ok-missing_label.field-0).0 c.in_ok-missing_label.was in
      let same = same_Some c.in_ok-context.context end is in (
        c.in_ok-context.was ∙ is,
        (
          c.in_ok-missing_label.field-0,
          (ap (label_of c.args.table.now c.args.state.now) (sym same) ∙ found.0, found.1),
        ),
      ),
  λ has. sym c.in_ok-context.was ∙ has.0,
)
