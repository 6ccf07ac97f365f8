use Rattle.runs.proofs.AsShown.{as_told}
use Rattle.runs.proofs.showing.goes_so.Goals as goal

pub returns-clause-so : goal.returns-clause-so
returns-clause-so c = λ told.
    let differ = c.differs.ensures c.args.old c.args.new c.args.id c.in_ok-was.ensures.seen c.in_ok-is.ensures.seen in
    let shrink = c.shrinks-shrinking.ensures c.args.old c.args.new c.args.id c.in_ok-was.ensures.seen c.in_ok-is.ensures.seen in (
      differ.0 c.if-not-differs.false,
      as_told c.args.old c.args.new c.args.id c.shrinks-shrinking.result c.args.taking shrink.0 shrink.1 told,
    )
