use Rattle.{std.proofs.Common.arith, evtext.proofs.SameBytes.same_by_bytes}
use Rattle.evtext.proofs.line.is.Goals as goal

pub returns : goal.returns
returns c =
    same_by_bytes c.args.word.now c.args.wanted.now (omega arith) (λ k less. c.loop-index.invariant k (omega (arith, less)))
