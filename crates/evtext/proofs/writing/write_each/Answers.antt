use Rattle.{std.{specs.Fmt.decimal, proofs.Common.arith}, evtext.proofs.Lines.words_more}
use Rattle.evtext.proofs.writing.write_each.Goals as goal

pub loop-number-preserved : goal.loop-number-preserved
loop-number-preserved c =
    words_more decimal c.args.numbers.now c.loop-number.number-index 0 c.args.text.now.items c.loop-number.text.items _
    (omega arith) c.loop-number.invariant c.in_ok-write_number.ensures
