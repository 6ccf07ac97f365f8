use Rattle.std.proofs.Common.{◌+◌, arith, sym}
use Rattle.xml.proofs.Digits.{digit_more, over}
use Rattle.xml.proofs.values.code_of.Goals as goal

pub returns-then-number-gt126 : goal.returns-then-number-gt126
returns-then-number-gt126 c =
    let digit = c.in_ok-number.ensures in
    sym
    (over c.args.base _ c.args.digits.now (c.loop-byte.byte-index + 1) (omega arith)
    (digit_more c.args.base c.loop-byte.number c.args.digits.now c.loop-byte.byte-index c.in_ok-number.field-0
    c.loop-byte-test.true c.loop-byte.invariant.reads digit.0 digit.1)
    c.if-number-gt126.true)
