use Rattle.std.proofs.Common.{◌-◌, ◌∙◌, arith, get_or, refl, sym}
use Rattle.words.proofs.Decimals.{digit_more, digits_more, over, read, small_more, stray, zero_first}
use Rattle.words.proofs.numbers.decimal_of.Goals as goal

pub returns-then-not-has_no_leading_zero : goal.returns-then-not-has_no_leading_zero
returns-then-not-has_no_leading_zero c = sym (zero_first c.args.word.now (sym c.if-not-has_no_leading_zero.ensures))

pub returns-then-not-is_ascii_digit : goal.returns-then-not-is_ascii_digit
returns-then-not-is_ascii_digit c =
    sym (stray c.args.word.now c.loop-byte.byte-index (omega arith) (sym c.if-not-is_ascii_digit.ensures.value))

pub returns-in_err-number : goal.returns-in_err-number
returns-in_err-number c =
    c.from_residual.ensures
    ∙ sym
    (over c.args.word.now c.loop-byte.byte-index c.loop-byte.number (get_or c.args.word.now c.loop-byte.byte-index 0 - 48)
    (omega arith) c.loop-byte.invariant.value (sym c.if-not-is_ascii_digit.ensures.value) refl (sym c.in_err-number.ensures))

pub loop-byte-preserved : goal.loop-byte-preserved
loop-byte-preserved c =
    record {
      value = digit_more c.args.word.now c.loop-byte.byte-index c.loop-byte.number
          (get_or c.args.word.now c.loop-byte.byte-index 0 - 48) c.in_ok-number.number (omega arith)
          c.loop-byte.invariant.value (sym c.if-not-is_ascii_digit.ensures.value) refl c.in_ok-number.ensures;
      digits = digits_more c.args.word.now c.loop-byte.byte-index (omega arith) c.loop-byte.invariant.digits
          (sym c.if-not-is_ascii_digit.ensures.value);
      small = small_more _ _ c.in_ok-number.ensures;
    }

pub returns : goal.returns
returns c =
    read c.args.word.now c.loop-byte.byte-index c.loop-byte.number (omega arith) c.loop-byte.invariant.small
    (sym c.if-not-has_no_leading_zero.ensures) c.loop-byte.invariant.value c.loop-byte.invariant.digits
