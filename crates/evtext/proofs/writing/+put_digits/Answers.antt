-- The digits of a number: those of a hundredth of it, and then the last two.
use Rattle.std.{specs.Fmt.decimal, proofs.{Common.{[], ◌%◌, ◌+◌, ◌/◌, ◌∷◌, append_assoc, arith, refl}, lemmas.Fmt.decimal_digit}}
use Rattle.evtext.proofs.PairsOfDigits.{joined, many, many_length, one_length, two, two_length}
use Rattle.evtext.proofs.writing.+put_digits.Goals.{else-number-ge100, then-number-ge100}
use Rattle.evtext.proofs.writing.+put_digits.Goals as goal

pub push_reserved-requires : goal.push_reserved-requires
push_reserved-requires t c =
    let one = one_length c.args.number c.if-number-lt10.true in let room = c.requires in omega (arith, one, room)

pub returns-then-number-lt10-clause-items : goal.returns-then-number-lt10-clause-items
returns-then-number-lt10-clause-items t c =
    rw (c.push_reserved.ensures.items, decimal_digit c.args.number c.if-number-lt10.true) refl

pub returns-then-number-lt10-clause-len : goal.returns-then-number-lt10-clause-len
returns-then-number-lt10-clause-len t c =
    let one = one_length c.args.number c.if-number-lt10.true in rw c.push_reserved.ensures.len (omega (arith, one))

pub put_digits-requires : goal.put_digits-requires
put_digits-requires t c =
    let more = many_length c.args.number c.if-number-ge100.true c.ranges.number.fits in
    let room = c.requires in
    let least = c.if-number-ge100.true in (omega (arith, c.decreases, least), omega (arith, more, room))

pub push_reserved-requires-2 : goal.push_reserved-requires-2
push_reserved-requires-2 t c =
    elim c.if-number-ge100.branch [
      | then-number-ge100 w ↦
          let more = many_length c.args.number w.if-number-ge100.true c.ranges.number.fits in
          let len = w.put_digits.ensures.len in
          let same = w.put_digits.ensures.capacity in
          let room = c.requires in rw w.text-is (omega (arith, more, len, same, room))
      | else-number-ge100 w ↦
          let both = two_length c.args.number (omega (arith, c.if-number-lt10.false)) (omega (arith, w.if-number-ge100.false)) in
          let room = c.requires in rw w.text-is (omega (arith, both, room))
    ]

pub push_reserved-requires-3 : goal.push_reserved-requires-3
push_reserved-requires-3 t c =
    elim c.if-number-ge100.branch [
      | then-number-ge100 w ↦
          let more = many_length c.args.number w.if-number-ge100.true c.ranges.number.fits in
          let len = w.put_digits.ensures.len in
          let same = w.put_digits.ensures.capacity in
          let room = c.requires in
          rw (c.push_reserved-2.ensures.len, c.push_reserved-2.ensures.capacity, w.text-is) (omega (arith, more, len, same, room))
      | else-number-ge100 w ↦
          let both = two_length c.args.number (omega (arith, c.if-number-lt10.false)) (omega (arith, w.if-number-ge100.false)) in
          let room = c.requires in
          rw (c.push_reserved-2.ensures.len, c.push_reserved-2.ensures.capacity, w.text-is) (omega (arith, both, room))
    ]

pub returns-clause-items : goal.returns-clause-items
returns-clause-items t c =
    elim c.if-number-ge100.branch [
      | then-number-ge100 w ↦
          rw (
            c.push_reserved-3.ensures.items,
            c.push_reserved-2.ensures.items,
            w.text-is,
            w.put_digits.ensures.items,
            many c.args.number w.if-number-ge100.true c.ranges.number.fits,
          )
          (joined c.args.text.now.items (decimal (c.args.number / 100)) _ _)
      | else-number-ge100 w ↦
          rw (
            c.push_reserved-3.ensures.items,
            c.push_reserved-2.ensures.items,
            w.text-is,
            two c.args.number (omega (arith, c.if-number-lt10.false)) (omega (arith, w.if-number-ge100.false)),
          )
          (append_assoc c.args.text.now.items ((48 + c.args.number % 100 / 10) ∷ []) _)
    ]

pub returns-clause-len : goal.returns-clause-len
returns-clause-len t c =
    elim c.if-number-ge100.branch [
      | then-number-ge100 w ↦
          let more = many_length c.args.number w.if-number-ge100.true c.ranges.number.fits in
          let len = w.put_digits.ensures.len in
          rw (c.push_reserved-3.ensures.len, c.push_reserved-2.ensures.len, w.text-is) (omega (arith, more, len))
      | else-number-ge100 w ↦
          let both = two_length c.args.number (omega (arith, c.if-number-lt10.false)) (omega (arith, w.if-number-ge100.false)) in
          rw (c.push_reserved-3.ensures.len, c.push_reserved-2.ensures.len, w.text-is) (omega (arith, both))
    ]
