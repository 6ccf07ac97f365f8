use Rattle.{std.proofs.{Common.{arith, refl}, lemmas.Fmt.decimal_digit}, evtext.proofs.PairsOfDigits.one_length}
use Rattle.evtext.proofs.writing.put_decimal.Goals as goal

pub push_reserved-requires : goal.push_reserved-requires
push_reserved-requires c =
    let one = one_length c.args.number c.if-number-lt10.true in let room = c.requires in omega (arith, one, room)

pub returns-then-number-lt10 : goal.returns-then-number-lt10
returns-then-number-lt10 c = rw (c.push_reserved.ensures.items, decimal_digit c.args.number c.if-number-lt10.true) refl
