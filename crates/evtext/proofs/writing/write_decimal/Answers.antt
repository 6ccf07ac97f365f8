use Rattle.std.proofs.{Common.arith, lemmas.Fmt.length-decimal-le}
use Rattle.evtext.proofs.writing.write_decimal.Goals as goal

pub put_decimal-requires : goal.put_decimal-requires
put_decimal-requires c =
    let few = length-decimal-le 20 c.args.number (omega arith) (omega (arith, c.ranges.number.fits)) c.ranges.number.fits in
    let room = c.in_ok-make_room.ensures.room in omega (arith, few, room)
