use Rattle.std.{specs.Fmt.decimal, proofs.Common.{◌≡◌, map, take}}
use Rattle.evtext.specs.Written.{written}
use Rattle.evtext.proofs.writing.write_each.Given as goal

-- the numbers so far are written
abbrev pub invariant-loop-number : goal.invariant-loop-number
invariant-loop-number l = l.text.items ≡ written l.fn.text.items (map decimal (take l.number-index l.numbers))
