-- The digits that are left, behind the number so far, spell what all of them spell.
use Rattle.microkit.proofs.Digits.{ReadsOn}
use Rattle.microkit.proofs.numbers.digits_of.Given as goal

abbrev pub invariant-loop-byte : goal.invariant-loop-byte
invariant-loop-byte l = ReadsOn l.base l.number l.text l.byte-index
