-- The digits so far are digits, and spell the number.
use Rattle.std.proofs.Common.{◌≤◌}
use Rattle.xml.proofs.Digits.{Reads}
use Rattle.xml.proofs.values.code_of.Given as goal

abbrev pub invariant-loop-byte : goal.invariant-loop-byte
invariant-loop-byte l = record { reads : Reads l.base l.number l.digits l.byte-index; small : l.number ≤ 126 }
