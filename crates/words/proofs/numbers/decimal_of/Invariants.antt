use Rattle.std.{specs.{Char.is_ascii_digit, List.list_all, Str.Parse.digits_value}, proofs.Common.{◌<◌, ◌^◌, ◌≡◌, take, true}}
use Rattle.words.proofs.numbers.decimal_of.Given as goal

-- the number so far is that of the digits so far
abbrev pub invariant-loop-byte : goal.invariant-loop-byte
invariant-loop-byte l =
    record {
      value : l.number ≡ digits_value 10 (take l.byte-index l.word);
      digits : list_all is_ascii_digit (take l.byte-index l.word) ≡ true;
      small : l.number < 2 ^ 64;
    }
