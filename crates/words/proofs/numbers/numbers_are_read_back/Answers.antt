use Rattle.std.proofs.lemmas.Fmt.{decimal_injective}
use Rattle.words.proofs.Spellings.{apart, decimal_iff, decimal_word, hexadecimal_iff, hexadecimal_once, hexadecimal_word}
use Rattle.words.proofs.numbers.numbers_are_read_back.Goals as goal

pub returns : goal.returns
returns c = record {
  decimal = decimal_iff;
  decimal_word = decimal_word;
  decimal_once = decimal_injective;
  hexadecimal = hexadecimal_iff;
  hexadecimal_word = hexadecimal_word;
  hexadecimal_once = hexadecimal_once;
  apart = apart;
}
