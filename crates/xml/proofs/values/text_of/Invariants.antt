-- The text so far and the reference that is being read, with the bytes left, make what all bytes make.
use Rattle.std.{specs.Option.option_map, proofs.Common.{[], ◌≡◌, None, drop}}
use Rattle.xml.specs.Value.{text_of}
use Rattle.xml.proofs.values.text_of.Given as goal

abbrev pub invariant-loop-byte : goal.invariant-loop-byte
invariant-loop-byte l =
    text_of l.text.items (option_map (λ name. name.items) l.pending) (drop l.byte-index l.spelled) ≡ text_of [] None l.spelled
