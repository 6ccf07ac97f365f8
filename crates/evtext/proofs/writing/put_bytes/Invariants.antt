use Rattle.std.{specs.Vec.{vec_capacity, vec_len}, proofs.Common.{◌++◌, ◌+◌, ◌≡◌, take}}
use Rattle.evtext.proofs.writing.put_bytes.Given as goal

-- the bytes so far are put
abbrev pub invariant-loop-byte : goal.invariant-loop-byte
invariant-loop-byte l =
    record {
      items : l.text.items ≡ l.fn.text.items ++ take l.byte-index l.bytes;
      len : vec_len l.text ≡ vec_len l.fn.text + l.byte-index;
      capacity : vec_capacity l.text ≡ vec_capacity l.fn.text;
    }
