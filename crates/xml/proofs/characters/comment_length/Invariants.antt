-- The bytes so far may stand in a comment, and begin no `--`.
use Rattle.std.proofs.Common.{◌+◌, ◌≡◌, drop}
use Rattle.xml.specs.Characters.{comment_length}
use Rattle.xml.proofs.characters.comment_length.Given as goal

abbrev pub invariant-loop-index : goal.invariant-loop-index
invariant-loop-index l = l.index + comment_length (drop l.index l.bytes) ≡ comment_length l.bytes
