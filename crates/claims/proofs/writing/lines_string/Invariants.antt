-- The lines so far are the header's and these.
use Rattle.std.proofs.Common.{◌∷◌, ◌≡◌, map, string_bytes, take}
use Rattle.{words.specs.Text.text_of, claims.specs.Text.{claims_header, entry_words}}
use Rattle.claims.proofs.writing.lines_string.Given as goal

abbrev pub invariant-loop-line : goal.invariant-loop-line
invariant-loop-line l = string_bytes l.text ≡ text_of (claims_header ∷ map (entry_words l.table) (take l.line-index l.lines))
