use Rattle.std.proofs.Common.{◌∷◌, ◌≡◌, map, string_bytes, take}
use Rattle.{words.specs.Text.text_of, certificate.specs.{Certificate.certificate_header, Line.line_words}}
use Rattle.certificate.proofs.writing.certificate_string.Given as goal

-- the lines so far are the header's and those of the certificate so far
abbrev pub invariant-loop-line : goal.invariant-loop-line
invariant-loop-line l =
    string_bytes l.text ≡ text_of (certificate_header ∷ map (line_words l.table) (take l.line-index l.lines))
