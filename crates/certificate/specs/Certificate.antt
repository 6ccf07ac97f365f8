-- The text of a certificate for a capability table: a header, its lines, and `end` (confine's own).
use Rattle.{std.specs.{List.AllByRecursion, Prelude.{ℕ, List, codes}}, words.specs.{Reading.list_text, Text.words_of}}
use Rattle.{machine.specs.Layout.Layout, certificate.specs.{declared.line.Line.Line, Line.{IsLineFor, line_words}}}

abbrev pub certificate_header : List (List ℕ)
certificate_header = words_of (codes "confine-cert 1")

-- the text of a certificate
abbrev pub certificate_text : Layout → List Line → List ℕ
certificate_text t = list_text certificate_header (line_words t)

-- the lines of a certificate for the table, in any order
abbrev pub IsCertificateOf : Layout → List Line → Type 0
IsCertificateOf t lines = AllByRecursion (IsLineFor t) lines
