-- Certificates as lists of lines: the laws of their lines, and those of whole texts from them.
use Rattle.std.proofs.Common.{[], ℕ, ◌++◌, ◌∷◌, ◌≡◌, List, Ok, ap, codes, refl, subst}
use Rattle.words.specs.{Reading.bind, Text.IsPlainLine}
use Rattle.words.proofs.{ListLaws.{IsListFormat, all_front, all_last, list_again}, TextLaws.both, WordLaws.{bind_ok, plain_bytes}}
use Rattle.{machine.specs.Layout.Layout, table.specs.Rules.IsLawful, captext.proofs.LineLaws.same_ok}
use Rattle.certificate.specs.{declared.line.Line.Line, Certificate.{IsCertificateOf, certificate_header, certificate_text}}
use Rattle.certificate.specs.{Line.{IsLineFor, line_words}, Reading.{line_of, line_step, read_certificate_of}}
use Rattle.certificate.proofs.LineLaws.{line_is_read, line_read, not_last, plain}

takes : (t : Layout) (lines : List Line) (words : List (List ℕ)) (next : List Line) → IsCertificateOf t lines
    → line_step t lines words ≡ Ok next
    → (line : Line) × (words ≡ line_words t line) × (lines ++ line ∷ [] ≡ next) × IsCertificateOf t next
takes t lines words next are h =
    let read = bind_ok (line_of t words) _ next h in
    let line = read.0 in
    let is = line_read t words line read.1 in
    let same : lines ++ line ∷ [] ≡ next = same_ok _ _ read.2 in
    (line, is.0, same, subst (IsCertificateOf t) same (both (IsLineFor t) lines (line ∷ []) are (is.1, tt)))

pub format : (t : Layout) → IsLawful t → IsListFormat (line_words t) (line_step t) (IsCertificateOf t)
unfolding bind
format t lawful = record {
  none = tt;
  front = λ lines more are. all_front (IsLineFor t) lines more are;
  takes = takes t;
  again = λ lines line are.
      ap (λ r. bind r (λ l. Ok (lines ++ l ∷ []))) (line_is_read t line lawful.draft (all_last (IsLineFor t) lines line are));
  plain = λ lines line are. (plain t line lawful.draft (all_last (IsLineFor t) lines line are), not_last t line);
}

pub plain_header : IsPlainLine certificate_header
plain_header = (plain_bytes (codes "confine-cert") refl, (plain_bytes (codes "1") refl, tt))

pub certificate_is_read : (t : Layout) (bytes : List ℕ) (lines : List Line) → IsLawful t → IsCertificateOf t lines
    → bytes ≡ certificate_text t lines → read_certificate_of t bytes ≡ Ok lines
unfolding read_certificate_of
certificate_is_read t bytes lines lawful = list_again (format t lawful) certificate_header bytes lines plain_header
