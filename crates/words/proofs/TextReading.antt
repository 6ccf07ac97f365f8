-- Whole texts: the bytes of a text that was read are those of its lines, and the text of such lines is read.
use Rattle.std.{specs.List.AllByRecursion, proofs.Common.{[], ℕ, ◌++◌, ◌∙◌, ◌∷◌, ◌≡◌, ◌≢◌, List, Ok, Some, ap, sym}}
use Rattle.std.proofs.lemmas.List.{map-append}
use Rattle.words.specs.{FirstFault.{Line, ended}, Reading.{Format, IsNotLast, last_line, read_format, steps, whole_lines}, Text.IsPlainLine}
use Rattle.words.{specs.Text.{line_is, lines_of, text_of}, proofs.{FirstFaults.{is_text, reads}, Splits.same_line, TextLaws.each}}
use Rattle.words.proofs.TextLaws.{spelled, text_lines}

-- a line other than the last differs from it
differs : (line : Line) → IsNotLast line → line ≢ last_line
differs line other same = cc (sym other ∙ ap (λ l. line_is l last_line) same ∙ same_line last_line)

-- the lines of a whole text, seen as its good ones and the line `end`
whole : (header : Line) (body : List Line) → ended (whole_lines header body) ≡ ended (header ∷ body) ++ Some last_line ∷ []
whole header body = map-append (λ (line : Line). Some line) (header ∷ body) (last_line ∷ [])

-- the bytes of a text that was read: its header, a body whose steps lead to the value, and `end`
pub whole_text_takes : {S T : Type 0} (f : Format S T) (value : T) (bytes : List ℕ) → read_format f (lines_of bytes) ≡ Ok value
    → (body : List Line) × (state : S) × (bytes ≡ text_of (whole_lines f.header body)) × (steps f.step f.start body ≡ Ok state)
    × (f.whole state ≡ Ok value)
whole_text_takes f value bytes read =
    let text = is_text f (lines_of bytes) value read in
    let body = text.body in (
      body,
      text.state,
      spelled bytes (whole_lines f.header body) (text.good.lines_are ∙ sym (whole f.header body)),
      text.good.stepped,
      text.whole,
    )

-- the text of plain lines whose steps lead to a value is read as that value
pub whole_text_again : {S T : Type 0} (f : Format S T) (state : S) (value : T) (body : List Line) (bytes : List ℕ)
    → AllByRecursion IsPlainLine (whole_lines f.header body) → AllByRecursion IsNotLast body
    → steps f.step f.start body ≡ Ok state → f.whole state ≡ Ok value
    → bytes ≡ text_of (whole_lines f.header body) → read_format f (lines_of bytes) ≡ Ok value
whole_text_again f state value body bytes plain others stepped came text =
    let lines : lines_of bytes ≡ ended (whole_lines f.header body) =
    ap (λ b. lines_of b) text ∙ text_lines (whole_lines f.header body) plain in
    reads f (lines_of bytes) value
    (record {
      body = body;
      state = state;
      good = record { lines_are = lines ∙ whole f.header body; inner = each _ _ differs body others; stepped = stepped };
      whole = came;
    })
