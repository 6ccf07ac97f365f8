-- The state so far and the lines that are left give the result of the whole text.
use Rattle.std.proofs.Common.{◌≡◌, length}
use Rattle.words.specs.{Reading.{as_read, judged, read_lines, read_text}, Text.{lines_of, words_of}}
use Rattle.words.proofs.reader.read_text.Given as goal

abbrev pub invariant-loop-words : goal.invariant-loop-words
invariant-loop-words g l =
    (g.R.Reader.step l.reader ≡ g.R.Reader.step l.fn.reader)
    × (read_lines (g.R.Reader.step l.fn.reader) (judged as_read) l.lines.taken (g.R.Reader.seen l.reader) l.lines.lines
    ≡ read_text (words_of l.header) (g.R.Reader.step l.fn.reader) (judged as_read) (g.R.Reader.seen l.fn.reader) (lines_of l.text))

abbrev pub decreases-loop-words : goal.decreases-loop-words
decreases-loop-words g l = length l.lines.lines
