-- The draft so far and the lines left make what the whole text makes.
use Rattle.std.proofs.Common.{◌≡◌, length}
use Rattle.{words.specs.Reading.{judged, read_lines}, captext.specs.Tables.{grown, read_table_of, table_line}}
use Rattle.captext.proofs.tables.table_of.Given as goal

abbrev pub invariant-loop-words : goal.invariant-loop-words
invariant-loop-words l = read_lines table_line (judged grown) l.lines.taken l.draft l.lines.lines ≡ read_table_of l.text

abbrev pub decreases-loop-words : goal.decreases-loop-words
decreases-loop-words l = length l.lines.lines
