use Rattle.std.proofs.Common.{◌++◌, ◌≡◌, map, string_bytes, take}
use Rattle.words.specs.Text.{text_of}
use Rattle.captext.proofs.write.write_lines.Given as goal

-- the lines of the items so far are written
abbrev pub invariant-loop-item : goal.invariant-loop-item
invariant-loop-item g l =
    string_bytes l.text ≡ string_bytes l.fn.text ++ text_of (map (g.T.Line.words l.table) (take l.item-index l.items))
