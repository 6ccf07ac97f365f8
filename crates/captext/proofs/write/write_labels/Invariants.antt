use Rattle.std.proofs.Common.{◌++◌, ◌≡◌, map, string_bytes, take}
use Rattle.{words.specs.Text.text_of, captext.specs.TableText.label_words}
use Rattle.captext.proofs.write.write_labels.Given as goal

-- the lines of the labels so far are written
abbrev pub invariant-loop-number : goal.invariant-loop-number
invariant-loop-number l =
    string_bytes l.text ≡ string_bytes l.fn.text ++ text_of (map label_words (take l.number l.table.labels))
