use Rattle.std.proofs.Common.{◌++◌, ◌≡◌, map, string_bytes, take}
use Rattle.{words.specs.Text.text_of, reptext.specs.Objects.{entries, entry_words}}
use Rattle.reptext.proofs.listing.write_entries.Given as goal

-- the lines of the objects so far are written
abbrev pub invariant-loop-number : goal.invariant-loop-number
invariant-loop-number l =
    string_bytes l.text ≡ string_bytes l.fn.text
    ++ text_of (map (λ entry. entry_words l.table entry.0 entry.1.0 entry.1.1) (take l.number (entries l.table)))
