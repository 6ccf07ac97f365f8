-- Logs as lists of events and their outcomes: the laws of whole logs, from those of their lines.
use Rattle.std.proofs.{Common.{ℕ, ◌↔◌, ◌≡◌, List, Ok, codes, refl}, lemmas.Bool.and_right}
use Rattle.machine.specs.declared.call.{Event.Event, Outcome.Outcome}
use Rattle.words.{specs.Text.IsPlainLine, proofs.{ListLaws.{IsListFormat, list_again, list_takes}, WordLaws.plain_bytes}}
use Rattle.evtext.specs.Log.{IsEntry, IsLog, IsSpellableEntry, entry_words, log_header, log_line, log_step, log_text, read_log_of}
use Rattle.evtext.proofs.{EntryWords.plain_entry, EventLines.{entry_read, entry_read_back}, LimitedLists.{IsLimitedLine, limited_format}}
use Rattle.evtext.proofs.Scripts.{numbers}

entry_numbers : (entry : Event × Outcome) → IsSpellableEntry entry → IsEntry entry
entry_numbers entry is = (numbers entry.0 is.0, is.1)

lines : IsLimitedLine entry_words log_line IsSpellableEntry
lines = record {
  takes = λ before words entry h.
      let read = entry_read before words entry h in
      (read.0.0, ((read.1, read.0.1.0.1, read.0.1.0.2), read.0.1.1), read.2);
  again = λ before entry is few.
      entry_read_back before (entry_words entry) entry ((refl, entry_numbers entry is), is.0.0, few);
  plain = λ entry is. (plain_entry entry (entry_numbers entry is), and_right _ _ refl);
}

pub format : IsListFormat entry_words log_step IsLog
format = limited_format lines

pub plain_header : IsPlainLine log_header
plain_header = (plain_bytes (codes "confine-log") refl, (plain_bytes (codes "1") refl, tt))

pub log_is_read : (bytes : List ℕ) (log : List (Event × Outcome)) → IsLog log → bytes ≡ log_text log → read_log_of bytes ≡ Ok log
unfolding read_log_of
log_is_read bytes log = list_again format log_header bytes log plain_header

-- a text is read as a log just where it is that log's
pub log_iff : (text : List ℕ) (log : List (Event × Outcome)) → (read_log_of text ≡ Ok log) ↔ (IsLog log × (text ≡ log_text log))
unfolding read_log_of
log_iff text log = (list_takes format log_header text log, λ is. log_is_read text log is.0 is.1)
