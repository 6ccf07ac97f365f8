-- Scripts as lists of events: the laws of whole scripts, from those of their lines.
use Rattle.std.proofs.{Common.{ℕ, ◌≡◌, List, Ok, arith, codes, refl}, lemmas.Bool.and_right}
use Rattle.machine.specs.declared.call.Event.{Event}
use Rattle.words.{specs.Text.IsPlainLine, proofs.{ListLaws.{IsListFormat, list_again}, WordLaws.plain_bytes}}
use Rattle.evtext.specs.{Event.{HasNumbers, IsSpellable, event_words}, Script.{IsScript, read_script_of, script_header, script_line}}
use Rattle.evtext.{specs.Script.{script_step, script_text}, proofs.{EventLines.{line_read, line_read_back}, EventWords.plain_event}}
use Rattle.evtext.proofs.LimitedLists.{IsLimitedLine, limited_format}

-- an event of a core that there can be has numbers of 64 bits
pub numbers : (event : Event) → IsSpellable event → HasNumbers event
numbers event is = (omega (arith, is.0), is.1, is.2)

lines : IsLimitedLine event_words script_line IsSpellable
lines = record {
  takes = λ before words event h.
      let read = line_read before words event h in (read.0.0, (read.1, read.0.1.1, read.0.1.2), read.2);
  again = λ before event is few. line_read_back before (event_words event) event ((refl, numbers event is), is.0, few);
  plain = λ event is. (plain_event event (numbers event is), and_right _ _ refl);
}

pub format : IsListFormat event_words script_step IsScript
format = limited_format lines

pub plain_header : IsPlainLine script_header
plain_header = (plain_bytes (codes "confine-script") refl, (plain_bytes (codes "1") refl, tt))

pub script_is_read : (bytes : List ℕ) (events : List Event) → IsScript events → bytes ≡ script_text events
    → read_script_of bytes ≡ Ok events
unfolding read_script_of
script_is_read bytes events = list_again format script_header bytes events plain_header
