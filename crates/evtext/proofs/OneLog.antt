-- Texts of scripts and logs: each is the text of one only.
use Rattle.std.{specs.List.AllByRecursion, proofs.{Common.{[], ◌∙◌, ◌≡◌, List, sym}, lemmas.List.append-nil}}
use Rattle.{words.proofs.{ListLaws.one_list, Parts.{last_once, part_once}}, machine.specs.declared.call.{Event.Event, Outcome.Outcome}}
use Rattle.evtext.specs.{Event.{HasNumbers, event_words}, Log.{IsEntry, entry_words, log_header, log_text}, Script.script_header}
use Rattle.evtext.{specs.Script.script_text, proofs.{EntryWords.{entry_part, plain_entry}, EventWords.{event_part, plain_event}}}
use Rattle.evtext.proofs.LogTexts as logs
use Rattle.evtext.proofs.Scripts as scripts

one_line : (event other : Event) → HasNumbers event → HasNumbers other → event_words event ≡ event_words other → event ≡ other
one_line event other this that same =
    (part_once event_part event other [] [] this that (append-nil (event_words event) ∙ same ∙ sym (append-nil (event_words other)))).0

pub one_script : (script other : List Event) → AllByRecursion HasNumbers script → AllByRecursion HasNumbers other
    → script_text script ≡ script_text other → script ≡ other
one_script = one_list script_header event_words HasNumbers scripts.plain_header plain_event one_line

pub one_log : (log other : List (Event × Outcome)) → AllByRecursion IsEntry log → AllByRecursion IsEntry other
    → log_text log ≡ log_text other → log ≡ other
one_log = one_list log_header entry_words IsEntry logs.plain_header plain_entry (last_once entry_part)
