-- The words of calls and of events: what was read is what they spell, and each spelling is read back.
use Rattle.std.{specs.List.{AllByRecursion, list_all}, proofs.Common.{ℕ, ◌++◌, ◌∙◌, ◌∷◌, ◌≡◌, List, Ok, nat_lt, refl, true}}
use Rattle.words.specs.{Parts.{IsPart, by_word, keyed, read_as}, Reading.{bind, word_at}, Text.{IsPlainLine, IsPlainWord}}
use Rattle.words.proofs.{Parts.{IsChoice, after_word, both_parts, keyed_part, number_part, part_as, read_as_again}, WordLaws.plain_bytes}
use Rattle.machine.specs.declared.call.{Call.{Call, TheVariants.Signal}, Event.Event}
use Rattle.evtext.specs.Event.{Form, HasNumbers, HasWords, by_form, call_at, call_words, calls, event_at, event_of, event_words}
use Rattle.evtext.specs.{Event.{signal_form, thread_calls}, Operands.{both, data_given, four, memory_kind, number, optional, optional_slot}}
use Rattle.evtext.{specs.Operands.{rights, slot_address, two_numbers}, proofs.CallParts.{IsShape, data_part, four_part, memory_kind_part}}
use Rattle.evtext.proofs.CallParts.{nothing_part, optional_part, optional_slot_part, rights_part, slot_address_part}

-- the operands of calls

two_parts : IsShape two_numbers
two_parts = both_parts number_part number_part

three_parts : IsShape (both number two_numbers)
three_parts = both_parts number_part two_parts

four_parts : IsShape (both number (both number two_numbers))
four_parts = both_parts number_part three_parts

message_parts : IsShape (both number (both four optional))
message_parts = both_parts number_part (both_parts four_part optional_part)

receive_parts : IsShape (both number (both optional optional_slot))
receive_parts = both_parts number_part (both_parts optional_part optional_slot_part)

reply_parts : IsShape (both number four)
reply_parts = both_parts number_part four_part

slots_part : IsShape (both slot_address slot_address)
slots_part = both_parts slot_address_part slot_address_part

copy_parts : IsShape (both slot_address (both slot_address rights))
copy_parts = both_parts slot_address_part (both_parts slot_address_part rights_part)

mint_parts : IsShape (both slot_address (both slot_address (both rights data_given)))
mint_parts = both_parts slot_address_part (both_parts slot_address_part (both_parts rights_part data_part))

retype_parts : IsShape (both number (both memory_kind (both number (both number two_numbers))))
retype_parts = both_parts number_part (both_parts memory_kind_part four_parts)

-- the shapes of the operands of all calls
ruleset parts = (
  number_part,
  two_parts,
  three_parts,
  four_parts,
  message_parts,
  receive_parts,
  reply_parts,
  nothing_part,
  copy_parts,
  mint_parts,
  slots_part,
  slot_address_part,
  retype_parts,
)

-- what is read by a form is spelled by it
all_take : AllByRecursion (IsChoice call_words HasWords) calls
unfolding thread_calls
all_take = search (after_word, parts)

-- what a form spells is plain words, and is read by it, where it is the first of its name

record IsSpelled (words : List (List ℕ)) (call : Call) : Type 0 where
  again : (rest : List (List ℕ)) → call_at (words ++ rest) ≡ Ok (call, rest)
  plain : AllByRecursion IsPlainWord words

spelled_by : (form : Form) → IsShape form.shape → list_all (λ b. nat_lt 32 b) form.name ≡ true
    → ((words : List (List ℕ)) → by_word calls form.name words ≡ read_as form.call_of form.shape.read words)
    → (operands : form.Operands) → form.shape.Fits operands
    → IsSpelled (form.name ∷ form.shape.spell operands) (form.call_of operands)
unfolding call_at keyed bind word_at
spelled_by form part plain first operands fits =
    record {
      again = λ rest. first (form.shape.spell operands ++ rest) ∙ read_as_again part form.call_of operands rest fits;
      plain = (plain_bytes form.name plain, part.plain operands fits);
    }

-- the last clause is checked for each call but the first
is_spelled : (call : Call) → HasWords call → IsSpelled (call_words call) call
unfolding thread_calls by_word
is_spelled (Signal address) = spelled_by signal_form number_part refl (λ words. refl) address
is_spelled call =
    let split : (form : Form) × form.Operands = by_form (λ form operands. (form, operands)) call in
    spelled_by split.0 (assumption parts) refl (λ words. refl) split.1

call_part : IsPart call_at call_words HasWords
unfolding call_at
call_part =
    keyed_part call_words HasWords calls all_take (λ call rest fits. (is_spelled call fits).again rest)
    (λ call fits. (is_spelled call fits).plain)

-- an event is a core, a thread and a call
pub event_part : IsPart event_at event_words HasNumbers
unfolding event_at
event_part =
    part_as (both_parts number_part (both_parts number_part call_part)) event_of event_words HasNumbers (λ parts. refl)
    (λ parts is. (is.0, is.1.0, is.1.1))
    (λ event is. ((event.core, (event.thread.0, event.call)), refl, (is.0, (is.1, is.2))))

pub plain_event : (event : Event) → HasNumbers event → IsPlainLine (event_words event)
plain_event event is = event_part.plain event is
