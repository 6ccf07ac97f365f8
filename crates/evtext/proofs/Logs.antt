-- The text of a log, which grows by a line with each entry.
use Rattle.std.{specs.{Fmt.decimal, List.zip}, proofs.Common.{[], ℕ, ◌++◌, ◌+◌, ◌<◌, ◌∙◌, ◌∷◌}}
use Rattle.std.proofs.Common.{◌≡◌, List, ap, arith, codes, get_or, length, map, min, sym, take}
use Rattle.std.proofs.lemmas.{List.{Sums.fold-append, flat_map_more, map-append, take_all, take_more}, Slice.Zip.{get_or-zip, length-zip}}
use Rattle.{words.specs.{Reading.last_line, Text.{line_text, text_of}}, machine.specs.declared.call.{Event.Event, Outcome.Outcome}}
use Rattle.evtext.specs.{Event.call_words, Log.{entry_words, log_header, log_text}, Outcome.outcome_words}
use Rattle.evtext.{specs.Written.{spelled, written}, proofs.Lines.line_written}

-- the line of an entry: its event, ` =`, and its outcome
pub entry_written : (text : List ℕ) (event : Event) (outcome : Outcome)
    → written
    (written (text ++ decimal event.core) (decimal event.thread.0 ∷ call_words event.call) ++ codes " =")
    (outcome_words outcome) ++ 10 ∷ []
    ≡ text ++ line_text (entry_words (event, outcome))
entry_written text event outcome =
    let words : List (List ℕ) = decimal event.thread.0 ∷ call_words event.call in
    ap (λ bytes. bytes ++ 10 ∷ [])
    (sym (fold-append (λ so_far word. so_far ++ 32 ∷ word) (text ++ decimal event.core) words (codes "=" ∷ outcome_words outcome)))
    ∙ line_written text (decimal event.core) (words ++ codes "=" ∷ outcome_words outcome)

-- the lines so far, and one more
pub lines_more : (events : List Event) (outcomes : List Outcome) (n : ℕ) (event : Event) (outcome : Outcome) (text : List ℕ)
    → n < length events → n < length outcomes → ((d : Event) → event ≡ get_or events n d)
    → ((d : Outcome) → outcome ≡ get_or outcomes n d)
    → text ≡ text_of (log_header ∷ map entry_words (take n (zip events outcomes)))
    → text ++ line_text (entry_words (event, outcome)) ≡ text_of (log_header ∷ map entry_words (take (n + 1) (zip events outcomes)))
lines_more events outcomes n event outcome text more_events more_outcomes is_event is_outcome so_far =
    let entry : Event × Outcome = (event, outcome) in
    let here : get_or (zip events outcomes) n entry ≡ entry =
    get_or-zip events outcomes n entry more_events more_outcomes
    ∙ ap (λ (e : Event). (e, get_or outcomes n outcome)) (sym (is_event event))
    ∙ ap (λ (o : Outcome). (event, o)) (sym (is_outcome outcome)) in
    let grown : take (n + 1) (zip events outcomes) ≡ take n (zip events outcomes) ++ entry ∷ [] =
    take_more (zip events outcomes) n entry (omega (arith, length-zip events outcomes))
    ∙ ap (λ e. take n (zip events outcomes) ++ e ∷ []) here in
    ap (λ bytes. bytes ++ line_text (entry_words entry)) so_far
    ∙ flat_map_more (λ line. spelled line ++ 10 ∷ []) (spelled log_header ++ 10 ∷ [])
    (map entry_words (take n (zip events outcomes))) (entry_words entry)
    ∙ ap (λ lines. text_of (log_header ∷ lines)) (sym (map-append entry_words (take n (zip events outcomes)) (entry ∷ [])))
    ∙ ap (λ entries. text_of (log_header ∷ map entry_words entries)) (sym grown)

-- the last line ends the lines of all entries
pub lines_all : (events : List Event) (outcomes : List Outcome) (n : ℕ) (text : List ℕ)
    → n ≡ min (length events) (length outcomes) → text ≡ text_of (log_header ∷ map entry_words (take n (zip events outcomes)))
    → text ++ codes "end\n" ≡ log_text (zip events outcomes)
lines_all events outcomes n text all so_far =
    ap (λ bytes. bytes ++ codes "end\n") so_far
    ∙ ap (λ entries. text_of (log_header ∷ map entry_words entries) ++ codes "end\n")
    (take_all n (zip events outcomes) (omega (arith, length-zip events outcomes)))
    ∙ flat_map_more (λ line. spelled line ++ 10 ∷ []) (spelled log_header ++ 10 ∷ [])
    (map entry_words (zip events outcomes)) last_line
