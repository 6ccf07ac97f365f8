-- Lines of scripts and of logs: one is read just where it spells an event, or an entry, that is within the limits.
use Rattle.std.proofs.Common.{ℕ, ◌&&◌, ◌<◌, ◌∙◌, ◌≡◌, Bool, Err, List, Ok, ap, cond, false, lt-ltb, ltb-true, nat_lt, refl, subst, true}
use Rattle.{std.proofs.lemmas.Bool.{and_from, and_parts, cond-true}, base.specs.declared.limits.TheConstants.MAX_EVENTS}
use Rattle.words.{specs.{declared.faults.Wrong.TheVariants.Limit, Reading.bind}, proofs.Parts.{alone_again, alone_takes, last_again}}
use Rattle.{words.proofs.{Parts.last_takes, WordLaws.bind_ok}, machine.specs.declared.call.{Event.Event, Outcome.Outcome}}
use Rattle.evtext.specs.{Event.{HasNumbers, event_words, within_limits}, Log.{IsEntry, entry_words, log_line}}
use Rattle.evtext.{specs.Script.script_line, proofs.{EntryWords.entry_part, EventWords.event_part}}
use Rattle.base.specs.declared.core_number.TheConstants.CoreNo as CoreNo

-- words that spell an event
abbrev pub IsEventLine : List (List ℕ) → Event → Type 0
IsEventLine words event = (words ≡ event_words event) × HasNumbers event

-- words that spell an entry
abbrev pub IsEntryLine : List (List ℕ) → Event × Outcome → Type 0
IsEntryLine words entry = (words ≡ entry_words entry) × IsEntry entry

-- an event within the limits is given as it is

limited : (before : ℕ) (taken event : Event) → within_limits before taken ≡ Ok event
    → (taken ≡ event) × (taken.core < CoreNo.COUNT) × (before < MAX_EVENTS)
unfolding within_limits
limited before taken event h = by_test (nat_lt taken.core CoreNo.COUNT && nat_lt before MAX_EVENTS) refl h
  where
    by_test : (fits : Bool) → (nat_lt taken.core CoreNo.COUNT && nat_lt before MAX_EVENTS) ≡ fits
        → cond fits (Ok taken) (Err Limit) ≡ Ok event → (taken ≡ event) × (taken.core < CoreNo.COUNT) × (before < MAX_EVENTS)
    by_test true fits given =
        let same : taken ≡ event = cc in
        let parts = and_parts _ _ fits in
        (same, ltb-true _ _ parts.0, ltb-true _ _ parts.1)
    by_test false fits given = absurd (cc given)

limited_again : (before : ℕ) (event : Event) → event.core < CoreNo.COUNT → before < MAX_EVENTS → within_limits before event ≡ Ok event
unfolding within_limits
limited_again before event core few = cond-true _ _ _ (and_from _ _ (lt-ltb _ _ core) (lt-ltb _ _ few))

-- lines of scripts

pub line_read : (before : ℕ) (words : List (List ℕ)) (event : Event) → script_line before words ≡ Ok event
    → IsEventLine words event × (event.core < CoreNo.COUNT) × (before < MAX_EVENTS)
unfolding script_line
line_read before words event h =
    let read = alone_takes event_part (within_limits before) words event h in
    let limits = limited before read.0 event read.3 in
    subst (λ e. IsEventLine words e × (e.core < CoreNo.COUNT) × (before < MAX_EVENTS)) limits.0
    ((read.1, read.2), limits.1, limits.2)

pub line_read_back : (before : ℕ) (words : List (List ℕ)) (event : Event)
    → (IsEventLine words event × (event.core < CoreNo.COUNT) × (before < MAX_EVENTS)) → script_line before words ≡ Ok event
unfolding script_line
line_read_back before words event is =
    ap (λ w. script_line before w) is.0.0 ∙ alone_again event_part (within_limits before) event is.0.1
    ∙ limited_again before event is.1 is.2

-- lines of logs

pub entry_read : (before : ℕ) (words : List (List ℕ)) (entry : Event × Outcome) → log_line before words ≡ Ok entry
    → IsEntryLine words entry × (entry.0.core < CoreNo.COUNT) × (before < MAX_EVENTS)
unfolding log_line
entry_read before words entry h =
    let read = last_takes entry_part (λ taken. bind (within_limits before taken.0) (λ event. Ok (event, taken.1))) words entry h in
    let within = bind_ok (within_limits before read.0.0) (λ event. Ok (event, read.0.1)) entry read.3 in
    let limits = limited before read.0.0 within.0 within.1 in
    taken_is read.0 within.0 limits.0 (cc within.2) ((read.1, read.2), limits.1, limits.2)
  where
    taken_is :
        (taken : Event × Outcome) (event : Event) → taken.0 ≡ event → ◌≡◌ {A = Event × Outcome} (event, taken.1) entry
        → IsEntryLine words taken × (taken.0.core < CoreNo.COUNT) × (before < MAX_EVENTS)
        → IsEntryLine words entry × (entry.0.core < CoreNo.COUNT) × (before < MAX_EVENTS)
    taken_is taken event same pair is =
        subst (λ (e : Event × Outcome). IsEntryLine words e × (e.0.core < CoreNo.COUNT) × (before < MAX_EVENTS)) pair
        (subst (λ (e : Event). IsEntryLine words (e, taken.1) × (e.core < CoreNo.COUNT) × (before < MAX_EVENTS)) same is)

pub entry_read_back : (before : ℕ) (words : List (List ℕ)) (entry : Event × Outcome)
    → (IsEntryLine words entry × (entry.0.core < CoreNo.COUNT) × (before < MAX_EVENTS)) → log_line before words ≡ Ok entry
unfolding log_line bind
entry_read_back before words entry is =
    ap (λ w. log_line before w) is.0.0
    ∙ last_again entry_part (λ taken. bind (within_limits before taken.0) (λ event. Ok (event, taken.1))) entry is.0.1
    ∙ ap (λ r. bind r (λ event. Ok (event, entry.1))) (limited_again before entry.0 is.1 is.2)
