-- Entries of a log as steps: a log that stops at an entry is no run, since two steps of an event with one outcome lead to one machine.
use Rattle.std.specs.{List.{All, zip}, Prelude.{Option, is_some, length, map, not, slice_get, take}}
use Rattle.std.proofs.Common.{[], ℕ, ◌++◌, ◌+◌, ◌<◌, ◌∙◌, ◌∷◌, ◌≡◌, ◌≢◌, ◌⊎◌, Bool, Err, List, None, Ok, Result, Some}
use Rattle.std.proofs.{Common.{ap, arith, inl, inr, refl, subst, suc, sym, zero}, Math.{Nat.le_refl, Seq.take-length}}
use Rattle.std.proofs.lemmas.{Bool.cases_order, List.{map_push, take_more}, Option.{get_or_from_slice_get, same_Some, slice_get_within}}
use Rattle.base.specs.declared.refusal.{Cause.Cause, Refusal.Refusal}
use Rattle.base.{specs.Refusals.{out_of_memory, refusal_of}, proofs.CauseLemmas.cause_no_memory}
use Rattle.machine.specs.{declared.call.{Event.Event, Made.Made, Outcome.{Outcome, TheVariants.Refused}}, Machine.Machine}
use Rattle.machine.specs.{Outcomes.IsRefused, Run.Run, Step.{LacksMemory, Step, Step.{ends, lacks}, made_by, step_of, takes_memory}}
use Rattle.{steps.proofs.Steps.{Ended, refused_changes_nothing, refused_steps, runs_end, steps_agree}, untyped.specs.Making.refusal_in}
use Rattle.kernel.specs.Legal.{Entry, Follows, IsLack, IsLeftAt, IsReachedIn, LacksMemoryIn, IsLogBetween, StopsAt, next_of}
use Rattle.kernel.{specs.Refusals.lasting_refusal, proofs.RunLemmas.run_further}

-- a call that takes memory is refused in any case as its row says
lasting_is : (m : Machine) (event : Event) → takes_memory event.call ≡ Bool.true → lasting_refusal m event ≡ refusal_in (made_by m event)
lasting_is m event takes = rw takes refl

-- a call that could be made may lack memory
made_lacks :
    (m : Machine) (event : Event) (made : Result (Made × Machine) Cause) → takes_memory event.call ≡ Bool.true
    → made_by m event ≡ made → refusal_in made ≡ None → Step m event (Refused out_of_memory) m
made_lacks m event (Ok made) takes is none =
    lacks (record { takes = takes; made = made; could = is; refused = refl; same = refl })
made_lacks m event (Err cause) takes is none = cc

may_lack :
    (m : Machine) (event : Event) → takes_memory event.call ≡ Bool.true → lasting_refusal m event ≡ None
    → Step m event (Refused out_of_memory) m
may_lack m event takes none = made_lacks m event (made_by m event) takes refl (sym (lasting_is m event takes) ∙ none)

-- a call that is refused in any case has that refusal
refused_is :
    (m : Machine) (event : Event) (refusal : Refusal) (made : Result (Made × Machine) Cause) → made_by m event ≡ made
    → refusal_in made ≡ Some refusal → Step m event (Refused refusal) m
refused_is m event refusal (Ok made) is some = cc
refused_is m event refusal (Err cause) is some =
    subst (λ (r : Refusal). Step m event (Refused r) m) (same_Some (refusal_of cause) refusal some) (refused_steps m event cause is)

is_refused :
    (m : Machine) (event : Event) (refusal : Refusal) → takes_memory event.call ≡ Bool.true
    → lasting_refusal m event ≡ Some refusal → Step m event (Refused refusal) m
is_refused m event refusal takes some = refused_is m event refusal (made_by m event) refl (sym (lasting_is m event takes) ∙ some)

-- it lacks no memory
refused_lacks_none :
    (m : Machine) (event : Event) (outcome : Outcome) (next : Machine) (refusal : Refusal) (made : Result (Made × Machine) Cause)
    → made_by m event ≡ made → refusal_in made ≡ Some refusal → ¬ (LacksMemory m event outcome next)
refused_lacks_none m event outcome next refusal (Ok made) is some lack = cc
refused_lacks_none m event outcome next refusal (Err cause) is some lack = cc (lack.could)

-- it isn't refused for want of memory
refused_lasts :
    (refusal : Refusal) (made : Result (Made × Machine) Cause) → refusal_in made ≡ Some refusal → refusal ≢ out_of_memory
refused_lasts refusal (Ok made) is = cc
refused_lasts refusal (Err cause) is = λ same. cause_no_memory cause (same_Some (refusal_of cause) refusal is ∙ same)

not_lacking :
    (m : Machine) (event : Event) (refusal : Refusal) → takes_memory event.call ≡ Bool.true
    → lasting_refusal m event ≡ Some refusal → (next : Machine) → ¬ (Step m event (Refused out_of_memory) next)
not_lacking m event refusal takes some next step =
    by (steps_agree m event (Refused refusal) (Refused out_of_memory) m next (is_refused m event refusal takes some) step) where
      row : refusal_in (made_by m event) ≡ Some refusal
      row = sym (lasting_is m event takes) ∙ some

      by : ((Refused refusal ≡ Refused out_of_memory) × (m ≡ next))
          ⊎ (LacksMemory m event (Refused refusal) m ⊎ LacksMemory m event (Refused out_of_memory) next) → ⊥
      by (inl same) = refused_lasts refusal (made_by m event) row (cc (same.0))
      by (inr (inl lack)) = refused_lacks_none m event (Refused refusal) m refusal (made_by m event) refl row lack
      by (inr (inr lack)) = refused_lacks_none m event (Refused out_of_memory) next refusal (made_by m event) refl row lack

-- the step of a call that lacked no memory is the one that its event makes if there is memory
pub with_memory :
    (m : Machine) (event : Event) (came : Outcome) (next : Machine) → Step m event came next → ¬ (IsLack event came)
    → next ≡ next_of m event
with_memory m event came next (ends is) memory = sym (ap (λ (step : Outcome × Machine). step.1) is)
with_memory m event came next (lacks lack) memory = absurd (memory (lack.takes, lack.refused))

-- a refusal that comes in any case is such a step too
refused_next :
    (m : Machine) (event : Event) (refusal : Refusal) → takes_memory event.call ≡ Bool.true
    → lasting_refusal m event ≡ Some refusal → m ≡ next_of m event
refused_next m event refusal takes some =
    let row : refusal_in (made_by m event) ≡ Some refusal = sym (lasting_is m event takes) ∙ some in
    with_memory m event (Refused refusal) m (is_refused m event refusal takes some)
    (λ lack. refused_lasts refusal (made_by m event) row (cc (lack.1)))

-- an event may end for want of memory exactly if it isn't refused in any case
pub follows_lack :
    (m : Machine) (event : Event) (refusal : Option Refusal) (lacking : Bool) → takes_memory event.call ≡ Bool.true
    → lasting_refusal m event ≡ refusal → is_some refusal ≡ not lacking → Follows m event (Refused out_of_memory) m lacking
follows_lack m event None Bool.true takes is told = may_lack m event takes is
follows_lack m event None Bool.false takes is told = cc
follows_lack m event (Some refusal) Bool.true takes is told = cc
follows_lack m event (Some refusal) Bool.false takes is told =
    (not_lacking m event refusal takes is, refused_next m event refusal takes is)

-- a step that lacked memory, and one with the same outcome, leave the machine as it was
lacking_agree :
    (m : Machine) (event : Event) (outcome : Outcome) (next after : Machine) → Step m event outcome next
    → Step m event outcome after → LacksMemory m event outcome next ⊎ LacksMemory m event outcome after → next ≡ after
lacking_agree m event outcome next after one other (inl lack) =
    lack.same ∙ sym (refused_changes_nothing m event outcome after other (subst IsRefused (sym lack.refused) tt))
lacking_agree m event outcome next after one other (inr lack) =
    refused_changes_nothing m event outcome next one (subst IsRefused (sym lack.refused) tt) ∙ sym lack.same

pub one_next :
    (m : Machine) (event : Event) (outcome : Outcome) (next after : Machine) → Step m event outcome next
    → Step m event outcome after → next ≡ after
one_next m event outcome next after one other = by (steps_agree m event outcome outcome next after one other) where
  by :
      ((outcome ≡ outcome) × (next ≡ after)) ⊎ (LacksMemory m event outcome next ⊎ LacksMemory m event outcome after) → next ≡ after
  by (inl same) = same.1
  by (inr lack) = lacking_agree m event outcome next after one other lack

-- each entry of a run at the beginning is a step from where those before it lead
step_within :
    (first last mid : Machine) (entries : List Entry) (at most : ℕ) (entry : Entry) → IsLogBetween first (take most entries) last
    → slice_get entries at ≡ Some entry → at < most → IsLogBetween first (take at entries) mid
    → (next : Machine) × Step mid entry.0 entry.1 next
step_within first last mid [] at most entry ran here below led = cc
step_within first last mid (e ∷ es) at zero entry ran here below led = absurd (omega (arith, below))
step_within first last mid (e ∷ es) zero (suc most) entry ran here below led =
    let same : e ≡ entry = same_Some e entry here in
    let step : Step first entry.0 entry.1 ran.0 = subst (λ (x : Entry). Step first x.0 x.1 ran.0) same ran.1 in
    (ran.0, subst (λ (m : Machine). Step m entry.0 entry.1 ran.0) led step)
step_within first last mid (e ∷ es) (suc at) (suc most) entry ran here below led =
    let one : ran.0 ≡ led.0 = one_next first e.0 e.1 ran.0 led.0 ran.1 led.1 in
    step_within led.0 last mid es at most entry (subst (λ (m : Machine). IsLogBetween m (take most es) last) one ran.2) here (omega (arith, below)) led.2

pub no_run :
    (first last : Machine) (entries : List Entry) (at : ℕ) → StopsAt first entries at → ¬ (IsLogBetween first entries last)
no_run first last entries at stops ran =
    let all : IsLogBetween first (take (length entries) entries) last = subst (λ (es : List Entry). IsLogBetween first es last) (sym (take-length entries)) ran in
    let step = step_within first last stops.last entries at (length entries) stops.entry all stops.here (slice_get_within entries at stops.entry stops.here) stops.led in
    stops.stuck step.0 step.1

-- entries that lead somewhere, and one more entry
pub led_further :
    (first last next : Machine) (entries : List Entry) (entry : Entry) → IsLogBetween first entries last → Step last entry.0 entry.1 next
    → IsLogBetween first (entries ++ entry ∷ []) next
led_further first last next entries entry ran step =
    let further = run_further first (map (λ (e : Entry). e.0) entries) (map (λ (e : Entry). e.1) entries) last entry.0 entry.1 next ran step in
    rw (map_push (λ (e : Entry). e.0) entries entry, map_push (λ (e : Entry). e.1) entries entry) further

-- a run stops at the earlier of two entries, and doesn't reach the later
not_later :
    (first : Machine) (entries : List Entry) (at other : ℕ) → StopsAt first entries at → StopsAt first entries other → at < other → ⊥
not_later first entries at other stops further below =
    let step = step_within first further.last stops.last entries at other stops.entry further.led stops.here below stops.led in
    stops.stuck step.0 step.1

pub one_stop :
    (first : Machine) (entries : List Entry) (at other : ℕ) → StopsAt first entries at → StopsAt first entries other → at ≡ other
one_stop first entries at other one two = elim (cases_order at other) [
  | inl same ↦ same
  | inr (inl below) ↦ absurd (not_later first entries at other one two below)
  | inr (inr above) ↦ absurd (not_later first entries other at two one above)
]

-- the end of each entry of a legal log

zipped : (entries : List Entry) → zip (map (λ entry. entry.0) entries) (map (λ entry. entry.1) entries) ≡ entries
zipped [] = refl
zipped (entry ∷ entries) = ap (λ (rest : List Entry). entry ∷ rest) (zipped entries)

pub legal_ends : (first last : Machine) (entries : List Entry) → IsLogBetween first entries last → All Ended entries
legal_ends first last entries ran =
    subst (All Ended) (zipped entries)
    (runs_end first (map (λ (e : Entry). e.0) entries) (map (λ (e : Entry). e.1) entries) last ran)

-- the machine where a log stops, or lacks memory, is reached by the log's events

-- an event that isn't the step that its entry claims ended otherwise
pub stops :
    (first last next : Machine) (entries : List Entry) (at : ℕ) (entry : Entry) → slice_get entries at ≡ Some entry
    → IsLogBetween first (take at entries) last → Follows last entry.0 entry.1 next Bool.false
    → (stop : StopsAt first entries at) × (next ≡ next_of stop.last stop.entry.0)
stops first last next entries at entry here led follows =
    (record { entry = entry; here = here; last = last; led = led; stuck = follows.0 }, follows.1)

-- what an event makes if there is memory is a step
makes_next : (m : Machine) (event : Event) (next : Machine) → next ≡ next_of m event → Step m event (step_of m event).0 next
makes_next m event next is = subst (λ (after : Machine). Step m event (step_of m event).0 after) (sym is) (ends refl)

-- the events before an entry, and its own
reached_by_one :
    (first last next : Machine) (entries : List Entry) (at : ℕ) (entry : Entry) (came : Outcome) → slice_get entries at ≡ Some entry
    → IsLogBetween first (take at entries) last → Step last entry.0 came next → IsReachedIn first entries next
reached_by_one first last next entries at entry came here led step =
    let within : at < length entries = slice_get_within entries at entry here in
    let more : take (at + 1) entries ≡ take at entries ++ entry ∷ [] =
    take_more entries at entry within ∙ ap (λ (x : Entry). take at entries ++ x ∷ []) (get_or_from_slice_get entries at entry entry here) in
    let events : List Entry → List Event = map (λ (e : Entry). e.0) in
    let outcomes : List Outcome = map (λ (e : Entry). e.1) (take at entries) ++ came ∷ [] in
    let ran : Run first (events (take at entries) ++ entry.0 ∷ []) outcomes next =
    run_further first (events (take at entries)) (map (λ (e : Entry). e.1) (take at entries)) last entry.0 came next led step in
    record {
      count = at + 1;
      within = omega (arith, within);
      outcomes = outcomes;
      ran = rw (more, map_push (λ (e : Entry). e.0) (take at entries) entry) ran;
    }

pub left_is_reached :
    (first last : Machine) (entries : List Entry) (result : Result (Option ℕ) Refusal) → IsLeftAt first entries last result
    → IsReachedIn first entries last
left_is_reached first last entries (Ok None) led =
    record {
      count = length entries;
      within = le_refl (length entries);
      outcomes = map (λ (e : Entry). e.1) entries;
      ran = subst (λ (es : List Entry). Run first (map (λ (e : Entry). e.0) es) (map (λ (e : Entry). e.1) entries) last) (sym (take-length entries)) led;
    }
left_is_reached first last entries (Ok (Some at)) left =
    let stop : StopsAt first entries at = left.0 in
    reached_by_one first stop.last last entries at stop.entry (step_of stop.last stop.entry.0).0 stop.here stop.led
    (makes_next stop.last stop.entry.0 last left.1)
left_is_reached first last entries (Err _) left =
    let lack : LacksMemoryIn first entries = left.0 in
    let within : lack.at < length entries = slice_get_within entries lack.at lack.entry lack.here in
    record {
      count = lack.at;
      within = omega (arith, within);
      outcomes = map (λ (e : Entry). e.1) (take lack.at entries);
      ran = subst (λ (m : Machine). IsLogBetween first (take lack.at entries) m) (sym left.1) lack.led;
    }
