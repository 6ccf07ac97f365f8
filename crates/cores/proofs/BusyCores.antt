-- Busy cores, which the script has events on, and the number that a core's worker has at the gate.
use Rattle.std.{specs.Prelude.{Bool, false, if◌then◌else◌, slice_set, true}, proofs.Common.{[], ℕ, ◌+◌, ◌<◌, ◌==◌, ◌||◌, ◌∙◌, ◌∷◌, ◌≡◌}}
use Rattle.std.proofs.Common.{◌≢◌, List, Some, add-one, ap, arith, cond, eq-eqb, get_or, inl, inr, length, ne_eqb, refl, subst, sym, take}
use Rattle.std.proofs.lemmas.{Bool.cases_order, List.{Folds.list_any_more, get_or-set_other, get_or-set_same, length-set}}
use Rattle.std.proofs.lemmas.Option.{get_or_from_slice_get, slice_get-get_or, slice_get_within}
use Rattle.{machine.specs.declared.call.Event.Event, cores.specs.{SplitRun.on_core, Workers.{AreBusy, has_events, worker_number}}}
use Rattle.base.specs.declared.core_number.TheConstants.CoreNo as CoreNo

either_true : (b : Bool) → (b || true) ≡ true
either_true true = refl
either_true false = refl

either_false : (b : Bool) → (b || false) ≡ b
either_false true = refl
either_false false = refl

-- one event more makes its core busy, and no other
pub one_busy :
    (events : List Event) (i : ℕ) (event : Event) (busy : List Bool) → i < length events → event ≡ get_or events i event
    → AreBusy (take i events) busy → AreBusy (take (i + 1) events) (slice_set busy event.core true)
one_busy events i event busy inside here known core below =
    let on : Event → Bool = λ (e : Event). e.core == core in
    let before = has_events (take i events) core in
    let within : core < length busy = slice_get_within busy core before (known core below) in
    let still : core < length (slice_set busy event.core true) = omega (arith, within, length-set busy event.core true) in
    let more : has_events (take (i + 1) events) core ≡ (before || on event) =
    list_any_more on events i event inside ∙ ap (λ (e : Event). before || on e) (sym here) in
    let found : get_or (slice_set busy event.core true) core false ≡ (before || on event) = elim (cases_order event.core core) [
      | inl same ↦
          subst (λ c. get_or (slice_set busy event.core true) c false ≡ true) same
          (get_or-set_same busy event.core true false (subst (λ c. c < length busy) (sym same) within))
          ∙ sym (ap (λ b. before || b) (eq-eqb event.core core same) ∙ either_true before)
      | inr (inl less) ↦ let apart : core ≢ event.core = λ same. absurd (omega (arith, less, same)) in
          get_or-set_other busy event.core core true false apart ∙ get_or_from_slice_get busy core before false (known core below)
          ∙ sym (ap (λ b. before || b) (ne_eqb event.core core (λ same. absurd (omega (arith, less, same)))) ∙ either_false before)
      | inr (inr more) ↦ let apart : core ≢ event.core = λ same. absurd (omega (arith, more, same)) in
          get_or-set_other busy event.core core true false apart ∙ get_or_from_slice_get busy core before false (known core below)
          ∙ sym (ap (λ b. before || b) (ne_eqb event.core core (λ same. absurd (omega (arith, more, same)))) ∙ either_false before)
    ] in
    slice_get-get_or (slice_set busy event.core true) core false still ∙ ap Some (found ∙ sym more)

-- the number of the next core's worker
pub next_number :
    (events : List Event) (busy : List Bool) (core number : ℕ) (b : Bool) → AreBusy events busy → core < CoreNo.COUNT
    → number ≡ worker_number events core → get_or busy core false ≡ b
    → number + (if b then 1 else 0) ≡ worker_number events (core + 1)
next_number events busy core number b known below is read =
    let here : b ≡ has_events events core = sym read ∙ get_or_from_slice_get busy core (has_events events core) false (known core below) in
    rw add-one
    (ap (λ n. n + (if b then 1 else 0)) is ∙ ap (λ c. worker_number events core + (if c then 1 else 0)) here)

kept_next :
    (core : ℕ) (event : Event) (events : List Event) (b : Bool) → (has_events events core ≡ false → on_core core events ≡ [])
    → (b || has_events events core) ≡ false → cond b (event ∷ on_core core events) (on_core core events) ≡ []
kept_next core event events true rest none = cc
kept_next core event events false rest none = rest none

kept_none : (core : ℕ) (events : List Event) → has_events events core ≡ false → on_core core events ≡ []
kept_none core [] none = refl
kept_none core (event ∷ events) none = kept_next core event events (event.core == core) (kept_none core events) none

-- a core that isn't busy has no event
pub none_on_core :
    (events : List Event) (busy : List Bool) (core : ℕ) → AreBusy events busy → core < CoreNo.COUNT → get_or busy core false ≡ false
    → on_core core events ≡ []
none_on_core events busy core known below read =
    kept_none core events (sym (get_or_from_slice_get busy core (has_events events core) false (known core below)) ∙ read)
