-- The events of one core, as its worker goes through the script.
use Rattle.std.proofs.Common.{[], ℕ, ◌++◌, ◌+◌, ◌<◌, ◌==◌, ◌∙◌, ◌∷◌, ◌≡◌, List, ap, arith, cond, drop, eq-eqb, get_or, length, subst, sym}
use Rattle.std.proofs.{Common.take, lemmas.List.{Elements.{filter-append, filter_more}, length-append, length-map, take-append-drop}}
use Rattle.{machine.specs.declared.call.Event.Event, cores.specs.{declared.view.Noted.Noted, SplitRun.on_core, Workers.events_of}}

-- an event on the core comes after those before it
pub one_kept : (core : ℕ) (events : List Event) (i : ℕ) (event : Event) → i < length events → event ≡ get_or events i event
    → event.core ≡ core → on_core core (take (i + 1) events) ≡ on_core core (take i events) ++ event ∷ []
one_kept core events i event inside here on =
    subst (λ (e : Event). on_core core (take (i + 1) events) ≡ on_core core (take i events) ++ cond (e.core == core) (e ∷ []) []) (sym here)
    (filter_more (λ (e : Event). e.core == core) events i event inside)
    ∙ ap (λ b. on_core core (take i events) ++ cond b (event ∷ []) []) (eq-eqb event.core core on)

-- who made the events before an event on the core made fewer than the core has
pub one_left : (core : ℕ) (events : List Event) (i : ℕ) (event : Event) (mine : List Noted) → i < length events
    → event ≡ get_or events i event → event.core ≡ core → events_of mine ≡ on_core core (take i events)
    → length mine < length (on_core core events)
one_left core events i event mine inside here on made =
    let all = on_core core events in
    let before = on_core core (take i events) in
    let upto = on_core core (take (i + 1) events) in
    let beyond = on_core core (drop (i + 1) events) in
    let whole : upto ++ beyond ≡ all =
    sym (filter-append (λ (e : Event). e.core == core) (take (i + 1) events) (drop (i + 1) events))
    ∙ ap (on_core core) (take-append-drop (i + 1) events) in
    let more : length upto ≡ length before + 1 =
    ap length (one_kept core events i event inside here on) ∙ length-append before (event ∷ []) in
    let parts : length upto + length beyond ≡ length all = sym (length-append upto beyond) ∙ ap length whole in
    let mades : length mine ≡ length before = sym (length-map mine (λ (n : Noted). n.event)) ∙ ap length made in
    omega (arith, more, parts, mades)
