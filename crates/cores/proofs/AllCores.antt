-- The workers of all cores: what they made together is the script.
use Rattle.std.proofs.Common.{[], ℕ, ◌++◌, ◌<◌, ◌==◌, ◌∙◌, ◌∷◌, ◌≡◌, ◌≤◌, ◌⊎◌, All, Bool, List, Some, ap, arith, cond, false, inl, inr}
use Rattle.std.proofs.{Common.{length, map, refl, slice_get, slice_index_or, subst, sym, true}, lemmas.List.Elements.{All-head, All-tail}}
use Rattle.std.proofs.lemmas.{List.{length-append, length-map}, Option.{get_or_from_slice_get, slice_get-get_or, slice_get_within}}
use Rattle.{machine.specs.{declared.call.Event.Event, Machine.{Machine, empty_machine}}, kernel.specs.Legal.{Entry, IsLogBetween}}
use Rattle.cores.specs.{declared.view.Noted.Noted, History.{OnCores, log_of, own}, Rule.about, Seats.{AreNew, Closes, IsOf, Known}}
use Rattle.cores.specs.{Seats.{Looks, Ticket, new_seat, no_table}, SplitRun.{IsSplitRun, on_core}, Workers.{AreAllCores, IsUnused, Worked}}
use Rattle.cores.{specs.Workers.events_of, proofs.Counting.{part, parts_most, parts_whole, total, total_less, total_same}}
use Rattle.base.specs.declared.core_number.TheConstants.CoreNo as CoreNo

pub chosen : (b : Bool) (noted : Noted) (events : List Event) (rest : List Noted) → events ≡ events_of rest
    → cond b (noted.event ∷ events) events ≡ events_of (cond b (noted ∷ rest) rest)
chosen true noted events rest same = ap (λ (es : List Event). noted.event ∷ es) same
chosen false noted events rest same = same

-- the seat that was dealt at a place
pub dealt_at : (t : Ticket) (seats : List Known) (k : ℕ) (d : Known) → AreNew t seats → k < length seats
    → slice_index_or seats k d ≡ new_seat t.table (about t.boot t.cores) t.name k (slice_index_or t.cores k 0)
dealt_at t seats k d new inside =
    let core = slice_index_or t.cores k 0 in
    let here : slice_get t.cores k ≡ Some core = slice_get-get_or t.cores k 0 (omega (arith, inside, new.count)) in
    get_or_from_slice_get seats k (new_seat t.table (about t.boot t.cores) t.name k core) d (new.each k core here)

pub all_fresh : (t : Ticket) (seats : List Known) → AreNew t seats → All (IsOf t) seats → All (IsUnused t) seats
all_fresh t seats new of k d inside =
    record { of = of k d inside; new = ap (λ (s : Known). s.mine) (dealt_at t seats k d new inside) }

-- a core's events are those of its seat, if the seat of each number is on the core of that number
pub of_core : (cores : List ℕ) → AreAllCores cores → (k : ℕ) (history : List Noted) → OnCores cores history
    → on_core k (map (λ (entry : Entry). entry.0) (log_of history)) ≡ events_of (own k history)
of_core cores all k [] on = refl
of_core cores all k (noted ∷ rest) on =
    let before = on_core k (map (λ (entry : Entry). entry.0) (log_of rest)) in
    let here = All-head (λ (n : Noted). slice_get cores n.seat ≡ Some n.event.core) noted rest on in
    let there = All-tail (λ (n : Noted). slice_get cores n.seat ≡ Some n.event.core) noted rest on in
    ap (λ core. cond (core == k) (noted.event ∷ before) before) (all.each noted.seat noted.event.core here)
    ∙ chosen (noted.seat == k) noted before (own k rest) (of_core cores all k rest there)

pub seats_below : (cores : List ℕ) → AreAllCores cores → (history : List Noted) → OnCores cores history
    → All (λ (noted : Noted). noted.seat < CoreNo.COUNT) history
seats_below cores all history on k d inside =
    let noted = slice_index_or history k d in
    subst (λ n. noted.seat < n) all.count (slice_get_within cores noted.seat noted.event.core (on k d inside))

-- all workers are done, and the kernel is closed
pub record Done (t : Ticket) (events : List Event) (seats worked closed : List Known) (state : Machine) (log : List Entry) : Type 0 where
  pub all : AreAllCores t.cores
  pub new : AreNew t seats
  pub below : All (λ (event : Event). event.core < CoreNo.COUNT) events
  pub room : length events ≤ t.size
  pub count : length worked ≡ length seats
  pub each : (i : ℕ) (d : Known) → i < length seats → Worked t events (slice_index_or seats i d) (slice_index_or worked i d)
  pub closes : Closes t state log worked closed

abbrev pub nobody : Known
nobody = new_seat no_table (about empty_machine []) 0 0 0

abbrev pub seat_at : List Known → ℕ → Known
seat_at seats k = slice_index_or seats k nobody

module _ (t : Ticket) (events : List Event) (seats worked closed : List Known) (state : Machine) (log : List Entry)
    (done : Done t events seats worked closed state log) where
  abbrev pub history : List Noted
  history = done.closes.history

  pub inside : (k : ℕ) → k < CoreNo.COUNT → k < length seats
  inside k below = omega (arith, below, done.new.count, done.all.count)

  pub worked_at : (k : ℕ) → k < CoreNo.COUNT → Worked t events (seat_at seats k) (seat_at worked k)
  worked_at k below = done.each k nobody (inside k below)

  pub new_at : (k : ℕ) → k < CoreNo.COUNT → ((seat_at seats k).number ≡ k) × ((seat_at seats k).core ≡ k)
  new_at k below =
      let core = slice_index_or t.cores k 0 in
      let here : slice_get t.cores k ≡ Some core = slice_get-get_or t.cores k 0 (omega (arith, below, done.all.count)) in
      let is = dealt_at t seats k nobody done.new (inside k below) in
      (ap (λ (s : Known). s.number) is, ap (λ (s : Known). s.core) is ∙ done.all.each k core here)

  pub core_at : (k : ℕ) → k < CoreNo.COUNT → (seat_at worked k).core ≡ k
  core_at k below = (worked_at k below).core ∙ (new_at k below).1

  pub looks_at : (k : ℕ) → k < CoreNo.COUNT → Looks (seat_at worked k) (seat_at closed k)
  looks_at k below = done.closes.looks k nobody (omega (arith, inside k below, done.count))

  pub whole_at : (k : ℕ) → k < CoreNo.COUNT → (seat_at closed k).seen ≡ history
  whole_at k below = done.closes.whole k nobody (omega (arith, inside k below, done.count))

  -- the history has just the entries of a worker that it made
  pub own_at : (k : ℕ) → k < CoreNo.COUNT → own k history ≡ (seat_at worked k).mine
  own_at k below =
      let looks = looks_at k below in
      let seat = seat_at closed k in
      let number : seat.number ≡ k = looks.same.number ∙ ((worked_at k below).number ∙ (new_at k below).0) in
      ap (λ n. own n history) (sym number)
      ∙ (ap (own seat.number) (sym (whole_at k below)) ∙ (looks.exact ∙ looks.made))

  -- a worker saw no more than there is
  pub seen_at : (k : ℕ) → k < CoreNo.COUNT → length (seat_at worked k).seen ≤ length history
  seen_at k below =
      let begins = (looks_at k below).begins in
      let parts = length-append (seat_at worked k).seen begins.0 in
      let whole : length ((seat_at worked k).seen ++ begins.0) ≡ length history = ap length begins.1 ∙ ap length (whole_at k below) in
      omega (arith, parts, whole)

  pub made_at : (k : ℕ) → k < CoreNo.COUNT
      → (events_of (own k history) ≡ on_core k events)
      ⊎ ((length (own k history) < length (on_core k events)) × (length (seat_at worked k).seen ≡ t.size))
  made_at k below =
      let core = core_at k below in
      let mine = own_at k below in
      elim (worked_at k below).made [
        | inl made ↦ inl (ap events_of mine ∙ (made ∙ ap (λ c. on_core c events) core))
        | inr left ↦
            let less = subst (λ (m : List Noted). length m < length (on_core (seat_at worked k).core events)) (sym mine) left.0 in
            inr (subst (λ c. length (own k history) < length (on_core c events)) core less, left.1)
      ]

  pub most_at : (k : ℕ) → k < CoreNo.COUNT → length (own k history) ≤ length (on_core k events)
  most_at k below = elim (made_at k below) [
    | inl made ↦
        let same = sym (length-map (own k history) (λ (n : Noted). n.event)) ∙ ap length made in
        omega (arith, same)
    | inr left ↦ omega (arith, left.0)
  ]

  pub counted : total (part (λ (n : Noted). n.seat) history) CoreNo.COUNT ≡ length history
  counted = parts_whole (λ (n : Noted). n.seat) history CoreNo.COUNT (seats_below t.cores done.all history done.closes.on_cores)

  -- no worker found the log full: there is room for the whole script
  pub never_full : (k : ℕ) → k < CoreNo.COUNT → length (own k history) < length (on_core k events)
      → length (seat_at worked k).seen ≡ t.size → ⊥
  never_full k below less full =
      let fewer = total_less (part (λ (n : Noted). n.seat) history) (part (λ (e : Event). e.core) events) CoreNo.COUNT k below most_at less in
      let script = parts_most (λ (e : Event). e.core) events CoreNo.COUNT in
      omega (arith, fewer, script, counted, seen_at k below, full, done.room)

  pub exact_at : (k : ℕ) → k < CoreNo.COUNT → events_of (own k history) ≡ on_core k events
  exact_at k below = elim (made_at k below) [
    | inl made ↦ made
    | inr left ↦ absurd (never_full k below left.0 left.1)
  ]

  pub same_at : (k : ℕ) → k < CoreNo.COUNT → length (own k history) ≡ length (on_core k events)
  same_at k below = sym (length-map (own k history) (λ (n : Noted). n.event)) ∙ ap length (exact_at k below)

  pub is_split : IsSplitRun t.boot events log state
  is_split =
      let logged = done.closes.logged in
      let script = parts_whole (λ (e : Event). e.core) events CoreNo.COUNT done.below in
      let same = total_same (part (λ (n : Noted). n.seat) history) (part (λ (e : Event). e.core) events) CoreNo.COUNT same_at in
      record {
        ran = subst (λ (entries : List Entry). IsLogBetween t.boot entries state) (sym logged) done.closes.run;
        each =
            λ core below.
            ap (λ (entries : List Entry). on_core core (map (λ (entry : Entry). entry.0) entries)) logged
            ∙ (of_core t.cores done.all core history done.closes.on_cores ∙ exact_at core below);
        count =
            ap length logged ∙ (length-map history (λ (n : Noted). (n.event, n.outcome)) ∙ (sym counted ∙ (same ∙ script)));
      }
