-- Seats and kernels as contracts see them, and what a kernel's calls do to what a seat has seen and made (confine's own).
use mathlib.Core.List.{IsPrefix}
use Rattle.std.specs.{Coded.{Coded, code_by, coded_list, coded_ℕ, coded×}, Prelude.{[], ℕ, ◌++◌, ◌<◌, ◌^◌, ◌∷◌, ◌≡◌, ◌≤◌, List, None, Some}}
use Rattle.{std.specs.Prelude.{length, refl, slice_get, slice_index_or, unwrap_or}, atomic_table.specs.Seated.{TableId, table_id_coded}}
use Rattle.machine.specs.{declared.call.{Event.Event, Outcome.Outcome}, Machine.{Machine, empty_machine}, WellFormed.IsWellFormed}
use Rattle.kernel.specs.Legal.{Entry, IsLogBetween}
use Rattle.cores.specs.declared.view.{About.About, Hand.Hand, Keeping.Keeping, Noted.Noted, View.View}
use Rattle.cores.specs.{History.{IsExactFor, IsLegal, OnCores, log_of, own}, Rule.{about, keeper_view}, Tokens.{IsAt, Token}}

-- a seat: which word it is of, what its kernel was opened with, the kernel's number, its own number and core, the beginning of the
-- history that it has seen, and its own entries
pub record Known : Type 0 where
  pub table : TableId
  pub start : About
  pub name : ℕ
  pub number : ℕ
  pub core : ℕ
  pub seen : List Noted
  pub mine : List Noted

-- a kernel: its word, what it was opened with, the size of its log, and its number
pub record Ticket : Type 0 where
  pub table : TableId
  pub boot : Machine
  pub cores : List ℕ
  pub size : ℕ
  pub name : ℕ

abbrev pub about_code : Coded Machine → Coded About
about_code machine =
    code_by (Machine × List ℕ) (coded× machine (coded_list coded_ℕ)) (λ a. (a.boot, a.cores)) (λ p. record { boot = p.0; cores = p.1 }) (λ _. refl)

abbrev pub ticket_code : Coded Machine → Coded Ticket
ticket_code machine =
    code_by (TableId × (Machine × (List ℕ × (ℕ × ℕ)))) (coded× table_id_coded (coded× machine (coded× (coded_list coded_ℕ) (coded× coded_ℕ coded_ℕ))))
    (λ t. (t.table, (t.boot, (t.cores, (t.size, t.name)))))
    (λ p. record { table = p.0; boot = p.1.0; cores = p.1.1.0; size = p.1.1.1.0; name = p.1.1.1.1 })
    (λ _. refl)

abbrev pub known_code : Coded Machine → Coded Noted → Coded Known
known_code machine noted =
    code_by (TableId × (About × (ℕ × (ℕ × (ℕ × (List Noted × List Noted))))))
    (coded× table_id_coded (coded× (about_code machine) (coded× coded_ℕ (coded× coded_ℕ (coded× coded_ℕ (coded× (coded_list noted) (coded_list noted)))))))
    (λ k. (k.table, (k.start, (k.name, (k.number, (k.core, (k.seen, k.mine)))))))
    (λ p.
    record {
      table = p.0;
      start = p.1.0;
      name = p.1.1.0;
      number = p.1.1.1.0;
      core = p.1.1.1.1.0;
      seen = p.1.1.1.1.1.0;
      mine = p.1.1.1.1.1.1;
    })
    (λ _. refl)

-- the view of a seat between its calls
abbrev pub seat_view : About → Hand → View
seat_view a hand = record { about = Some a; kept = None; hand = Some hand; guest = None }

abbrev pub hand_in : View → Hand
hand_in view = unwrap_or view.hand (record { number = 0; seen = []; mine = [] })

abbrev pub about_in : View → About
about_in view = unwrap_or view.about (about empty_machine [])

-- the seat that has this token
abbrev pub known : Token → ℕ → ℕ → ℕ → Known
known token name number core =
    record {
      table = token.table_id;
      start = about_in token.me.0;
      name = name;
      number = number;
      core = core;
      seen = (hand_in token.me.0).seen;
      mine = (hand_in token.me.0).mine;
    }

-- the token is that of the seat of this number, on its core; what it has seen is legal, and exact for it
pub record IsSeated (token : Token) (number core : ℕ) : Type 0 where
  pub start : About
  pub hand : Hand
  pub me : token.me ≡ (seat_view start hand, [])
  pub numbered : hand.number ≡ number
  pub on_core : slice_get start.cores number ≡ Some core
  pub legal : IsLegal start.boot start.cores hand.seen
  pub exact : IsExactFor number hand.seen hand.mine

-- the keeper may deal the seat of this number, on this core: it is the next one, and there is no entry
pub record CanSeat (keeper : View) (number core : ℕ) : Type 0 where
  pub start : About
  pub view : keeper ≡ keeper_view start (record { history = []; next = number })
  pub on_core : slice_get start.cores number ≡ Some core

-- what the keeper has of the history
abbrev pub keeping_in : View → Keeping
keeping_in view = unwrap_or view.kept (record { history = []; next = 0 })

abbrev pub history_of : Token → List Noted
history_of keeper = (keeping_in keeper.me.0).history

-- what lies under a kernel's lock: the keeper of its word, the log of the keeper's history, with room for all of it, and the state
-- at the end
pub record InOrder (t : Ticket) (keeper : Token) (log : List Entry) (capacity : ℕ) (state : Machine) : Type 0 where
  pub at : IsAt t.table keeper
  pub next : ℕ
  pub view : keeper.me.0 ≡ keeper_view (about t.boot t.cores) (record { history = history_of keeper; next = next })
  pub run : IsLogBetween t.boot (log_of (history_of keeper)) state
  pub formed : IsWellFormed state
  pub on_cores : OnCores t.cores (history_of keeper)
  pub logged : log ≡ log_of (history_of keeper)
  pub room : t.size ≤ capacity
  pub within : length log ≤ t.size

-- the seat is one of this kernel's
pub record IsOf (t : Ticket) (seat : Known) : Type 0 where
  pub table : seat.table ≡ t.table
  pub start : seat.start ≡ about t.boot t.cores
  pub name : seat.name ≡ t.name

-- the seat of this number, on this core, that has seen nothing
abbrev pub new_seat : TableId → About → ℕ → ℕ → ℕ → Known
new_seat table start name number core =
    record { table = table; start = start; name = name; number = number; core = core; seen = []; mine = [] }

-- the seats of this word are those of all cores, in their order, and none has seen or made an entry
pub record AreFresh (table : TableId) (start : About) (name : ℕ) (seats : List Known) : Type 0 where
  pub count : length seats ≡ length start.cores
  pub each :
      (number core : ℕ) → slice_get start.cores number ≡ Some core
      → slice_get seats number ≡ Some (new_seat table start name number core)

-- the seats are those of all cores of a kernel, and none has seen or made an entry
abbrev pub AreNew : Ticket → List Known → Type 0
AreNew t seats = AreFresh t.table (about t.boot t.cores) t.name seats

-- all but what a seat has seen and made is as it was
pub record IsSameSeat (before after : Known) : Type 0 where
  pub table : after.table ≡ before.table
  pub start : after.start ≡ before.start
  pub name : after.name ≡ before.name
  pub number : after.number ≡ before.number
  pub core : after.core ≡ before.core

-- the seat's call is the last entry of what it has seen, which begins with all that it had seen before
pub record Calls (before : Known) (event : Event) (outcome : Outcome) (after : Known) : Type 0 where
  pub same : IsSameSeat before after
  pub history : List Noted
  pub begins : IsPrefix before.seen history
  pub ends : after.seen ≡ history ++ record { seat = before.number; event = event; outcome = outcome } ∷ []
  pub legal : IsLegal after.start.boot after.start.cores after.seen
  pub exact : IsExactFor after.number after.seen after.mine
  pub grew : after.mine ≡ before.mine ++ record { seat = before.number; event = event; outcome = outcome } ∷ []

-- the seat has seen more of the history, and made nothing
pub record Looks (before after : Known) : Type 0 where
  pub same : IsSameSeat before after
  pub begins : IsPrefix before.seen after.seen
  pub legal : IsLegal after.start.boot after.start.cores after.seen
  pub exact : IsExactFor after.number after.seen after.mine
  pub made : after.mine ≡ before.mine

-- two seats of one kernel have seen one legal history, which is exact for both
pub record Meet (first second : Known) : Type 0 where
  pub start : second.start ≡ first.start
  pub seen : second.seen ≡ first.seen
  pub legal : IsLegal first.start.boot first.start.cores first.seen
  pub exact_first : IsExactFor first.number first.seen first.mine
  pub exact_second : IsExactFor second.number second.seen second.mine

-- a call of the second seat stands in a legal history after all that the first had seen, and none of the entries between is the second's
pub record ComesAfter (first second : Known) (event : Event) (outcome : Outcome) (after : Known) : Type 0 where
  pub between : List Noted
  pub seen : after.seen ≡ (first.seen ++ between) ++ record { seat = second.number; event = event; outcome = outcome } ∷ []
  pub by_others : own second.number between ≡ []
  pub legal : IsLegal after.start.boot after.start.cores after.seen

-- a kernel's state and its log, once nobody calls it any more: they are those of the whole history, which each seat that is shown
-- has seen then
pub record Closes (t : Ticket) (state : Machine) (log : List Entry) (before after : List Known) : Type 0 where
  pub history : List Noted
  pub run : IsLogBetween t.boot (log_of history) state
  pub formed : IsWellFormed state
  pub on_cores : OnCores t.cores history
  pub logged : log ≡ log_of history
  pub count : length after ≡ length before
  pub looks : (i : ℕ) (d : Known) → i < length before → Looks (slice_index_or before i d) (slice_index_or after i d)
  pub whole : (i : ℕ) (d : Known) → i < length before → (slice_index_or after i d).seen ≡ history

-- the word of no kernel
abbrev pub no_table : TableId
no_table = record { words = 0; slots = 0; views_name = 0; atom = 0; block = 0; offset = 0; slot_names = [] }

-- a kernel that nobody opened
abbrev pub no_ticket : Ticket
no_ticket = record { table = no_table; boot = empty_machine; cores = []; size = 0; name = 0 }

abbrev pub ticket_of : TableId → Machine → List ℕ → ℕ → ℕ → Ticket
ticket_of table boot cores size name = record { table = table; boot = boot; cores = cores; size = size; name = name }

-- the word is the kernel's
abbrev pub IsAtTicket : Ticket → TableId → Type 0
IsAtTicket t table = (table.words ≡ 1) × (table ≡ t.table)

-- the kernel with this word, these two numbers, and what it was opened with, is this one
pub record IsKernel (t : Ticket) (table : TableId) (boot : Machine) (cores : List ℕ) (size name : ℕ) : Type 0 where
  pub word : IsAtTicket t table
  pub boots : boot ≡ t.boot
  pub on_cores : cores ≡ t.cores
  pub sized : size ≡ t.size
  pub small : t.size < 2 ^ 32
  pub called : name ≡ t.name

-- the seat is of this word
abbrev pub IsAtBoard : TableId → Known → Type 0
IsAtBoard table seat = (table.words ≡ 1) × (seat.table ≡ table)

-- the keeper may deal the seats of these cores from this number on: there is no entry
pub record CanDeal (keeper : View) (cores : List ℕ) (next : ℕ) : Type 0 where
  pub start : About
  pub of : start.cores ≡ cores
  pub view : keeper ≡ keeper_view start (record { history = []; next = next })

-- a kernel that was opened: its state and its log are those of no entry, and there is room for as many as its size
pub record IsOpened (t : Ticket) (keeper : Token) (log : List Entry) (capacity : ℕ) (state : Machine) : Type 0 where
  pub order : InOrder t keeper log capacity state
  pub words : t.table.words ≡ 1
  pub small : t.size < 2 ^ 32
