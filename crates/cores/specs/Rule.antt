-- The rule of the word that all seats share: it is the length of the history, and what each seat knows of that is true (confine's own).
use mathlib.Core.{List.IsPrefix, Option.some}
use Rattle.std.specs.Prelude.{[], ℕ, ◌*◌, ◌+◌, ◌<◌, ◌∷◌, ◌≡◌, IfSome, List, None, Some, length}
use Rattle.{atomic_table.specs.Table.State as Table, machine.specs.Machine.Machine}
use Rattle.cores.specs.{declared.view.{About.About, Hand.Hand, Keeping.Keeping, Noted.Noted, View.View}, History.{IsExactFor, IsLegal}}
use lib.ListN.{get_elem?}

abbrev pub about : Machine → List ℕ → About
about boot cores = record { boot = boot; cores = cores }

-- the keeper's view, with this history
abbrev pub keeper_view : About → Keeping → View
keeper_view a kept = record { about = Some a; kept = Some kept; hand = None; guest = None }

-- at the beginning there is the keeper alone, and no entry
abbrev pub first_view : Machine → List ℕ → View
first_view boot cores = keeper_view (about boot cores) (record { history = []; next = 0 })

-- what was seen is a beginning of the history, and the seat's own entries are all that the history has of it; the number is
-- dealt, and stands at this place
pub record Fits (history : List Noted) (next : ℕ) (place_of : ℕ → ℕ) (place : ℕ) (hand : Hand) : Type 0 where
  pub seen : IsPrefix hand.seen history
  pub exact : IsExactFor hand.number history hand.mine
  pub known : IsExactFor hand.number hand.seen hand.mine
  pub dealt : hand.number < next
  pub here : place_of hand.number ≡ place

-- what the seat `id` of the board knows is true. Seat 0 alone keeps the history. Its hand stands at the place 2 id, and its guest
-- at 2 id + 1
pub record Knows (boot : Machine) (cores : List ℕ) (history : List Noted) (next : ℕ) (place_of : ℕ → ℕ) (id : ℕ) (view : View)
    : Type 0 where
  pub told : IfSome view.about (λ a. a ≡ about boot cores)
  pub keeps : IfSome view.kept (λ kept. (kept.history ≡ history) × (kept.next ≡ next) × (id ≡ 0))
  pub hand_fits : IfSome view.hand (Fits history next place_of (2 * id))
  pub guest_fits : IfSome view.guest (Fits history next place_of (2 * id + 1))

-- there is a legal history as long as the word tells, of which all seats know; each number has one place, so that no two seats
-- have one number
pub record Kept (boot : Machine) (cores : List ℕ) (s : Table (Unit {0}) View) : Type 0 where
  pub history : List Noted
  pub next : ℕ
  pub place_of : ℕ → ℕ
  pub word : s.words ≡ length history ∷ []
  pub legal : IsLegal boot cores history
  pub each : (id : ℕ) (view : View) → get_elem? s.views id ≡ some view → Knows boot cores history next place_of id view
