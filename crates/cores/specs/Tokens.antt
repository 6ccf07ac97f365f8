-- Tokens: when one may step on the word, and what its steps leave as it was (confine's own).
use Rattle.std.specs.Prelude.{[], ◌++◌, ◌<◌, ◌^◌, ◌∷◌, ◌≡◌, Some, length}
use Rattle.atomic_table.specs.{declared.shared.Seat.Seat, Seated.TableId}
use Rattle.cores.specs.{declared.view.{About.About, Hand.Hand, Keeping.Keeping, Noted.Noted, View.View}, History.IsLegal}

abbrev pub Token : Type 0
Token = Seat (Unit {0}) View

-- the token is of this board, which has one word
abbrev pub IsAt : TableId → Token → Type 0
IsAt table token = (table.words ≡ 1) × (token.table_id ≡ table) × (token.me.1 ≡ [])

-- two tokens are of the same seat, whatever it knows
abbrev pub IsOfOneSeat : Token → Token → Type 0
IsOfOneSeat before after = (after.table_id ≡ before.table_id) × (after.id ≡ before.id)

-- the keeper may add the entry: it is its guest's, and the history with it is legal
pub record CanRecord (view : View) (noted : Noted) : Type 0 where
  pub about : About
  pub kept : Keeping
  pub hand : Hand
  pub told : view.about ≡ Some about
  pub keeps : view.kept ≡ Some kept
  pub hosts : view.guest ≡ Some hand
  pub of : noted.seat ≡ hand.number
  pub legal : IsLegal about.boot about.cores (kept.history ++ noted ∷ [])
  pub room : length kept.history < 2 ^ 32
