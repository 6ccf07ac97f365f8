use Rattle.std.{specs.Prelude.slice_get, proofs.Common.{ℕ, ◌+◌, ◌-◌, ◌<◌, ◌≡◌, ◌≤◌, Some, length, vec_capacity, vec_len}}
use Rattle.cores.specs.{Seats.{CanDeal, about_in, new_seat}, Tokens.IsAt}
use Rattle.cores.proofs.opened.all_seats.Given as goal

-- the seats of the cores before this one are dealt
abbrev pub invariant-loop-number : goal.invariant-loop-number
invariant-loop-number l = record {
  at : IsAt l.board.shared.table_id l.keeper;
  table : l.keeper.table_id ≡ l.fn.keeper.table_id;
  deals : CanDeal l.keeper.me.0 l.cores l.number;
  start : about_in l.keeper.me.0 ≡ about_in l.fn.keeper.me.0;
  count : length l.seats.items ≡ l.number;
  dealt : (number core : ℕ) → number < l.number → slice_get l.cores number ≡ Some core
      → slice_get l.seats.items number ≡ Some (new_seat l.fn.keeper.table_id (about_in l.fn.keeper.me.0) l.name number core);
  room : vec_len l.seats + (length l.cores - l.number) ≤ vec_capacity l.seats;
}
