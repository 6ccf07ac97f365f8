-- Seats that fit a kernel (confine's own).
use Rattle.std.specs.Prelude.{◌≡◌}
use Rattle.cores.specs.Seats.{IsOf, Known, Ticket}

-- a seat with the kernel's number is one of the kernel's own
abbrev pub IsFit : Ticket → Known → Type 0
IsFit t seat = seat.name ≡ t.name → IsOf t seat
