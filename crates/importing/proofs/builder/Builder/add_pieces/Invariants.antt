-- The pieces that are left, added to the table so far, give what all of them give.
use Rattle.std.proofs.Common.{◌≡◌, drop}
use Rattle.importing.specs.{Built.{pieces_added}, PlanView.{plan_of}}
use Rattle.importing.proofs.builder.Builder.add_pieces.Given as goal

abbrev pub invariant-loop-piece : goal.invariant-loop-piece
invariant-loop-piece l =
    pieces_added (plan_of l.plan) (drop l.piece-index l.pieces) l.self ≡ pieces_added (plan_of l.plan) l.pieces l.initial.self
