-- Objects of a table, added one after another.
use Rattle.std.proofs.Common.{ℕ, ◌+◌, ◌<◌, ◌∙◌, ◌∷◌, ◌≡◌, ◌≤◌, Err, List, Ok, add-one, ap, drop, drop-cons, get_or, length}
use Rattle.{std.proofs.lemmas.List.drop_all, words.specs.{declared.faults.Fault.Fault, Reading.bind}}
use Rattle.importing.specs.{declared.pieces.Piece.Piece, Built.{Built, Plan, piece_added, pieces_added}}

-- the pieces from one on
pieces_from : (pieces : List Piece) (i : ℕ) (none : Piece) → i < length pieces
    → drop i pieces ≡ get_or pieces i none ∷ drop (i + 1) pieces
pieces_from pieces i none below = rw add-one (drop-cons pieces i none below)

-- no piece is left
pub none_left : (plan : Plan) (pieces : List Piece) (i : ℕ) (built : Built) → length pieces ≤ i
    → pieces_added plan (drop i pieces) built ≡ Ok built
unfolding pieces_added
none_left plan pieces i built past = ap (λ left. pieces_added plan left built) (drop_all i pieces past)

-- one is added
pub one_added : (plan : Plan) (pieces : List Piece) (i : ℕ) (none : Piece) (built next : Built) → i < length pieces
    → piece_added plan (get_or pieces i none) built ≡ Ok next
    → pieces_added plan (drop i pieces) built ≡ pieces_added plan (drop (i + 1) pieces) next
unfolding pieces_added bind
one_added plan pieces i none built next below added =
    ap (λ left. pieces_added plan left built) (pieces_from pieces i none below)
    ∙ ap (λ step. bind step (λ b. pieces_added plan (drop (i + 1) pieces) b)) added

-- one is refused
pub one_refused : (plan : Plan) (pieces : List Piece) (i : ℕ) (none : Piece) (built : Built) (fault : Fault) → i < length pieces
    → piece_added plan (get_or pieces i none) built ≡ Err fault → pieces_added plan (drop i pieces) built ≡ Err fault
unfolding pieces_added bind
one_refused plan pieces i none built fault below refused =
    ap (λ left. pieces_added plan left built) (pieces_from pieces i none below)
    ∙ ap (λ step. bind step (λ b. pieces_added plan (drop (i + 1) pieces) b)) refused
