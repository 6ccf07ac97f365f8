-- The table of a description as whole lists of objects, capabilities and bindings (confine's own).
use Rattle.std.specs.Prelude.{[], ℕ, ◌++◌, ◌∷◌, ◌≡◌, List, Ok, Some, length, map, unwrap_or}
use Rattle.microkit.specs.{Description.Description, Labels.{names_of, subjects_of}}
use Rattle.machine.specs.{declared.layout.{Binding.Binding, Filled.Filled, Initial.Initial}, Layout.Layout, Objects.end_of}
use Rattle.importing.specs.{declared.{pieces.{Grant.Grant, Minting.Minting, Piece.Piece}, tables.Bond.Bond}, Built.{Plan, piece_label}}
use Rattle.importing.specs.{Built.{piece_name, version_for}, Grants.{grants_of, roots_of}, Groups.{labels_at, places_of, uses_in}}
use Rattle.importing.specs.{Objects.object_of, Pieces.pieces_of, Tables.{binding_by, bonds_of, filled_by, piece_number, plan_for}}

-- a filled slot of these pieces
abbrev pub filled_at : List Piece → Grant → Filled
filled_at pieces grant =
    filled_by grant (unwrap_or (piece_number pieces grant.holder) 0) (unwrap_or (piece_number pieces grant.target) 0)

-- a binding of these pieces
abbrev pub binding_at : List Piece → Bond → Binding
binding_at pieces bond =
    binding_by (unwrap_or (piece_number pieces bond.thread) 0) (unwrap_or (piece_number pieces bond.context) 0)

-- an object is that of a piece, at the next multiple of its size from an address on, with the label that its subject has
abbrev pub IsOfPiece : Plan → ℕ → Piece → Initial → Type 0
IsOfPiece plan next piece initial =
    (piece_label plan piece ≡ Some initial.label)
    × (object_of plan.description plan.grants piece next ≡ Some initial.object)

-- objects are those of pieces, each from the end of the one before on
abbrev pub AreOfPieces : Plan → ℕ → List Piece → List Initial → Type 0
AreOfPieces plan next [] objects = objects ≡ []
AreOfPieces plan next (piece ∷ pieces) [] = ⊥
AreOfPieces plan next (piece ∷ pieces) (initial ∷ objects) =
    IsOfPiece plan next piece initial × AreOfPieces plan (end_of initial.object) pieces objects

-- the plan of a description whose subjects have these names
abbrev pub plan_by : Description → Minting → List (List ℕ) → Plan
plan_by d minting names = plan_for d names (grants_of d minting)

-- a table is that of a description: its labels, objects from 0x1000 up, capabilities and bindings, each in order
pub record IsTableOf (d : Description) (minting : Minting) (t : Layout) : Type 0 where
  pub all : List (List ℕ)
  pub called : names_of d ≡ Ok all
  pub labels : t.labels ≡ labels_at all (places_of (uses_in d) (subjects_of d))
  pub version : t.version ≡ version_for (length t.labels)
  pub names : t.names ≡ map (piece_name (plan_by d minting all)) (pieces_of d)
  pub objects : AreOfPieces (plan_by d minting all) 4096 (pieces_of d) t.objects
  pub caps :
      t.caps
      ≡ map (filled_at (pieces_of d)) (grants_of d minting ++ roots_of d (grants_of d minting))
  pub pairs : t.pairs ≡ []
  pub bindings : t.bindings ≡ map (binding_at (pieces_of d)) (bonds_of d)
