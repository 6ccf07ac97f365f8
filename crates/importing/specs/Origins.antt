-- Origins of the capabilities in the table of a description (confine's own).
use Rattle.std.specs.Prelude.{◌++◌, ◌≡◌, List, Some}
use Rattle.{microkit.specs.Description.Description, machine.specs.declared.layout.Filled.Filled}
use Rattle.importing.specs.{declared.pieces.{Grant.Grant, Minting.Minting, Piece.Piece}, Grants.{grants_of, roots_of}, Tables.piece_number}

-- the capabilities of the CNodes and then the roots, each with the line of its element
abbrev pub origins_of : Description → Minting → List Grant
origins_of d minting = grants_of d minting ++ roots_of d (grants_of d minting)

-- a filled slot has this capability: the holder and the object are numbered as their pieces
pub record ComesFrom (pieces : List Piece) (filled : Filled) (grant : Grant) : Type 0 where
  pub holder : piece_number pieces grant.holder ≡ Some filled.slot.holder.0
  pub index : filled.slot.index ≡ grant.index
  pub object : piece_number pieces grant.target ≡ Some filled.cap.object.0
  pub detail : filled.cap.detail ≡ grant.detail
