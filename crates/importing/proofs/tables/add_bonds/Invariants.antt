-- The bindings that are left, added to the table so far, give what all of them give.
use Rattle.std.proofs.Common.{◌≡◌, drop}
use Rattle.{microkit.specs.View.description_of, importing.specs.Tables.bonds_added}
use Rattle.importing.proofs.tables.add_bonds.Given as goal

abbrev pub invariant-loop-bond : goal.invariant-loop-bond
invariant-loop-bond l =
    bonds_added (description_of l.description) l.pieces (drop l.bond-index l.bonds) l.draft
    ≡ bonds_added (description_of l.description) l.pieces l.bonds l.initial.draft
