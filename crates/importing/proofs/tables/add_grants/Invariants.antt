-- The capabilities that are left, added to the table so far, give what all of them give.
use Rattle.std.proofs.Common.{◌≡◌, drop}
use Rattle.{microkit.specs.View.description_of, importing.specs.Tables.grants_added}
use Rattle.importing.proofs.tables.add_grants.Given as goal

abbrev pub invariant-loop-grant : goal.invariant-loop-grant
invariant-loop-grant l =
    grants_added (description_of l.description) l.pieces (drop l.grant-index l.grants) l.draft
    ≡ grants_added (description_of l.description) l.pieces l.grants l.initial.draft
