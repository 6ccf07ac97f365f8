use Rattle.std.proofs.Common.{◌∙◌, sym}
use Rattle.importing.proofs.Takes.{admits_cap}
use Rattle.importing.proofs.tables.add_cap.Goals as goal

pub add_cap-requires : goal.add_cap-requires
add_cap-requires c =
    admits_cap c.args.draft.now c.args.filled (sym c.takes_cap.ensures ∙ c.if-not-takes_cap.false) c.requires
