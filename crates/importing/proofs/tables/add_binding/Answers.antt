use Rattle.std.proofs.Common.{◌∙◌, sym}
use Rattle.importing.proofs.Takes.{admits_binding}
use Rattle.importing.proofs.tables.add_binding.Goals as goal

pub add_binding-requires : goal.add_binding-requires
add_binding-requires c =
    admits_binding c.args.draft.now c.args.binding (sym c.takes_binding.ensures ∙ c.if-not-takes_binding.false)
