use Rattle.{std.proofs.Common.sym, importing.proofs.Ends.admits_built}
use Rattle.importing.proofs.builder.Builder.put.Goals as goal

pub add_object-requires : goal.add_object-requires
add_object-requires c =
    admits_built c.args.self.now c.self.inside.draft c.self.inside.next c.args.name.now c.args.label c.args.object (sym c.self.view_is)
    c.self.invariant.0 c.requires.spelled c.requires.fresh c.requires.label c.requires.placed c.requires.room c.requires.end
