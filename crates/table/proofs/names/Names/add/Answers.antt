-- The name isn't there yet, so it goes last.
use Rattle.std.{specs.String.string_bytes, proofs.Common.{◌∙◌, ap, map}}
use Rattle.table.proofs.NameLemmas.{added}
use Rattle.table.proofs.names.Names.add.Goals as goal

pub returns-clause-ok : goal.returns-clause-ok
returns-clause-ok c =
    ap (map string_bytes) c.in_ok-insert.ensures.keys ∙ added _ _ _ _ c.in_ok-name.ensures.ok c.self.view_is c.requires
