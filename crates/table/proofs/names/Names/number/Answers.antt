-- A name's place among the strings is its place among their bytes.
use Rattle.std.{specs.{Str.bytes_eq, String.string_bytes}, proofs.Common.{◌∙◌, ap, position, sym}}
use Rattle.table.proofs.NameLemmas.{position-map}
use Rattle.table.proofs.names.Names.number.Goals as goal

pub returns : goal.returns
returns c =
    c.get_index_of.ensures.index
    ∙ sym (position-map (λ other. bytes_eq c.args.name.now other) string_bytes c.self.inside.set.keys)
    ∙ ap (position (λ other. bytes_eq c.args.name.now other)) c.self.view_is
