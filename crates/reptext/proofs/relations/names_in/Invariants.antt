use Rattle.std.{specs.List.{filter, range_with_len}, proofs.Common.{◌≡◌, map}}
use Rattle.{serde_json.specs.{Data.string, View.view}, base.specs.Labels.is_in, captext.specs.PolicyText.label_name}
use Rattle.reptext.proofs.relations.names_in.Given as goal

abbrev pub invariant-loop-number : goal.invariant-loop-number
invariant-loop-number l =
    map view l.names.items ≡ map string (map (label_name l.table) (filter (is_in l.set) (range_with_len 0 l.number)))
