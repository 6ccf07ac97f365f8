use Rattle.std.{specs.List.range_with_len, proofs.Common.{◌≡◌, map}}
use Rattle.{microkit.specs.{LabelView.bytes_of, View.description_of}, separation.specs.Lending.runners_of}
use Rattle.separation.proofs.lending.all_runners.Given as goal

abbrev pub invariant-loop-domain : goal.invariant-loop-domain
invariant-loop-domain l =
    bytes_of l.found.items ≡ map (runners_of (description_of l.description)) (range_with_len 0 l.domain)
