-- The capabilities so far are those of the first domains.
use Rattle.std.{specs.List.{flat_map, range_with_len}, proofs.Common.◌≡◌}
use Rattle.{microkit.specs.View.description_of, importing.specs.Grants.domain_grants}
use Rattle.importing.proofs.grants.all_domain_grants.Given as goal

abbrev pub invariant-loop-n : goal.invariant-loop-n
invariant-loop-n l =
    l.grants.items ≡ flat_map (domain_grants (description_of l.description) l.minting) (range_with_len 0 l.n)
