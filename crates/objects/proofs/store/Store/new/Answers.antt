use Rattle.objects.proofs.PlaceLemmas.{IsPlaced-empty, empty_by_number}
use Rattle.objects.proofs.store.Store.new.Goals as goal

pub invariant_of-result : goal.invariant_of-result
invariant_of-result c =
    IsPlaced-empty (record { places = c.no_places.result; entries = c.new.result; alloc = c.args.alloc }) c.no_places.ensures.early c.no_places.ensures.late

pub returns : goal.returns
returns c =
    empty_by_number (record { places = c.no_places.result; entries = c.new.result; alloc = c.args.alloc }) c.no_places.ensures.early c.no_places.ensures.late
