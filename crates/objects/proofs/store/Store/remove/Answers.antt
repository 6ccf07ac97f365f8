use Rattle.objects.proofs.PlaceLemmas.{IsPlaced-removed, removed_by_number}
use Rattle.objects.proofs.store.Store.remove.Goals as goal

pub invariant_of-self : goal.invariant_of-self
invariant_of-self c =
    IsPlaced-removed c.self.inside (record c.self.inside { places = c.remove.new.places; entries = c.remove.new.entries })
    c.self.invariant c.args.id c.remove.ensures

pub returns : goal.returns
returns c =
    rw (← c.self.view_is)
    (removed_by_number c.self.inside (record c.self.inside { places = c.remove.new.places; entries = c.remove.new.entries })
    c.self.invariant c.args.id c.remove.ensures)
