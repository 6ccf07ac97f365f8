use Rattle.objects.{specs.Entries.set_ends_in, proofs.PlaceLemmas.{IsPlaced-changed, changed_by_number}}
use Rattle.objects.proofs.store.Store.set_ends.Goals as goal

pub invariant_of-self : goal.invariant_of-self
invariant_of-self c = rw c.set_ends.ensures (IsPlaced-changed c.self.inside c.self.invariant c.args.id (set_ends_in c.args.ends))

pub returns : goal.returns
returns c = rw (c.set_ends.ensures, ← c.self.view_is) (changed_by_number c.self.inside c.self.invariant c.args.id (set_ends_in c.args.ends))
