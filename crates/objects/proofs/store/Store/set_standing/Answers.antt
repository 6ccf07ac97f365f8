use Rattle.objects.{specs.Entries.set_standing_in, proofs.PlaceLemmas.{IsPlaced-changed, changed_by_number}}
use Rattle.objects.proofs.store.Store.set_standing.Goals as goal

pub invariant_of-self : goal.invariant_of-self
invariant_of-self c = rw c.set_standing.ensures (IsPlaced-changed c.self.inside c.self.invariant c.args.thread (set_standing_in c.args.standing))

pub returns : goal.returns
returns c = rw (c.set_standing.ensures, ← c.self.view_is) (changed_by_number c.self.inside c.self.invariant c.args.thread (set_standing_in c.args.standing))
