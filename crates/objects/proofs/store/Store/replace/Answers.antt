use Rattle.objects.{specs.Entries.replace_in, proofs.PlaceLemmas.{IsPlaced-changed, changed_by_number}}
use Rattle.objects.proofs.store.Store.replace.Goals as goal

pub invariant_of-self : goal.invariant_of-self
invariant_of-self c = rw c.replace.ensures (IsPlaced-changed c.self.inside c.self.invariant c.args.id (replace_in c.args.object))

pub returns : goal.returns
returns c = rw (c.replace.ensures, ← c.self.view_is) (changed_by_number c.self.inside c.self.invariant c.args.id (replace_in c.args.object))
