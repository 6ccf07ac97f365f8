use Rattle.objects.{specs.Entries.set_word_in, proofs.PlaceLemmas.{IsPlaced-changed, changed_by_number}}
use Rattle.objects.proofs.store.Store.set_word.Goals as goal

pub invariant_of-self : goal.invariant_of-self
invariant_of-self c = rw c.set_word.ensures (IsPlaced-changed c.self.inside c.self.invariant c.args.id (set_word_in c.args.index c.args.word))

pub returns : goal.returns
returns c = rw (c.set_word.ensures, ← c.self.view_is) (changed_by_number c.self.inside c.self.invariant c.args.id (set_word_in c.args.index c.args.word))
