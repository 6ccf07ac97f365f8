use Rattle.std.proofs.Common.{None, refl}
use Rattle.objects.{specs.Entries.change_slot_in, proofs.PlaceLemmas.{IsPlaced-changed, by_number, changed_by_number}}
use Rattle.objects.proofs.store.Store.empty_slot.Goals as goal

pub invariant_of-self : goal.invariant_of-self
invariant_of-self c =
    rw c.empty_slot.ensures.emptied
    (IsPlaced-changed c.self.inside c.self.invariant c.args.at.holder
    (change_slot_in c.args.at.index (λ slot. record slot { cap = None })))

pub returns-clause-value : goal.returns-clause-value
returns-clause-value c =
    rw (c.empty_slot.ensures.value, ← c.self.view_is, by_number c.self.inside c.args.at.holder) refl

pub returns-clause-emptied : goal.returns-clause-emptied
returns-clause-emptied c =
    rw (c.empty_slot.ensures.emptied, ← c.self.view_is)
    (changed_by_number c.self.inside c.self.invariant c.args.at.holder
    (change_slot_in c.args.at.index (λ slot. record slot { cap = None })))
