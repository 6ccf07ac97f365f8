use Rattle.{std.proofs.Common.None, objects.{specs.Entries.change_slot_in, proofs.PlaceLemmas.{IsPlaced-changed, changed_by_number}}}
use Rattle.objects.proofs.store.Store.set_standing_under.Goals as goal

pub invariant_of-self : goal.invariant_of-self
invariant_of-self c =
    rw c.set_under.ensures
    (IsPlaced-changed c.self.inside c.self.invariant c.args.at.holder
    (change_slot_in c.args.at.index (λ slot. record slot { links = record slot.links { parent = c.args.parent; next = c.args.next; previous = None } })))

pub returns : goal.returns
returns c =
    rw (c.set_under.ensures, ← c.self.view_is)
    (changed_by_number c.self.inside c.self.invariant c.args.at.holder
    (change_slot_in c.args.at.index (λ slot. record slot { links = record slot.links { parent = c.args.parent; next = c.args.next; previous = None } })))
