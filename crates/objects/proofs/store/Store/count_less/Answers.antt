use Rattle.std.proofs.Common.{◌-◌, ◌∙◌, ap, sym}
use Rattle.objects.specs.{Entries.{caps_in, set_caps_in, with_entry}, Places.{entries_by_number, placed, places_in}}
use Rattle.objects.proofs.PlaceLemmas.{IsPlaced-changed, by_number, changed_by_number}
use Rattle.objects.proofs.store.Store.count_less.Goals as goal

pub count_less-requires : goal.count_less-requires
count_less-requires c = rw (← by_number c.self.inside c.args.id, c.self.view_is) c.requires

pub invariant_of-self : goal.invariant_of-self
invariant_of-self c =
    rw c.count_less.ensures
    (IsPlaced-changed c.self.inside c.self.invariant c.args.id
    (set_caps_in (caps_in (placed (places_in c.self.inside.places) c.self.inside.entries c.args.id) - 1)))

pub returns : goal.returns
returns c =
    rw (c.count_less.ensures, ← c.self.view_is)
    (changed_by_number c.self.inside c.self.invariant c.args.id
    (set_caps_in (caps_in (placed (places_in c.self.inside.places) c.self.inside.entries c.args.id) - 1))
    ∙ ap (λ n. with_entry (entries_by_number c.self.inside) c.args.id (set_caps_in (n - 1)))
    (ap caps_in (sym (by_number c.self.inside c.args.id))))
