-- Labels that the authority of a boot state joins: they are the table's.
use Rattle.std.proofs.Common.{ℕ, ◌<◌, ◌∙◌, ◌≡◌, None, Option, Some, length, option_map, refl, subst, sym}
use Rattle.{std.proofs.lemmas.Option.{none-some, same_Some}, base.specs.declared.{ids.ObjId.ObjId, kind.Kind.Kind}}
use Rattle.machine.specs.{declared.layout.Initial.Initial, Authority.{HasAuthority, by_cap, by_link, by_pair, by_root, label_of}}
use Rattle.machine.specs.{Boot.IsBoot, Layout.{Layout, declared_label, initial_of}, Machine.Machine}
use Rattle.table.{specs.Rules.IsLawful, proofs.AtBoot.{boot_label, initial_lawful}}

module _ (t : Layout) (boot : Machine) (lawful : IsLawful t) (booted : IsBoot t boot) where
  -- a label that a table declares is one of its labels
  declared_within : (id : ObjId) (label : ℕ) → declared_label t id ≡ Some label → label < length t.labels
  unfolding declared_label
  declared_within id label is = by_initial (initial_of t id) refl is where
    by_initial :
        (found : Option Initial) → initial_of t id ≡ found → option_map (λ (i : Initial). i.label) found ≡ Some label
        → label < length t.labels
    by_initial None at h = absurd (none-some label h)
    by_initial (Some initial) at h =
        subst (λ (l : ℕ). l < length t.labels) (same_Some initial.label label h) (initial_lawful t lawful id initial at).label

  -- a label of an object at boot is one of the table's labels
  within : (id : ObjId) (label : ℕ) → label_of t boot id ≡ Some label → label < length t.labels
  within id label is = declared_within id label (sym (boot_label t boot booted id) ∙ is)

  pub authority_within :
      {from to : ℕ} {kind : Kind} → HasAuthority t boot from kind to → (from < length t.labels) × (to < length t.labels)
  authority_within (by_cap {from} {to} slot held at of gives start end) = (within _ from start, within _ to end)
  authority_within (by_root {from} {to} slot held at of start end) = (within _ from start, within _ to end)
  authority_within (by_pair {from} {to} slot parent at start end) = (within _ from start, within _ to end)
  authority_within (by_link {from} {to} id end object at links start stop) = (within _ from start, within _ to stop)
