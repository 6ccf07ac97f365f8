-- A system that breaks P5 alone, as far as derive is transitive, and isn't safe: its thread copies a derived capability into another
-- label's CNode, and what it was derived from then derives there.
use Rattle.std.proofs.Common.{ℕ, ◌∙◌, ◌≡◌, Ok, Some, lit≤, refl, true}
use Rattle.base.specs.declared.kind.Kind.TheVariants.{Derive}
use Rattle.machine.specs.declared.call.{Answer.TheVariants.Nothing, Call.TheVariants.Copy, Event.Event, Made.TheVariants.Done}
use Rattle.machine.specs.declared.{call.Outcome.Outcome as outcome, slot_address.SlotAddress.SlotAddress}
use Rattle.machine.specs.{Authority.{HasAuthority, HasAuthority.by_pair, label_of}, Boot.IsBoot, Layout.declared_label}
use Rattle.machine.specs.{Machine.{Machine, object_of, with_cap, with_parent}, Step.{Copy.copy_of, Target.{ends_of, source_of, target_of}}}
use Rattle.{machine.{specs.{Step.step_of, Tree.with_copy}, proofs.LookUps.parent_of-with_parent}, table.proofs.AtBoot.boot_label}
use Rattle.policy.specs.{Closed.MayBeGranted, Domain.{EdgeTest, IsInDomain}, Needed.derive_by_grant, Policy.allows}
use Rattle.integrity.proofs.ObjectLabels.{same_label}
use Rattle.verdict.{specs.Counterexamples.UnsafeWithout, proofs.FewLabels.{among, granted_derives}}
use Rattle.verdict.proofs.{GapSystem.{derived_cap, gap, joins}, SmallSystem.{finding, id, reading, slot, stepping}}
use Rattle.verdict.proofs.UnsafeBy.{LeadsOutside, led_by_one, needs_by_tests, not_safe, tests, unsafe_keeping}

-- the slot of the other CNode, and the slot of the thread's own that holds that CNode's capability
abbrev to : SlotAddress
to = record { root = 1; index = 0; depth = 64 }

abbrev from : SlotAddress
from = record { root = 0; index = 1; depth = 64 }

unfoldable pub copying : Event
copying = record { core = 0; thread = id 3; call = Copy to from (record { 0 = 0 }) }

module _ (m : Machine) (boot : IsBoot gap m) where
  pub after_copy : Machine
  after_copy = with_parent (with_cap m (slot 1 0) derived_cap) (slot 1 0) (slot 2 0)

  target : target_of m (id 3) to ≡ Ok (slot 1 0)
  unfolding finding gap reading target_of
  target =
      rw (
        boot.objects (id 3),
        boot.caps (slot 3 0),
        boot.objects (id 0),
        boot.caps (slot 0 1),
        boot.caps (slot 0 1),
        boot.objects (id 1),
      ) refl

  source : source_of m (id 3) from ≡ Ok (slot 0 1, derived_cap)
  unfolding finding gap reading source_of
  source =
      rw (
        boot.objects (id 3),
        boot.caps (slot 3 0),
        boot.objects (id 0),
        boot.caps (slot 0 0),
        boot.objects (id 0),
        boot.caps (slot 0 1),
      ) refl

  copies : copy_of m (id 3) to from (record { 0 = 0 }) ≡ Ok (Done Nothing, after_copy)
  unfolding after_copy copy_of ends_of gap reading with_copy
  copies = rw (target, boot.caps (slot 1 0), source, boot.parents (slot 0 1)) refl

  made : step_of m copying ≡ (outcome.Done Nothing, after_copy)
  unfolding copying gap reading stepping
  made = rw (boot.objects (id 3), boot.objects (id 4), copies) refl

  label_after : (n label : ℕ) → declared_label gap (id n) ≡ Some label → label_of gap after_copy (id n) ≡ Some label
  unfolding after_copy object_of with_cap with_parent
  label_after n label declared = same_label gap m after_copy (id n) refl ∙ boot_label gap m boot (id n) ∙ declared

  -- the slot in label 2 derives on the one in label 1
  outside : HasAuthority gap after_copy 2 Derive 1
  unfolding after_copy gap reading
  outside =
      by_pair (slot 1 0) (slot 2 0) (parent_of-with_parent (with_cap m (slot 1 0) derived_cap) (slot 1 0) (slot 2 0) (slot 1 0))
      (label_after 2 2 refl) (label_after 1 1 refl)

leads : (m : Machine) → IsBoot gap m → LeadsOutside gap (among 3 joins) m
unfolding among
leads m boot = led_by_one gap (among 3 joins) m copying _ (after_copy m boot) (made m boot) 2 Derive 1 (outside m boot) refl

abbrev DerivesGranted : EdgeTest → Type 0
DerivesGranted test =
    (x y giver taker : ℕ) → MayBeGranted test giver taker → IsInDomain test giver x → IsInDomain test taker y
    → test x Derive y ≡ true

pub unsafe_without_derivation : (system : UnsafeWithout derive_by_grant) × DerivesGranted (allows system.edges)
unfolding gap tests
unsafe_without_derivation =
    unsafe_keeping derive_by_grant gap (among 3 joins) DerivesGranted
    (needs_by_tests derive_by_grant gap 3 joins (lit≤ tt) refl refl (not_safe gap (among 3 joins) leads))
    (granted_derives 3 joins refl)
