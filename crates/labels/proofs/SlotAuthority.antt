-- The edges of a slot of a table: they are the authority that the slot gives in the table's boot state.
use Rattle.std.proofs.Common.{[], ℕ, ◌↔◌, ◌∙◌, ◌≡◌, None, Option, Some, ap, flat_map, inl, inr, refl, subst, sym, true}
use Rattle.std.proofs.lemmas.Bool.{or_cases}
use Rattle.base.specs.{declared.{ids.SlotRef.SlotRef, kind.Kind.{Kind, TheVariants.{Derive, Space}}}, Kinds.kind_number}
use Rattle.base.specs.declared.kind.TheConstants.Kind as Kinds
use Rattle.machine.specs.{declared.{cap.Cap.Cap, object.ObjectKind.{ObjectKind, ObjectKind as object}}, Boot.IsBoot, Capabilities.gives}
use Rattle.machine.specs.{Layout.{Layout, declared_label, initial_cap, initial_parent}, Machine.Machine}
use Rattle.policy.{specs.Policy.allows, proofs.KindNumbers.kind_stands}
use Rattle.table.{specs.Rules.kind_at, proofs.AtBoot.{boot_kind, boot_label}}
use Rattle.labels.specs.{SlotAuthority.{GivesBySlot, by_cap, by_pair, by_root}, SlotEdges.{cap_edges, edge_between, kinds_in, pair_edges}}
use Rattle.labels.{specs.SlotEdges.slot_edges_of, proofs.EdgeLists.{allows-append, allows_after, allows_before, edge_has, edge_in}}
use Rattle.labels.proofs.EdgeLists.{edges_have, edges_in, none_allowed}
use mathlib.Core.Bool.{false≢true}

module _ (t : Layout) (m : Machine) (boot : IsBoot t m) (slot : SlotRef) (from : ℕ) (k : Kind) (to : ℕ) where
  -- the edges of a capability

  cap_gives :
      (held : Cap) → initial_cap t slot ≡ Some held → (holder : Option ObjectKind) → kind_at t slot.holder ≡ holder
      → allows (flat_map (edge_between (declared_label t slot.holder) (declared_label t held.object)) (kinds_in holder held.detail)) from k to
      ≡ true
      → GivesBySlot t m slot from k to
  cap_gives held is (Some object.CNode) of e =
      let parts = edges_in (declared_label t slot.holder) (declared_label t held.object) (gives held.detail) Kinds.ALL from k to e in
      by_cap held (boot.caps slot ∙ is) (boot_kind t m boot slot.holder ∙ of) parts.0
      (boot_label t m boot slot.holder ∙ parts.1) (boot_label t m boot held.object ∙ parts.2)
  cap_gives held is (Some object.Tcb) of e =
      let between = edge_between (declared_label t slot.holder) (declared_label t held.object) in
      elim (or_cases _ _ (sym (allows-append (between Space) [] from k to) ∙ e)) [
        | inl here ↦
            let edge = edge_in (declared_label t slot.holder) (declared_label t held.object) Space from k to here in
            subst (λ kind. GivesBySlot t m slot from kind to) edge.same
            (by_root held (boot.caps slot ∙ is) (boot_kind t m boot slot.holder ∙ of)
            (boot_label t m boot slot.holder ∙ edge.source) (boot_label t m boot held.object ∙ edge.target))
        | inr none ↦ absurd (false≢true (sym (none_allowed from k to) ∙ none))
      ]
  cap_gives held is _ of e = absurd (false≢true (sym (none_allowed from k to) ∙ e))

  slot_gives : allows (slot_edges_of t slot) from k to ≡ true → GivesBySlot t m slot from k to
  slot_gives e =
      elim (or_cases _ _ (sym (allows-append (cap_edges t slot (initial_cap t slot)) (pair_edges t slot (initial_parent t slot)) from k to) ∙ e)) [
        | inl first ↦ by_capability (initial_cap t slot) refl first
        | inr second ↦ by_parent (initial_parent t slot) refl second
      ]
    where
      by_capability :
          (held : Option Cap) → initial_cap t slot ≡ held → allows (cap_edges t slot held) from k to ≡ true
          → GivesBySlot t m slot from k to
      by_capability None is e = absurd (false≢true (sym (none_allowed from k to) ∙ e))
      by_capability (Some held) is e = cap_gives held is (kind_at t slot.holder) refl e

      by_parent :
          (parent : Option SlotRef) → initial_parent t slot ≡ parent → allows (pair_edges t slot parent) from k to ≡ true
          → GivesBySlot t m slot from k to
      by_parent None is e = absurd (false≢true (sym (none_allowed from k to) ∙ e))
      by_parent (Some parent) is e =
          let edge = edge_in (declared_label t parent.holder) (declared_label t slot.holder) Derive from k to e in
          subst (λ kind. GivesBySlot t m slot from kind to) edge.same
          (by_pair parent (boot.parents slot ∙ is) (boot_label t m boot parent.holder ∙ edge.source) (boot_label t m boot slot.holder ∙ edge.target))

module _ (t : Layout) (m : Machine) (boot : IsBoot t m) (slot : SlotRef) where
  by_first :
      (from : ℕ) (k : Kind) (to : ℕ) (held : Cap) → initial_cap t slot ≡ Some held
      → allows (cap_edges t slot (Some held)) from k to ≡ true → allows (slot_edges_of t slot) from k to ≡ true
  by_first from k to held is has =
      allows_before (cap_edges t slot (initial_cap t slot)) (pair_edges t slot (initial_parent t slot)) from k to
      (ap (λ found. allows (cap_edges t slot found) from k to) is ∙ has)

  slot_has : (from : ℕ) (k : Kind) (to : ℕ) → GivesBySlot t m slot from k to → allows (slot_edges_of t slot) from k to ≡ true
  slot_has from k to (by_cap held is of given source target) =
      by_first from k to held (sym (boot.caps slot) ∙ is)
      (rw (sym (boot_kind t m boot slot.holder) ∙ of)
      (edges_have (declared_label t slot.holder) (declared_label t held.object) (gives held.detail) Kinds.ALL (kind_number k) from k to (kind_stands k) given
      (sym (boot_label t m boot slot.holder) ∙ source) (sym (boot_label t m boot held.object) ∙ target)))
  slot_has from Space to (by_root held is of source target) =
      by_first from Space to held (sym (boot.caps slot) ∙ is)
      (rw (sym (boot_kind t m boot slot.holder) ∙ of)
      (allows_before (edge_between (declared_label t slot.holder) (declared_label t held.object) Space) [] from Space to
      (edge_has (declared_label t slot.holder) (declared_label t held.object) from Space to
      (sym (boot_label t m boot slot.holder) ∙ source) (sym (boot_label t m boot held.object) ∙ target))))
  slot_has from Derive to (by_pair parent is source target) =
      allows_after (cap_edges t slot (initial_cap t slot)) (pair_edges t slot (initial_parent t slot)) from Derive to
      (ap (λ found. allows (pair_edges t slot found) from Derive to) (sym (boot.parents slot) ∙ is)
      ∙ edge_has (declared_label t parent.holder) (declared_label t slot.holder) from Derive to
      (sym (boot_label t m boot parent.holder) ∙ source) (sym (boot_label t m boot slot.holder) ∙ target))

pub slot_authority :
    (t : Layout) (m : Machine) (slot : SlotRef) (from : ℕ) (k : Kind) (to : ℕ) → IsBoot t m
    → allows (slot_edges_of t slot) from k to ≡ true ↔ GivesBySlot t m slot from k to
slot_authority t m slot from k to boot = (slot_gives t m boot slot from k to, slot_has t m boot slot from k to)
