-- That no pair of a lawful table's derivation tree is for untyped memory: such memory has at most one capability, which would be its own
-- parent and so not original.
use Rattle.std.specs.{declared.cmp.Ordering.TheVariants.Less, Cmp.tied_itself, Option.option_and_then, Ordering.is_eq, Prelude.Contains}
use Rattle.std.{specs.Prelude.{Some, option_map, slice_get}, proofs.Common.{◌==◌, ◌∙◌, ◌≡◌, ◌≢◌, ap, inl, inr, not, sym, true}}
use Rattle.std.proofs.lemmas.{Bool.{eq-eqb, false≢true}, List.Elements.All-contains, Option.same_Some}
use Rattle.base.specs.declared.ids.{ObjId.ObjId, SlotRef.SlotRef}
use Rattle.machine.specs.{declared.{cap.Cap.Cap, layout.{Filled.Filled, Initial.Initial, Pair.Pair}}, Capabilities.badge_of}
use Rattle.machine.specs.declared.object.ObjectKind.TheVariants as kind
use Rattle.machine.specs.{Capabilities.kind_of_detail, Layout.{Layout, initial_cap, initial_parent}, Machine.{same_slot, slot_cmp}}
use Rattle.machine.{specs.Objects.kind_of_object, proofs.LookUps.{one_slot, slot_total}}
use Rattle.table.specs.{Rules.{IsCapOf, IsLawful}, Tree.{IsPairOf, is_original, is_original_from, source_of}, UntypedPairs.IsForNoUntyped}
use Rattle.table.proofs.{BootParts.{find-only, in_slot, marked, pair-cases}, BootSlots.kind-detail}

-- a pair of the table gives its child its parent
joined : (t : Layout) (pair : Pair) → IsLawful t → Contains t.pairs pair → initial_parent t pair.child ≡ Some pair.parent
unfolding initial_parent
joined t pair lawful has =
    ap (option_map (λ (p : Pair). p.parent))
    (find-only (λ (p : Pair). same_slot p.child pair.child) t.pairs pair has (itself pair.child) only)
  where
    Below : Pair → Pair → Type 0
    Below one other = slot_cmp one.child other.child ≡ Less

    itself : (slot : SlotRef) → same_slot slot slot ≡ true
    itself slot = ap is_eq (tied_itself slot_total slot)

    only : (other : Pair) → Contains t.pairs other → same_slot other.child pair.child ≡ true → other ≡ pair
    only other there tie =
        let same = one_slot other.child pair.child tie in
        elim (pair-cases Below t.pairs other pair lawful.draft.pairs.rise there has) [
          | inl is ↦ is
          | inr differ ↦ elim differ [
            | inl less ↦ absurd (false≢true (sym (ap is_eq less) ∙ tie))
            | inr less ↦ absurd (false≢true (sym (ap is_eq less) ∙ ap (λ slot. same_slot pair.child slot) same ∙ itself pair.child))
          ]
        ]

module _ (t : Layout) (pair : Pair) (lawful : IsLawful t) (has : Contains t.pairs pair) where
  kin : IsPairOf t pair
  kin = let P : Pair → Type 0 = λ pair. IsPairOf t pair in All-contains P t.pairs pair lawful.tree has

  capability : (slot : SlotRef) (held : Cap) → initial_cap t slot ≡ Some held → IsCapOf t.objects (record { slot = slot; cap = held })
  capability slot held filled =
      let P : Filled → Type 0 = λ filled. IsCapOf t.objects filled in
      All-contains P t.caps (record { slot = slot; cap = held }) lawful.draft.caps.each (in_slot t slot held filled)

  -- both capabilities are of the kind of their one object
  one_kind : kind_of_detail kin.above.detail ≡ kind_of_detail kin.below.detail
  one_kind =
      let above = capability pair.parent kin.above kin.parent in
      let below = capability pair.child kin.below kin.child in
      let one = same_Some _ _ (sym above.aimed ∙ ap (λ (id : ObjId). slice_get t.objects id.0) kin.object ∙ below.aimed) in
      sym (kind-detail above.target.object kin.above.detail above.detail)
      ∙ ap (λ (initial : Initial). kind_of_object initial.object) one
      ∙ kind-detail below.target.object kin.below.detail below.detail

  -- if they are for untyped memory, they are in one slot
  one_place : kind_of_detail kin.below.detail ≡ kind.Untyped → pair.parent ≡ pair.child
  one_place untyped =
      elim
      (pair-cases Once t.caps (record { slot = pair.parent; cap = kin.above }) (record { slot = pair.child; cap = kin.below })
      lawful.draft.caps.untypeds_once (in_slot t pair.parent kin.above kin.parent) (in_slot t pair.child kin.below kin.child)) [
        | inl is ↦ ap (λ (filled : Filled). filled.slot) is
        | inr differ ↦ elim differ [
          | inl apart ↦ absurd (apart untyped kin.object)
          | inr apart ↦ absurd (apart (one_kind ∙ untyped) (sym kin.object))
        ]
      ]
    where
      Once : Filled → Filled → Type 0
      Once one other = kind_of_detail other.cap.detail ≡ kind.Untyped → one.cap.object ≢ other.cap.object

  -- the child would then be its own parent, which isn't original
  not_untyped : kind_of_detail kin.below.detail ≢ kind.Untyped
  unfolding is_original source_of
  not_untyped untyped =
      let one : kin.above ≡ kin.below =
      same_Some _ _ (sym kin.parent ∙ ap (initial_cap t) (one_place untyped) ∙ kin.child) in
      let source : source_of t pair.child ≡ Some kin.above =
      ap (option_and_then (initial_cap t)) (joined t pair lawful has) ∙ kin.parent in
      let mark : kin.below.original ≡ not (badge_of kin.below.detail == badge_of kin.above.detail) =
      marked t pair.child kin.below lawful kin.child ∙ ap (λ source. is_original_from source kin.below.detail) source in
      false≢true
      (sym (mark ∙ ap not (eq-eqb (badge_of kin.below.detail) (badge_of kin.above.detail) (ap (λ (c : Cap). badge_of c.detail) (sym one))))
      ∙ ap (λ (c : Cap). c.original) (sym one) ∙ kin.original)

  pub no_pair_untyped : IsForNoUntyped t pair
  no_pair_untyped held (inl above) untyped =
      not_untyped (sym one_kind ∙ ap (λ (c : Cap). kind_of_detail c.detail) (same_Some _ _ (sym kin.parent ∙ above)) ∙ untyped)
  no_pair_untyped held (inr below) untyped =
      not_untyped (ap (λ (c : Cap). kind_of_detail c.detail) (same_Some _ _ (sym kin.child ∙ below)) ∙ untyped)
