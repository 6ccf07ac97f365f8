-- Filling an empty slot keeps what a part of a call keeps, if the policy has the capability's edges and that of its pair in the tree.
use Rattle.std.{specs.Prelude.if◌then◌else◌, proofs.Common.{ℕ, ◌∙◌, ◌≡◌, ◌≢◌, ◌⊎◌, Bool, None, Option, Some, ap}}
use Rattle.std.proofs.{Common.{false, inl, inr, refl, subst, sym, true}, lemmas.{Bool.false≢true, Option.same_Some}}
use Rattle.base.specs.{declared.{ids.{ObjId.ObjId, SlotRef.SlotRef}, kind.Kind.{Kind, Kind as authority}}, Kinds.is_structural}
use Rattle.machine.specs.{declared.cap.{Cap.Cap, Detail.Detail}, Authority.{HasAuthority.by_pair, label_of}}
use Rattle.machine.specs.{Capabilities.{gives, kind_of_detail}, Layout.Layout, Machine.{Machine, cap_of, object_of, parent_of, same_slot}}
use Rattle.machine.{specs.{Tree.parent_of_copy, WellFormed.kind_of}, proofs.AuthorityLemmas.gives_no_structure}
use Rattle.{machine.proofs.{Ids.one_or_two, LookUps.one_slot, SlotChanges.Fills}, policy.specs.{Domain.EdgeTest, Sharp.DerivesOn}}
use Rattle.integrity.{specs.{Invariant.{IsBare, IsHeld}, Keeping.MayKeep}, proofs.{Keeps.Changes, SlotKeeps.{IsAllowedIn, SlotsFit}}}
use Rattle.machine.specs.declared.object.ObjectKind.TheVariants as kind

-- a slot of another object is another slot
pub apart_slots : (q slot : SlotRef) → q.holder ≢ slot.holder → same_slot q slot ≡ false
apart_slots q slot apart = by_tie (same_slot q slot) refl where
  by_tie : (tie : Bool) → same_slot q slot ≡ tie → same_slot q slot ≡ false
  by_tie true is = absurd (apart (ap (λ (s : SlotRef). s.holder) (one_slot q slot is)))
  by_tie false is = is

-- what a capability gives is a kind of use
pub given_of_use : (detail : Detail) (k : Kind) → gives detail k ≡ true → is_structural k ≡ false
given_of_use detail k given = by_case (is_structural k) refl where
  by_case : (structural : Bool) → is_structural k ≡ structural → is_structural k ≡ false
  by_case true is = absurd (false≢true (sym (gives_no_structure detail k is) ∙ given))
  by_case false is = is

-- a capability may come into a slot, under a parent or under none: the caller's label may change the CNode or the thread that has
-- the slot, and the policy has the capability's edges from there, and that of the pair
pub record MayFill
    (t : Layout) (allowed : EdgeTest) (began : Machine) (a : ℕ) (m : Machine) (slot : SlotRef) (new : Cap)
    (parent : Option SlotRef) : Type 0 where
  pub label : ℕ
  pub labelled : label_of t m slot.holder ≡ Some label
  pub has : Changes t allowed began a label
  pub edges : IsAllowedIn t allowed m slot new
  pub derives :
      (above : SlotRef) (from : ℕ) → parent ≡ Some above → label_of t m above.holder ≡ Some from
      → allowed from authority.Derive label ≡ true

-- a CNode of a label may have the capability, if the policy has its edges from that label, and the label may keep any
pub in_node :
    (t : Layout) (allowed : EdgeTest) (m : Machine) (slot : SlotRef) (new : Cap) (label : ℕ)
    → kind_of m slot.holder ≡ Some kind.CNode → label_of t m slot.holder ≡ Some label
    → ((k : Kind) (to : ℕ) → gives new.detail k ≡ true → label_of t m new.object ≡ Some to → allowed label k to ≡ true)
    → MayKeep t allowed label → IsAllowedIn t allowed m slot new
in_node t allowed m slot new label is_node labelled edges keeps =
    inl (
      is_node,
      λ from k to given begins ends.
          ap (λ l. allowed l k to) (same_Some from label (sym begins ∙ labelled)) ∙ edges k to given ends,
      λ from begins. subst (MayKeep t allowed) (same_Some label from (sym labelled ∙ begins)) keeps,
    )

-- the label of a copy's parent may derive to a label to which the source's may derive
pub copy_derives :
    (t : Layout) (allowed : EdgeTest) (m : Machine) → IsHeld t allowed m → DerivesOn allowed
    → (source : SlotRef) (held : Cap) (at to : ℕ) → label_of t m source.holder ≡ Some at → allowed at authority.Derive to ≡ true
    → (above : SlotRef) (from : ℕ) → parent_of_copy m source held ≡ Some above → label_of t m above.holder ≡ Some from
    → allowed from authority.Derive to ≡ true
copy_derives t allowed m before derives_on source held at to labelled edge above from is begins = by_original held.original is where
  by_original :
      (original : Bool) → (if original then Some source else parent_of m source) ≡ Some above
      → allowed from authority.Derive to ≡ true
  by_original true is =
      let from_is : from ≡ at =
      same_Some from at (sym begins ∙ ap (λ (s : SlotRef). label_of t m s.holder) (sym (same_Some source above is)) ∙ labelled) in
      ap (λ l. allowed l authority.Derive to) from_is ∙ edge
  by_original false is =
      derives_on from at to (before.confined from authority.Derive at (by_pair source above is begins labelled)) edge

module _
    (t : Layout) (allowed : EdgeTest) (began : Machine) (a : ℕ) (m next : Machine) (before : IsHeld t allowed m) (slot : SlotRef)
    (new : Cap) (parent : Option SlotRef) (may : MayFill t allowed began a m slot new parent) (fills : Fills m slot new parent next) where
  caps : (q : SlotRef) (cap : Cap) → cap_of next q ≡ Some cap → (cap_of m q ≡ Some cap) ⊎ IsAllowedIn t allowed m q cap
  caps q cap e = by_tie (same_slot q slot) refl (sym (fills.caps q) ∙ e) where
    by_tie :
        (tie : Bool) → same_slot q slot ≡ tie → (if tie then Some new else cap_of m q) ≡ Some cap
        → (cap_of m q ≡ Some cap) ⊎ IsAllowedIn t allowed m q cap
    by_tie false is same = inl same
    by_tie true is same =
        inr
        (subst (λ (s : SlotRef). IsAllowedIn t allowed m s cap) (sym (one_slot q slot is))
        (subst (λ (c : Cap). IsAllowedIn t allowed m slot c) (same_Some new cap same) may.edges))

  pairs :
      (q above : SlotRef) (from to : ℕ) → parent_of next q ≡ Some above → label_of t m above.holder ≡ Some from
      → label_of t m q.holder ≡ Some to → allowed from authority.Derive to ≡ true
  pairs q above from to e begins ends = by_tie (same_slot q slot) refl (sym (fills.parents q) ∙ e) where
    by_tie :
        (tie : Bool) → same_slot q slot ≡ tie → (if tie then parent else parent_of m q) ≡ Some above
        → allowed from authority.Derive to ≡ true
    by_tie false is same = before.confined from authority.Derive to (by_pair q above same begins ends)
    by_tie true is same =
        let to_is : to ≡ may.label =
        same_Some to may.label (sym ends ∙ ap (λ (s : SlotRef). label_of t m s.holder) (one_slot q slot is) ∙ may.labelled) in
        ap (λ l. allowed from authority.Derive l) to_is ∙ may.derives above from same begins

  pub slots_elsewhere :
      (id : ObjId) → id ≢ slot.holder → (index : ℕ)
      → cap_of next (record { holder = id; index = index }) ≡ cap_of m (record { holder = id; index = index })
  slots_elsewhere id apart index =
      fills.caps (record { holder = id; index = index })
      ∙ ap (λ tie. if tie then Some new else cap_of m (record { holder = id; index = index }))
      (apart_slots (record { holder = id; index = index }) slot apart)

  pub fill_fits :
      ((q : SlotRef) (cap : Cap) → cap_of next q ≡ Some cap → kind_of next cap.object ≡ Some (kind_of_detail cap.detail))
      → ((id : ObjId) → object_of next id ≡ None → IsBare next id) → SlotsFit t allowed began a m next
  fill_fits kinds bare = record {
    same = fills.objects;
    caps = caps;
    pairs = pairs;
    slots = λ id. elim (one_or_two id slot.holder) [
      | inl same ↦ inr (record { label = may.label; labelled = ap (label_of t m) same ∙ may.labelled; has = may.has })
      | inr apart ↦ inl (slots_elsewhere id apart)
    ];
    kinds = kinds;
    bare = bare;
  }
