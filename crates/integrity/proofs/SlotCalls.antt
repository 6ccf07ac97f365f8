-- Copy, Mint and Move within a caller's authority: its label controls the CNodes of both slots, so the labels of both may do the same, and
-- derive to each other.
use Rattle.std.{specs.Prelude.if◌then◌else◌, proofs.Common.{ℕ, ◌∙◌, ◌≡◌, ◌≢◌, ◌⊎◌, Bool, None, Some, ap}}
use Rattle.std.proofs.{Common.{false, inl, inr, refl, subst, sym, true}, lemmas.Option.{none-some, same_Some}}
use Rattle.base.specs.{declared.{ids.{ObjId.ObjId, SlotRef.SlotRef}, kind.Kind.{Kind, Kind as authority}}, Kinds.is_structural}
use Rattle.machine.specs.declared.{call.Event.Event, cap.Cap.Cap, slot_address.SlotAddress.SlotAddress}
use Rattle.machine.specs.{Authority.{HasAuthority.{by_cap, by_pair}, label_of}, Capabilities.gives, Layout.Layout}
use Rattle.machine.specs.{Machine.{Machine, cap_of, parent_of, same_slot}, Tree.{copied, exchange, parent_of_copy}}
use Rattle.machine.{specs.WellFormed.{IsWellFormed, kind_of}, proofs.{AuthorityLemmas.gives_fewer, Ids.one_or_two, LookUps.one_slot}}
use Rattle.steps.proofs.{FillsFormed.derives_formed, LedSlots.led_slot, MovesFormed.{move_formed, pair_was}, SlotRows.{Derives, MoveDone}}
use Rattle.policy.specs.{Change.WayToChange.modifies, Domain.EdgeTest}
use Rattle.integrity.specs.{Invariant.{IsHeld, IsSound}, Keeping.{IsSharp, MayKeep}}
use Rattle.integrity.proofs.FillKeeps.{MayFill, apart_slots, copy_derives, fill_fits, given_of_use, in_node}
use Rattle.integrity.proofs.{Held.{bare_of, held_of}, Keeps.Keeps, Reach.{IsControlled, controlled_keeps, controlled_put, led_controlled}}
use Rattle.integrity.proofs.SlotKeeps.{IsAllowedIn, SlotsFit, opened, slots_keep}

-- one label is near another: what may derive to the one may derive to the other, and what the one may derive to, the other may
record IsNear (allowed : EdgeTest) (label other : ℕ) : Type 0 where
  down : (from : ℕ) → allowed from authority.Derive label ≡ true → allowed from authority.Derive other ≡ true
  up : (to : ℕ) → allowed label authority.Derive to ≡ true → allowed other authority.Derive to ≡ true

module _
    (t : Layout) (allowed : EdgeTest) (event : Event) (a : ℕ) (m : Machine) (sound : IsSound t allowed m) (closed : IsSharp t allowed)
    (caller : ObjId) (labelled : label_of t m caller ≡ Some a) (to from : SlotAddress) (next : Machine) where
  held_before : IsHeld t allowed m
  held_before = held_of t allowed m sound

  abbrev Controlled : ObjId → Type 0
  Controlled id = IsControlled t allowed m a id

  -- labels that the caller's controls derive on one another
  derives : (one other : ObjId) → (x : Controlled one) → (y : Controlled other) → allowed x.label authority.Derive y.label ≡ true
  derives one other x y =
      closed.keepers_derive a x.label y.label (inr x.controls) (controlled_put t allowed m a other y)

  -- labels that the caller's controls may do the same
  same_edges :
      (one other : ObjId) (x : Controlled one) (y : Controlled other) (k : Kind) (end : ℕ) → is_structural k ≡ false
      → allowed x.label k end ≡ true → allowed y.label k end ≡ true
  same_edges one other x y k end of_use edge =
      closed.uses_fall a y.label k end (controlled_put t allowed m a other y) of_use
      (closed.uses_rise a x.label k (record { domain = inr x.controls; of_use = of_use }) end edge)

  -- what a found capability gives, from the label of any CNode that the caller's controls
  edges :
      (target source : SlotRef) (held : Cap) → (y : Controlled target.holder) → Controlled source.holder
      → cap_of m source ≡ Some held → (k : Kind) (start end : ℕ) → gives held.detail k ≡ true
      → label_of t m target.holder ≡ Some start → label_of t m held.object ≡ Some end → allowed start k end ≡ true
  edges target source held y x filled k start end given begins ends =
      let is : start ≡ y.label = same_Some start y.label (sym begins ∙ y.labelled) in
      ap (λ l. allowed l k end) is
      ∙ same_edges source.holder target.holder x y k end (given_of_use held.detail k given)
      (held_before.confined x.label k end (by_cap source held filled x.is_node given x.labelled ends))

  module _ (done : Derives m caller to from next) where
    mine : Controlled done.target.holder
    mine = led_controlled t allowed m held_before closed.uses_rise a caller to done.target labelled done.finds.leads_to

    source_mine : Controlled done.source.holder
    source_mine = led_controlled t allowed m held_before closed.uses_rise a caller from done.source labelled done.finds.leads_from

    formed : IsWellFormed next
    formed = derives_formed m caller to from next sound.well_formed done

    copy_may : MayFill t allowed m a m done.target (copied done.held done.detail) (parent_of_copy m done.source done.held)
    copy_may = record {
      label = mine.label;
      labelled = mine.labelled;
      has = λ awake. modifies authority.Control refl mine.controls;
      edges =
          in_node t allowed m done.target (copied done.held done.detail) mine.label mine.is_node mine.labelled
          (λ k end given ends.
          edges done.target done.source done.held mine source_mine done.finds.filled k mine.label end
          (gives_fewer done.detail done.held.detail k done.narrower given) mine.labelled ends)
          (controlled_keeps t allowed m a done.target.holder mine);
      derives =
          copy_derives t allowed m held_before closed.derives_on done.source done.held source_mine.label mine.label
          source_mine.labelled (derives done.source.holder done.target.holder source_mine mine);
    }

    copy_fits : SlotsFit t allowed m a m next
    copy_fits =
        fill_fits t allowed m a m next held_before done.target (copied done.held done.detail)
        (parent_of_copy m done.source done.held) copy_may
        done.changes formed.slots.object (bare_of next formed)

    pub derive_keeps : Keeps t allowed m event a m next
    derive_keeps = slots_keep t allowed m event a m next held_before copy_fits

  module _ (done : MoveDone m caller to from next) where
    goal_mine : Controlled done.target.holder
    goal_mine = led_controlled t allowed m held_before closed.uses_rise a caller to done.target labelled done.finds.leads_to

    start_mine : Controlled done.source.holder
    start_mine = led_controlled t allowed m held_before closed.uses_rise a caller from done.source labelled done.finds.leads_from

    moved_formed : IsWellFormed next
    moved_formed = move_formed m caller to from next sound.well_formed done

    -- a capability was there, or is the one that moved
    move_caps :
        (q : SlotRef) (cap : Cap) → cap_of next q ≡ Some cap → (cap_of m q ≡ Some cap) ⊎ IsAllowedIn t allowed m q cap
    move_caps q cap e =
        by_tie (same_slot q done.target) (same_slot q done.source) refl (sym (done.changes.caps q) ∙ e)
      where
        by_tie :
            (tie also : Bool) → same_slot q done.target ≡ tie
            → (if tie then Some done.held else if also then None else cap_of m q) ≡ Some cap
            → (cap_of m q ≡ Some cap) ⊎ IsAllowedIn t allowed m q cap
        by_tie false true is same = absurd (none-some cap same)
        by_tie false false is same = inl same
        by_tie true also is same =
            let at = one_slot q done.target is in
            let cap_is : done.held ≡ cap = same_Some _ _ same in
            inr
            (inl (
              ap (λ (s : SlotRef). kind_of m s.holder) at ∙ goal_mine.is_node,
              λ start k end given begins ends.
                  edges done.target done.source done.held goal_mine start_mine done.finds.filled k start end
                  (ap (λ (c : Cap). gives c.detail k) cap_is ∙ given)
                  (ap (λ (s : SlotRef). label_of t m s.holder) (sym at) ∙ begins)
                  (ap (λ (c : Cap). label_of t m c.object) cap_is ∙ ends),
              λ start begins.
                  subst (MayKeep t allowed)
                  (same_Some goal_mine.label start
                  (sym goal_mine.labelled ∙ ap (λ (s : SlotRef). label_of t m s.holder) (sym at) ∙ begins))
                  (controlled_keeps t allowed m a done.target.holder goal_mine),
            ))

    -- the labels of two controlled CNodes are near
    near_controlled : (one other : ObjId) → (x : Controlled one) → (y : Controlled other) → IsNear allowed x.label y.label
    near_controlled one other x y = record {
      down = λ start edge. closed.derives_on start x.label y.label edge (derives one other x y);
      up = λ end edge. closed.derives_on y.label x.label end (derives other one y x) edge;
    }

    -- a slot that is one of the two has a label near that of the other
    at_controlled :
        (q slot was : SlotRef) → q ≡ slot → (y : Controlled slot.holder) → Controlled was.holder → (label : ℕ)
        → label_of t m q.holder ≡ Some label
        → (other : ℕ) × (label_of t m was.holder ≡ Some other) × IsNear allowed other label
    at_controlled q slot was at y x label begins =
        let is : y.label ≡ label =
        same_Some y.label label (sym y.labelled ∙ ap (λ (s : SlotRef). label_of t m s.holder) (sym at) ∙ begins) in
        (x.label, x.labelled, subst (λ l. IsNear allowed x.label l) is (near_controlled was.holder slot.holder x y))

    -- a slot's label is near that of the slot in whose place it came
    near :
        (q : SlotRef) (label : ℕ) → label_of t m q.holder ≡ Some label
        → (other : ℕ) × (label_of t m (exchange done.source done.target q).holder ≡ Some other) × IsNear allowed other label
    near q label begins = by_tie (same_slot q done.source) (same_slot q done.target) refl refl where
      by_tie :
          (tie also : Bool) → same_slot q done.source ≡ tie → same_slot q done.target ≡ also
          → (other : ℕ)
          × (label_of t m (if tie then done.target else if also then done.source else q).holder ≡ Some other)
          × IsNear allowed other label
      by_tie true also is apart = at_controlled q done.source done.target (one_slot q done.source is) start_mine goal_mine label begins
      by_tie false true apart is = at_controlled q done.target done.source (one_slot q done.target is) goal_mine start_mine label begins
      by_tie false false apart also = (label, begins, record { down = λ start edge. edge; up = λ end edge. edge })

    -- each pair was one of the slots before they changed places
    move_pairs :
        (q parent : SlotRef) (start end : ℕ) → parent_of next q ≡ Some parent → label_of t m parent.holder ≡ Some start
        → label_of t m q.holder ≡ Some end → allowed start authority.Derive end ≡ true
    move_pairs q parent start end e begins ends =
        let above = near parent start begins in
        let below = near q end ends in
        let was =
        pair_was m next done.source done.target done.held sound.well_formed done.changes
        (led_slot m caller to done.target done.finds.leads_to) done.finds.vacant done.finds.filled q parent e in
        let edge : allowed above.0 authority.Derive below.0 ≡ true =
        held_before.confined above.0 authority.Derive below.0
        (by_pair (exchange done.source done.target q) (exchange done.source done.target parent) was above.1 below.1) in
        below.2.down start (above.2.up below.0 edge)

    -- an object with neither slot keeps what its slots hold
    others_keep :
        (id : ObjId) → id ≢ done.target.holder → id ≢ done.source.holder → (index : ℕ)
        → cap_of next (record { holder = id; index = index }) ≡ cap_of m (record { holder = id; index = index })
    others_keep id not_target not_source index =
        let q : SlotRef = record { holder = id; index = index } in
        done.changes.caps q
        ∙ ap (λ tie. if tie then Some done.held else if same_slot q done.source then None else cap_of m q)
        (apart_slots q done.target not_target)
        ∙ ap (λ tie. if tie then None else cap_of m q) (apart_slots q done.source not_source)

    move_fits : SlotsFit t allowed m a m next
    move_fits = record {
      same = done.changes.objects;
      caps = move_caps;
      pairs = move_pairs;
      slots = λ id. elim (one_or_two id done.target.holder) [
        | inl same ↦ inr (opened t allowed m m a id (subst (λ (i : ObjId). IsControlled t allowed m a i) (sym same) goal_mine))
        | inr apart ↦ elim (one_or_two id done.source.holder) [
          | inl same ↦ inr (opened t allowed m m a id (subst (λ (i : ObjId). IsControlled t allowed m a i) (sym same) start_mine))
          | inr also ↦ inl (others_keep id apart also)
        ]
      ];
      kinds = moved_formed.slots.object;
      bare = bare_of next moved_formed;
    }

    pub move_keeps : Keeps t allowed m event a m next
    move_keeps = slots_keep t allowed m event a m next held_before move_fits
