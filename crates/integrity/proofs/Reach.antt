-- Capabilities that a thread finds at an address: they are held in the domain of its label, so the label has the authority that they give.
use Rattle.std.proofs.Common.{[], ℕ, ◌∙◌, ◌≡◌, Ok, Some, ap, false, inl, inr, option_map, refl, sym, true}
use Rattle.base.specs.{declared.{ids.{ObjId.ObjId, SlotRef.SlotRef}, kind.Kind.{Kind, Kind as authority}}, Kinds.is_structural}
use Rattle.machine.specs.declared.{cap.Cap.Cap, object.ObjectKind.ObjectKind as kind, slot_address.SlotAddress.SlotAddress}
use Rattle.machine.specs.{Authority.{HasAuthority.{by_cap, by_root}, label_of}, Capabilities.{gives, kind_of_detail}, Layout.Layout}
use Rattle.machine.specs.{Lookup.{lookup_of, root_of}, Machine.{Machine, cap_of}, Objects.kind_of_object, WellFormed.kind_of}
use Rattle.{steps.proofs.SlotRows.LeadsTo, policy.specs.{Domain.{EdgeTest, IsInDomain}, Sharp.{MayPut, UsesRise}}}
use Rattle.integrity.specs.{Invariant.IsHeld, Keeping.{MayKeep, MayKeep.{finds, handed}}}
use Rattle.integrity.proofs.{ObjectLabels.kind_there, Walks.{Shows, lookup_ends, shows, walk_ends}}

-- a CNode that a label controls: the label found its capability, so it keeps
pub record IsControlled (t : Layout) (allowed : EdgeTest) (m : Machine) (a : ℕ) (node : ObjId) : Type 0 where
  pub is_node : kind_of m node ≡ Some kind.CNode
  pub label : ℕ
  pub labelled : label_of t m node ≡ Some label
  pub controls : allowed a authority.Control label ≡ true
  pub keeper : MayKeep t allowed a

-- a CNode is in the domain of a label, which keeps if the CNode's label does
pub record IsWithin (t : Layout) (allowed : EdgeTest) (m : Machine) (a : ℕ) (node : ObjId) : Type 0 where
  pub is_node : kind_of m node ≡ Some kind.CNode
  pub label : ℕ
  pub labelled : label_of t m node ≡ Some label
  pub domain : IsInDomain allowed a label
  pub keeper : MayKeep t allowed label → MayKeep t allowed a

-- a label that controls a CNode may hand what it keeps to the CNode's label
pub controlled_keeps :
    (t : Layout) (allowed : EdgeTest) (m : Machine) (a : ℕ) (node : ObjId) → (c : IsControlled t allowed m a node)
    → MayKeep t allowed c.label
controlled_keeps t allowed m a node c = handed c.keeper c.controls

-- it may put it there
pub controlled_put :
    (t : Layout) (allowed : EdgeTest) (m : Machine) (a : ℕ) (node : ObjId) → (c : IsControlled t allowed m a node)
    → MayPut allowed (MayKeep t allowed) a c.label
controlled_put t allowed m a node c = record { keeps = c.keeper; controls = c.controls }

module _ (t : Layout) (allowed : EdgeTest) (m : Machine) (held : IsHeld t allowed m) where
  -- the object of a capability has a label
  pub target_label : (slot : SlotRef) (cap : Cap) → cap_of m slot ≡ Some cap → (label : ℕ) × (label_of t m cap.object ≡ Some label)
  target_label slot cap filled =
      let there = kind_there m cap.object (kind_of_detail cap.detail) (held.kinds slot cap filled) in
      held.of_table.labelled cap.object there.0 there.1

  module _ (rise : UsesRise allowed) (a : ℕ) where
    -- the label has what a capability gives that is held within its domain
    held_within :
        (slot : SlotRef) (cap : Cap) (k : Kind) (to : ℕ) → IsWithin t allowed m a slot.holder → cap_of m slot ≡ Some cap
        → gives cap.detail k ≡ true → is_structural k ≡ false → label_of t m cap.object ≡ Some to → allowed a k to ≡ true
    held_within slot cap k to within filled given of_use labelled =
        rise a within.label k (record { domain = within.domain; of_use = of_use }) to
        (held.confined within.label k to (by_cap slot cap filled within.is_node given within.labelled labelled))

    -- it keeps if that is a capability for a CNode
    within_keeps :
        (slot : SlotRef) (cap : Cap) → IsWithin t allowed m a slot.holder → cap_of m slot ≡ Some cap
        → kind_of_detail cap.detail ≡ kind.CNode → MayKeep t allowed a
    within_keeps slot cap within filled for_node =
        within.keeper (held.nodes slot cap filled within.is_node for_node within.label within.labelled)

    -- a CNode in the domain hands the domain on
    pub shown_controlled :
        (slot : SlotRef) (node : ObjId) → IsWithin t allowed m a slot.holder → Shows m slot node → IsControlled t allowed m a node
    shown_controlled slot node within s =
        let to = target_label slot s.held s.filled in
        let given : gives s.held.detail authority.Control ≡ true = rw s.detail refl in
        record {
          is_node = s.is_node;
          label = to.0;
          labelled = ap (label_of t m) (sym s.object) ∙ to.1;
          controls = held_within slot s.held authority.Control to.0 within s.filled given refl to.1;
          keeper = within_keeps slot s.held within s.filled (ap kind_of_detail s.detail);
        }

    within_controlled : (node : ObjId) → IsControlled t allowed m a node → IsWithin t allowed m a node
    within_controlled node c =
        record { is_node = c.is_node; label = c.label; labelled = c.labelled; domain = inr c.controls; keeper = λ keeps. c.keeper }

    shown_within : (slot : SlotRef) (node : ObjId) → IsWithin t allowed m a slot.holder → Shows m slot node → IsWithin t allowed m a node
    shown_within slot node within s = within_controlled node (shown_controlled slot node within s)

    pub found_within :
        (caller : ObjId) (address : ℕ) (slot : SlotRef) (left : ℕ) → label_of t m caller ≡ Some a
        → lookup_of m caller address ≡ Ok (slot, left) → IsWithin t allowed m a slot.holder
    found_within caller address slot left labelled ends =
        lookup_ends m (IsWithin t allowed m a) shown_within caller address slot left
        (λ tcb node there s.
        let to = target_label (root_of caller) s.held s.filled in
        let space =
        held.confined a authority.Space to.0
        (by_root (root_of caller) s.held s.filled (ap (option_map kind_of_object) there) labelled to.1) in
        record {
          is_node = s.is_node;
          label = to.0;
          labelled = ap (label_of t m) (sym s.object) ∙ to.1;
          domain = inl space;
          keeper = λ keeps. finds keeps space;
        }) ends

    -- a label that finds a capability for a CNode keeps
    pub found_keeps :
        (caller : ObjId) (address : ℕ) (slot : SlotRef) (left : ℕ) (cap : Cap) → label_of t m caller ≡ Some a
        → lookup_of m caller address ≡ Ok (slot, left) → cap_of m slot ≡ Some cap → kind_of_detail cap.detail ≡ kind.CNode
        → MayKeep t allowed a
    found_keeps caller address slot left cap labelled ends filled for_node =
        within_keeps slot cap (found_within caller address slot left labelled ends) filled for_node

    -- the label controls the CNode to which a slot address leads
    pub led_controlled :
        (caller : ObjId) (address : SlotAddress) (slot : SlotRef) → label_of t m caller ≡ Some a → LeadsTo m caller address slot
        → IsControlled t allowed m a slot.holder
    led_controlled caller address slot labelled leads =
        walk_ends m (IsControlled t allowed m a)
        (λ at node c s. shown_controlled at node (within_controlled at.holder c) s) 65 leads.level _ (slot, [])
        (shown_controlled leads.at leads.level.node (found_within caller address.root leads.at leads.left labelled leads.found)
        (shows m leads.at leads.level leads.shows)) leads.ends

    -- a found capability's object has a label, over which the caller's label has what the capability gives
    pub record IsInReach (cap : Cap) : Type 0 where
      pub label : ℕ
      pub labelled : label_of t m cap.object ≡ Some label
      pub edge : (k : Kind) → gives cap.detail k ≡ true → is_structural k ≡ false → allowed a k label ≡ true

    pub found_in_reach :
        (caller : ObjId) (address : ℕ) (slot : SlotRef) (left : ℕ) (cap : Cap) → label_of t m caller ≡ Some a
        → lookup_of m caller address ≡ Ok (slot, left) → cap_of m slot ≡ Some cap → IsInReach cap
    found_in_reach caller address slot left cap labelled ends filled =
        let within = found_within caller address slot left labelled ends in
        let to = target_label slot cap filled in
        record {
          label = to.0;
          labelled = to.1;
          edge = λ k given of_use. held_within slot cap k to.0 within filled given of_use to.1;
        }
