-- Setspace and Clearspace within a caller's authority: its label controls the thread, whose root slot loses its capability, and
-- gets that of a CNode that the label controls too.
use Rattle.std.proofs.{Common.{ℕ, ◌∙◌, ◌≡◌, ◌⊎◌, None, Option, Some, ap, inl, inr, refl, subst, sym, true}, lemmas.Option.same_Some}
use Rattle.base.specs.declared.{ids.{ObjId.ObjId, SlotRef.SlotRef}, kind.Kind.Kind as authority}
use Rattle.machine.specs.declared.{call.Event.Event, cap.{Cap.Cap, Detail.Detail as d}, object.Object.Object}
use Rattle.machine.specs.{declared.object.ObjectKind.ObjectKind as kind, Authority.label_of, Capabilities.kind_of_detail, Layout.Layout}
use Rattle.machine.specs.{Lookup.root_of, Machine.{Machine, cap_of, object_of, same_slot}, Step.{Delete.deleted, Space.with_root}}
use Rattle.machine.specs.{Step.Space.without_root, Tree.{copied, parent_of_copy, with_copy}, WellFormed.{IsWellFormed, kind_of}}
use Rattle.steps.proofs.{Finding.FindsObject, SlotRows.with_copy_fills, SpaceFormed.{held_before, root_empty, set_formed, thread_there}}
use Rattle.steps.proofs.SpaceRow.{ClearDone, RootFilled, SetDone, root_filled}
use Rattle.policy.specs.{Change.WayToChange.modifies, Domain.EdgeTest, Sharp.MayPut}
use Rattle.integrity.specs.{Invariant.{IsHeld, IsSound}, Keeping.{IsSharp, MayKeep, MayKeep.handed}, Removals.MayRemove}
use Rattle.integrity.proofs.{FillKeeps.{MayFill, copy_derives, fill_fits}, Held.{bare_of, held_of}, Keeps.{Keeps, keeps_keeps, unchanged}}
use Rattle.integrity.proofs.{MessageParts.{IsReached, label_kept, reached}, ObjectLabels.{kind_there, labelled_there}}
use Rattle.integrity.proofs.{Reach.{IsWithin, found_keeps, found_within}, RemovalKeeps.{removed_keeps, removed_sound}}
use Rattle.integrity.proofs.{RemovalRights.may_clear_root, SlotKeeps.slots_keep, ThreadKeeps.{may_control, to_thread}}

module _
    (t : Layout) (allowed : EdgeTest) (event : Event) (a : ℕ) (m : Machine) (sound : IsSound t allowed m)
    (closed : IsSharp t allowed) (caller : ObjId) (mine : label_of t m caller ≡ Some a) (next : Machine) (address : ℕ) where
  -- the root slot loses its capability
  module _ (thread : ObjId) (finds : FindsObject m caller address thread d.Tcb) where
    abbrev of_thread : IsReached t allowed m event a m sound thread d.Tcb
    of_thread = to_thread t allowed event a m sound closed caller mine next address thread finds

    controls : allowed a authority.Control of_thread.label ≡ true
    controls = may_control t allowed event a m sound closed caller mine next address thread finds

    may_clear : MayRemove t allowed a m (same_slot (root_of thread))
    may_clear =
        may_clear_root t allowed a m sound closed thread of_thread.label
        (thread_there m thread finds.slot finds.held sound.well_formed finds.finds.holds finds.object finds.detail) of_thread.labelled
        controls

    cleared : IsSound t allowed (without_root m thread) × Keeps t allowed m event a m (without_root m thread)
    cleared = by_cap (cap_of m (root_of thread)) where
      by_cap :
          (filling : Option Cap)
          → IsSound t allowed (deleted m (root_of thread) filling)
          × Keeps t allowed m event a m (deleted m (root_of thread) filling)
      by_cap None = (sound, unchanged t allowed m event a m (held_of t allowed m sound))
      by_cap (Some held) = (
        removed_sound t allowed m (same_slot (root_of thread)) sound closed,
        removed_keeps t allowed m (same_slot (root_of thread)) sound closed event a may_clear,
      )

  pub clear_space_keeps : ClearDone m caller address next → IsSound t allowed next × Keeps t allowed m event a m next
  clear_space_keeps done =
      subst (λ (n : Machine). IsSound t allowed n × Keeps t allowed m event a m n) (sym done.changes)
      (cleared done.thread done.finds)

  -- it gets a copy of the CNode's capability
  module _ (space : ℕ) (done : SetDone m caller address space next) where
    abbrev thread : ObjId
    thread = done.thread

    abbrev root : SlotRef
    root = root_of done.thread

    abbrev mid : Machine
    mid = without_root m done.thread

    mid_sound : IsSound t allowed mid
    mid_sound = (cleared done.thread done.finds).0

    mid_keeps : Keeps t allowed m event a m mid
    mid_keeps = (cleared done.thread done.finds).1

    mid_held : IsHeld t allowed mid
    mid_held = held_of t allowed mid mid_sound

    abbrev at_thread : IsReached t allowed m event a m sound thread d.Tcb
    at_thread = of_thread thread done.finds

    may_act : allowed a authority.Control at_thread.label ≡ true
    may_act = controls thread done.finds

    at_node : IsReached t allowed m event a m sound done.held.object (d.CNode done.guard)
    at_node =
        reached t allowed m event a m sound closed.uses_rise caller space done.held.object (d.CNode done.guard) mine
        (record { slot = done.node; held = done.held; finds = done.finds_node; object = refl; detail = done.detail })

    -- the slot with the CNode's capability is in the caller's domain
    node_within : IsWithin t allowed m a done.node.holder
    node_within =
        found_within t allowed m (held_of t allowed m sound) closed.uses_rise a caller space done.node
        done.finds_node.left mine
        done.finds_node.ends

    -- the caller's label keeps, and may put what it keeps where it controls the thread
    may_put : MayPut allowed (MayKeep t allowed) a at_thread.label
    may_put = record {
      keeps =
          found_keeps t allowed m (held_of t allowed m sound) closed.uses_rise a caller space done.node done.finds_node.left done.held
          mine done.finds_node.ends done.finds_node.holds (ap kind_of_detail done.detail);
      controls = may_act;
    }

    still :
        (id : ObjId) (object : Object) (label : ℕ) → object_of mid id ≡ Some object → label_of t m id ≡ Some label
        → label_of t mid id ≡ Some label
    still id object label there labelled =
        let was = labelled_there t m id label labelled in
        label_kept t allowed m event a m mid id was.0 object mid_keeps was.1 there ∙ labelled

    module _ (w : RootFilled mid thread done.finds.slot done.node) where
      thread_is : w.of ≡ done.finds.held
      thread_is =
          same_Some w.of done.finds.held
          (sym (held_before m thread done.finds.slot w.of w.thread_held) ∙ done.finds.finds.holds)

      node_is : w.held ≡ done.held
      node_is =
          same_Some w.held done.held (sym (held_before m thread done.node w.held w.node_held) ∙ done.finds_node.holds)

      node_filled : cap_of mid done.node ≡ Some done.held
      node_filled = w.node_held ∙ ap (λ (c : Cap). Some c) node_is

      is_thread : kind_of mid thread ≡ Some kind.Tcb
      is_thread =
          thread_there mid thread done.finds.slot w.of mid_sound.well_formed w.thread_held
          (ap (λ (c : Cap). c.object) thread_is ∙ done.finds.object) (ap (λ (c : Cap). c.detail) thread_is ∙ done.finds.detail)

      thread_label : label_of t mid thread ≡ Some at_thread.label
      thread_label =
          let there = kind_there mid thread kind.Tcb is_thread in
          still thread there.0 at_thread.label there.1 at_thread.labelled

      node_label : label_of t mid done.held.object ≡ Some at_node.label
      node_label =
          let there =
          kind_there mid done.held.object (kind_of_detail done.held.detail)
          (mid_sound.well_formed.slots.object done.node done.held node_filled) in
          still done.held.object there.0 at_node.label there.1 at_node.labelled

      holder_label : label_of t mid done.node.holder ≡ Some node_within.label
      holder_label =
          let holder = mid_sound.well_formed.slots.holder done.node done.held node_filled in
          still done.node.holder holder.0 node_within.label holder.1 node_within.labelled

      -- the thread's label controls the CNode as the caller's does, so it may have it as its space
      may_have : allowed at_thread.label authority.Space at_node.label ≡ true
      may_have =
          closed.keepers_have_all at_thread.label authority.Space at_node.label (handed may_put.keeps may_act) (record {
            controls =
                closed.uses_fall a at_thread.label authority.Control at_node.label may_put refl (at_node.edge authority.Control refl refl);
            given = inl refl;
          })

      abbrev new : Cap
      new = copied done.held done.held.detail

      abbrev parent : Option SlotRef
      parent = parent_of_copy mid done.node done.held

      abbrev after : Machine
      after = with_copy mid root done.node done.held done.held.detail

      may_fill : MayFill t allowed m a mid root new parent
      may_fill = record {
        label = at_thread.label;
        labelled = thread_label;
        has = λ awake. modifies authority.Control refl may_act;
        edges =
            inr (
              is_thread,
              λ from to begins ends.
                  ap (λ l. allowed l authority.Space to) (same_Some from at_thread.label (sym begins ∙ thread_label))
                  ∙ ap (allowed at_thread.label authority.Space) (same_Some to at_node.label (sym ends ∙ node_label)) ∙ may_have,
            );
        derives =
            copy_derives t allowed mid mid_held closed.derives_on done.node done.held node_within.label at_thread.label
            holder_label
            (closed.keepers_derive a node_within.label at_thread.label node_within.domain may_put);
      }

      root_is : with_root mid thread done.finds.slot done.node ≡ after
      root_is = w.changes ∙ ap (λ (c : Cap). with_copy mid root done.node c c.detail) node_is

      after_formed : IsWellFormed after
      after_formed =
          subst IsWellFormed (done.changes ∙ root_is) (set_formed m caller address space next sound.well_formed done)

      copy_keeps : Keeps t allowed m event a mid after
      copy_keeps =
          slots_keep t allowed m event a mid after mid_held
          (fill_fits t allowed m a mid after mid_held root new parent may_fill
          (with_copy_fills mid root done.node done.held done.held.detail mid_sound.well_formed (root_empty m thread))
          after_formed.slots.object (bare_of after after_formed))

    pub set_space_keeps : Keeps t allowed m event a m next
    set_space_keeps =
        subst (λ (n : Machine). Keeps t allowed m event a m n) (sym done.changes)
        (by_root (root_filled mid thread done.finds.slot done.node))
      where
        by_root :
            RootFilled mid thread done.finds.slot done.node ⊎ (with_root mid thread done.finds.slot done.node ≡ mid)
            → Keeps t allowed m event a m (with_root mid thread done.finds.slot done.node)
        by_root (inl w) =
            subst (λ (n : Machine). Keeps t allowed m event a m n) (sym (root_is w))
            (keeps_keeps t allowed m event a m mid (after w) (held_of t allowed m sound) mid_keeps (copy_keeps w))
        by_root (inr same) = subst (λ (n : Machine). Keeps t allowed m event a m n) (sym same) mid_keeps
