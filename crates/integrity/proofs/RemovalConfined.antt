-- A removal keeps a machine within the policy: each edge was there, or is that of an orphan's new parent, from which it descended.
use Rattle.std.{specs.Prelude.length, proofs.Common.{ℕ, ◌<◌, ◌∙◌, ◌≡◌, ◌≤◌, Bool, None, Option, Some, ap}}
use Rattle.std.proofs.{Common.{cond, false, refl, subst, sym, true}, lemmas.{Bool.false≢true, Option.none-some}}
use Rattle.base.specs.declared.{ids.{ObjId.ObjId, SlotRef.SlotRef}, kind.Kind.{Kind, Kind as authority}}
use Rattle.machine.specs.declared.object.{Object.{Object, Object as o}, ObjectKind.ObjectKind, ReplyState.{ReplyState, ReplyState as reply}}
use Rattle.machine.specs.{declared.thread.Tcb.Tcb, Authority.{HasAuthority.{by_cap, by_link, by_pair, by_root}, context_lent, holds_thread}}
use Rattle.machine.specs.{Authority.{label_of, links}, Finalising.{aborted, finalised, halted, is_aborted, is_halted, leads_nowhere}}
use Rattle.machine.specs.{Finalising.{leaves, link_after, reply_after, tcb_after, unbound}, Layout.Layout, Machine.{Machine, parent_of}}
use Rattle.machine.specs.{Objects.{address_of, kind_of_object}, Removal.{removed, vanishes}, WellFormed.{Descends, child, further, kind_of}}
use Rattle.machine.proofs.{RemovalLooks.next-removed, RemovalStays.{cap_was, like_finalised, object_was, parent_was, untyped_was}}
use Rattle.{machine.proofs.RunsLinks.runs_also, policy.specs.{Domain.EdgeTest, Sharp.DerivesOn}}
use Rattle.integrity.specs.{Confined.IsConfined, Invariant.IsSound, Keeping.KeepersHoldNodes, OfTable.IsOfTable}
use Rattle.integrity.proofs.{ObjectLabels.{kind_stays, kind_there, label_stays, labelled_there}, Shrinking.same_tcb}

-- a finalised object has no new links

link_was : (vanished : ObjId → Bool) (link : Option ObjId) (end : ObjId) → link_after vanished link ≡ Some end → link ≡ Some end
link_was vanished link end = by_end (leads_nowhere vanished link) where
  by_end : (b : Bool) → cond b None link ≡ Some end → link ≡ Some end
  by_end true e = absurd (none-some end e)
  by_end false e = e

holding_was :
    (m : Machine) (vanished : ObjId → Bool) (held : ReplyState) (end : ObjId) → holds_thread (reply_after m vanished held) end ≡ true
    → holds_thread held end ≡ true
holding_was m vanished reply.Free end e = e
holding_was m vanished (reply.Waiting thread) end e = by_left (leaves m vanished thread) e where
  by_left : (b : Bool) → holds_thread (cond b reply.Free (reply.Waiting thread)) end ≡ true → holds_thread (reply.Waiting thread) end ≡ true
  by_left true e = absurd (false≢true e)
  by_left false e = e
holding_was m vanished (reply.Called thread) end e = by_left (leaves m vanished thread) e where
  by_left : (b : Bool) → holds_thread (cond b reply.Free (reply.Called thread)) end ≡ true → holds_thread (reply.Called thread) end ≡ true
  by_left true e = absurd (false≢true e)
  by_left false e = e

lent_was :
    (tcb : Tcb) (halts aborts : Bool) (context : ObjId)
    → context_lent (cond halts (halted tcb) (cond aborts (aborted tcb) tcb)).state ≡ Some context → context_lent tcb.state ≡ Some context
lent_was tcb true aborts context e = absurd (none-some context e)
lent_was tcb false true context e = absurd (none-some context e)
lent_was tcb false false context e = e

tcb_link_was :
    (vanished : ObjId → Bool) (tcb : Tcb) (halts aborts : Bool) (k : Kind) (end : ObjId)
    → links (o.Tcb (unbound vanished (cond halts (halted tcb) (cond aborts (aborted tcb) tcb)))) k end ≡ true
    → links (o.Tcb tcb) k end ≡ true
tcb_link_was vanished tcb true aborts authority.Runs end e =
    runs_also (unbound vanished (halted tcb)) tcb end (link_was vanished tcb.context end) (lent_was tcb true aborts end) e
tcb_link_was vanished tcb false true authority.Runs end e =
    runs_also (unbound vanished (aborted tcb)) tcb end (link_was vanished tcb.context end) (lent_was tcb false true end) e
tcb_link_was vanished tcb false false authority.Runs end e =
    runs_also (unbound vanished tcb) tcb end (link_was vanished tcb.context end) (lent_was tcb false false end) e
tcb_link_was vanished tcb true aborts k end e = absurd (false≢true e)
tcb_link_was vanished tcb false true k end e = absurd (false≢true e)
tcb_link_was vanished tcb false false k end e = e

pub object_link_was :
    (m : Machine) (vanished : ObjId → Bool) (object : Object) (k : Kind) (end : ObjId)
    → links (finalised m vanished object) k end ≡ true → links object k end ≡ true
object_link_was m vanished (o.Tcb tcb) k end e =
    tcb_link_was vanished tcb (is_halted vanished tcb.state) (is_aborted vanished tcb.state) k end e
object_link_was m vanished (o.Reply holding) authority.Holds end e = holding_was m vanished holding.state end e
object_link_was m vanished (o.Reply holding) _ end e = absurd (false≢true e)
object_link_was m vanished (o.Context context) k end e = absurd (false≢true e)
object_link_was m vanished _ k end e = e

-- a finalised thread doesn't lend anew
object_lent_was :
    (m : Machine) (vanished : ObjId → Bool) (object : Object) (thread : Tcb) (context : ObjId)
    → finalised m vanished object ≡ o.Tcb thread → context_lent thread.state ≡ Some context
    → (tcb : Tcb) × (object ≡ o.Tcb tcb) × (context_lent tcb.state ≡ Some context)
object_lent_was m vanished (o.Tcb tcb) thread context is lends = (
  tcb,
  refl,
  lent_was tcb (is_halted vanished tcb.state) (is_aborted vanished tcb.state) context
      (ap (λ (x : Tcb). context_lent x.state) (same_tcb (tcb_after vanished tcb) thread is) ∙ lends),
)
object_lent_was m vanished _ thread context is lends = cc

module _ (t : Layout) (m : Machine) (chosen : SlotRef → Bool) where
  abbrev after : Machine
  after = removed m chosen

  abbrev vanished : ObjId → Bool
  vanished = vanishes m chosen

  -- an object that stays keeps its label and its kind

  pub label_was : (id : ObjId) (label : ℕ) → label_of t (removed m chosen) id ≡ Some label → label_of t m id ≡ Some label
  label_was id label e =
      let there = labelled_there t after id label e in
      let was = object_was m chosen id there.0 there.1 in
      sym
      (label_stays t m after id was.0 there.0 was.1 there.1
      (ap address_of (sym was.3) ∙ (like_finalised m vanished was.0).address))
      ∙ e

  kind_was : (id : ObjId) (kind : ObjectKind) → kind_of (removed m chosen) id ≡ Some kind → kind_of m id ≡ Some kind
  kind_was id kind e =
      let there = kind_there after id kind e in
      let was = object_was m chosen id there.0 there.1 in
      sym
      (kind_stays t m after id was.0 there.0 was.1 there.1
      (ap kind_of_object (sym was.3) ∙ (like_finalised m vanished was.0).kind))
      ∙ e

  module _ (allowed : EdgeTest) (sound : IsSound t allowed m) where
    -- the holder of a slot that is a parent has a label
    parent_label : (slot parent : SlotRef) → parent_of m slot ≡ Some parent → (label : ℕ) × (label_of t m parent.holder ≡ Some label)
    parent_label slot parent e =
        let above = sound.well_formed.slots.parent_filled slot parent e in
        let holder = sound.well_formed.slots.holder parent above.0 above.1 in
        sound.of_table.labelled parent.holder holder.0 holder.1

    -- the holder of a slot that descends from another may be derived to
    pub descends_derive :
        DerivesOn allowed → {slot above : SlotRef} → Descends m slot above → (from to : ℕ) → label_of t m above.holder ≡ Some from
        → label_of t m slot.holder ≡ Some to → allowed from authority.Derive to ≡ true
    descends_derive derives_on (child {slot} {parent} is) from to source target =
        sound.confined from authority.Derive to (by_pair slot parent is source target)
    descends_derive derives_on (further {slot} {parent} {above} is d) from to source target =
        let mid = parent_label slot parent is in
        derives_on from mid.0 to (descends_derive derives_on d from mid.0 source mid.1)
        (sound.confined mid.0 authority.Derive to (by_pair slot parent is mid.1 target))

    pub removed_confined : DerivesOn allowed → IsConfined t allowed (removed m chosen)
    removed_confined derives_on from k to (by_cap slot held filled node given source target) =
        sound.confined from k to
        (by_cap slot held (cap_was m chosen slot held filled).1 (kind_was slot.holder _ node) given (label_was slot.holder from source)
        (label_was held.object to target))
    removed_confined derives_on from k to (by_root slot held filled thread source target) =
        sound.confined from _ to
        (by_root slot held (cap_was m chosen slot held filled).1 (kind_was slot.holder _ thread) (label_was slot.holder from source)
        (label_was held.object to target))
    removed_confined derives_on from k to (by_pair slot parent is source target) =
        descends_derive derives_on (parent_was m chosen sound.well_formed.slots.acyclic slot parent is).1 from to
        (label_was parent.holder from source) (label_was slot.holder to target)
    removed_confined derives_on from k to (by_link id end object at has source target) =
        let was = object_was m chosen id object at in
        sound.confined from k to
        (by_link id end was.0 was.1
        (object_link_was m vanished was.0 k end (ap (λ (x : Object). links x k end) was.3 ∙ has)) (label_was id from source)
        (label_was end to target))

    pub removed_nodes : KeepersHoldNodes t allowed (removed m chosen)
    removed_nodes slot held filled node for_node label labelled =
        sound.nodes slot held (cap_was m chosen slot held filled).1 (kind_was slot.holder _ node) for_node label
        (label_was slot.holder label labelled)

    pub removed_of_table : IsOfTable t (removed m chosen)
    removed_of_table = record {
      labelled = λ id object at.
          let was = object_was m chosen id object at in
          let label = sound.of_table.labelled id was.0 was.1 in (
            label.0,
            label_stays t m after id was.0 object was.1 at (ap address_of (sym was.3) ∙ (like_finalised m vanished was.0).address)
                ∙ label.1,
          );
      initial = λ id object declared at is.
          let was = object_was m chosen id object at in
          let kept = sound.of_table.initial id was.0 declared was.1 is in (
            ap kind_of_object (sym was.3) ∙ (like_finalised m vanished was.0).kind ∙ kept.0,
            ap address_of (sym was.3) ∙ (like_finalised m vanished was.0).address ∙ kept.1,
          );
      ranged = λ id memory label address at labelled.
          let was = object_was m chosen id (o.Untyped memory) at in
          sound.of_table.ranged id memory label address (was.1 ∙ ap Some (untyped_was m vanished was.0 memory was.3))
          (label_was id label labelled);
      inside = sound.of_table.inside;
      lent = λ id context thread at lends.
          let was = object_was m chosen id (o.Tcb thread) at in
          let lent = object_lent_was m vanished was.0 thread context was.3 lends in
          subst (λ n. context.0 < n) (sym (next-removed m chosen))
          (sound.of_table.lent id context lent.0 (was.1 ∙ ap Some lent.1) lent.2);
      counted = subst (λ n. length t.objects ≤ n) (sym (next-removed m chosen)) sound.of_table.counted;
    }
