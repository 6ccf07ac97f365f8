-- Signal, Poll and Wait within a caller's authority: its label may notify or await the notification that is found, and the thread that
-- waits there awaits it by a recorded edge.
use Rattle.std.proofs.Common.{ℕ, ◌∙◌, ◌≡◌, ◌≢◌, ◌⊎◌, Bool, None, Option, Some, ap, inl, inr, refl, subst, sym, true}
use Rattle.base.specs.declared.{ids.ObjId.ObjId, kind.Kind.{Kind, Kind as authority}}
use Rattle.machine.specs.declared.{call.Event.Event, cap.{Badged.Badged, Detail.Detail as d}, object.Notification.Notification}
use Rattle.machine.specs.declared.{object.Object.{Object, Object as o}, thread.{RunState.{RunState, RunState as state}, Tcb.Tcb}}
use Rattle.machine.specs.{Authority.{label_of, state_links}, Capabilities.{can_read, can_write}, Layout.Layout}
use Rattle.machine.specs.{Machine.{Machine, object_of, with_object}, Releasing.with_blocked, WellFormed.{IsThread, WaitsAt}}
use Rattle.machine.proofs.{Ids.itself, Leaving.Names, LookUps.one_id}
use Rattle.steps.proofs.{Admission.IsCaller, MessageRows.caller_idle, NotificationRow.IsOpen}
use Rattle.steps.proofs.{PollRow.PollDone, SignalRow.{SignalDone, Wakes, marked, roused}, WaitRow.WaitDone}
use Rattle.policy.specs.{Change.WayToChange.{modifies, notifies}, Domain.EdgeTest, Sharp.UsesRise}
use Rattle.integrity.specs.{Invariant.{IsHeld, IsSound}, Shrinks.IsBlocked}
use Rattle.integrity.proofs.{Asleep.blocked_acts, Awake.blocked_actor, Contents.{changed, notification_fits}, Held.held_of}
use Rattle.integrity.proofs.{Keeps.{Changes, Keeps}, MessageParts.{IsReached, at_reached, reached, thread_edge}}
use Rattle.integrity.proofs.{MessageTouches.{blocked_keeps, released_keeps}, SetKeeps.set_keeps}

module _
    (t : Layout) (allowed : EdgeTest) (event : Event) (a : ℕ) (m : Machine) (sound : IsSound t allowed m)
    (rise : UsesRise allowed) where
  held : IsHeld t allowed m
  held = held_of t allowed m sound

  -- the caller's label has what a found capability gives over the notification's
  abbrev IsOpenTo : ObjId → Badged → Type 0
  IsOpenTo id end = IsReached t allowed m event a m sound id (d.Notification end)

  open_within :
      (caller : ObjId) (address : ℕ) (allows : Badged → Bool) → label_of t m caller ≡ Some a
      → (open_to : IsOpen m caller address allows) → IsOpenTo open_to.id open_to.end
  open_within caller address allows labelled open_to =
      reached t allowed m event a m sound rise caller address open_to.id (d.Notification open_to.end) labelled open_to.finds

  -- a notification's word is set
  word_keeps :
      (id : ObjId) (old new : Notification) (label : ℕ) → object_of m id ≡ Some (o.Notification old) → new.address ≡ old.address
      → label_of t m id ≡ Some label → Changes t allowed m a label
      → Keeps t allowed m event a m (with_object m id (o.Notification new))
  word_keeps id old new label was same labelled has =
      set_keeps t allowed m event a m id held (o.Notification old) (o.Notification new)
      (notification_fits t allowed m event a m id old new was same) (changed t allowed m a m _ id label labelled has)

  -- the thread that waits first at a notification is woken
  wake_keeps :
      (id : ObjId) (badge label : ℕ) (next : Machine) → label_of t m id ≡ Some label → allowed a authority.Notify label ≡ true
      → Wakes m id badge next → Keeps t allowed m event a m next
  wake_keeps id badge label next labelled edge wakes =
      let source = sound.of_table.labelled wakes.first (o.Tcb wakes.thread) wakes.there in
      let awaits =
      thread_edge t allowed m event a m sound wakes.first id wakes.thread authority.Await source.0 label wakes.there
      (ap (λ run. state_links run authority.Await id) wakes.waits ∙ itself id) source.1 labelled in
      subst (λ (after : Machine). Keeps t allowed m event a m after) (sym wakes.changes)
      (released_keeps t allowed m event a m held wakes.first wakes.thread (roused badge) wakes.there refl refl tt source.0 source.1
      (inl (λ awake.
      notifies label edge awaits
      (blocked_actor t allowed m m a awake awake.others sound.of_table wakes.first wakes.thread wakes.there
      (subst IsBlocked (sym wakes.waits) tt) source.0 source.1)))
      (λ awake.
      blocked_acts t allowed m wakes.first wakes.thread awake.others wakes.there (subst IsBlocked (sym wakes.waits) tt) source.0 source.1)
      (λ q to names. absurd (subst (λ (run : RunState). Names run q) wakes.waits names))
      (λ q to waits target.
      let at = subst (λ (run : RunState). WaitsAt run q) wakes.waits waits in
      inl
      (subst (Changes t allowed m a) (sym (at_reached t allowed m event a m sound id q label to labelled at target))
      (λ awake. modifies authority.Notify refl edge))))

  module _ (caller : ObjId) (address : ℕ) (labelled : label_of t m caller ≡ Some a) (next : Machine) where
    pub signal_keeps : SignalDone m caller address next → Keeps t allowed m event a m next
    signal_keeps done = by done.changes where
      open_to : IsOpen m caller address (λ end. can_write end.rights)
      open_to = done.open_to

      within : IsOpenTo open_to.id open_to.end
      within = open_within caller address (λ end. can_write end.rights) labelled open_to

      edge : allowed a authority.Notify within.label ≡ true
      edge = within.edge authority.Notify open_to.allowed refl

      by :
          Wakes m open_to.id open_to.end.badge next
          ⊎ (next ≡ with_object m open_to.id (o.Notification (marked open_to.notification open_to.end.badge)))
          → Keeps t allowed m event a m next
      by (inl wakes) = wake_keeps open_to.id open_to.end.badge within.label next within.labelled edge wakes
      by (inr joins) =
          subst (λ (after : Machine). Keeps t allowed m event a m after) (sym joins)
          (word_keeps open_to.id open_to.notification _ within.label open_to.there refl within.labelled (λ awake. modifies authority.Notify refl edge))

    -- the word of a notification is taken
    taken :
        (id : ObjId) (notification : Notification) (label : ℕ) → object_of m id ≡ Some (o.Notification notification)
        → label_of t m id ≡ Some label → allowed a authority.Await label ≡ true
        → next ≡ with_object m id (o.Notification (record notification { pending = None })) → Keeps t allowed m event a m next
    taken id notification label there at edge takes =
        subst (λ (after : Machine). Keeps t allowed m event a m after) (sym takes)
        (word_keeps id notification _ label there refl at (λ awake. modifies authority.Await refl edge))

    pub poll_keeps : PollDone m caller address next → Keeps t allowed m event a m next
    poll_keeps done =
        let open_to = done.open_to in
        let within = open_within caller address (λ end. can_read end.rights) labelled open_to in
        taken open_to.id open_to.notification within.label open_to.there within.labelled
        (within.edge authority.Await open_to.allowed refl) done.changes

    pub wait_keeps : IsCaller m caller → WaitDone m caller address next → Keeps t allowed m event a m next
    wait_keeps is done = by done.changes where
      open_to : IsOpen m caller address (λ end. can_read end.rights)
      open_to = done.open_to

      within : IsOpenTo open_to.id open_to.end
      within = open_within caller address (λ end. can_read end.rights) labelled open_to

      edge : allowed a authority.Await within.label ≡ true
      edge = within.edge authority.Await open_to.allowed refl

      apart : (thread : Tcb) → IsThread m caller thread → open_to.id ≢ caller
      apart thread there same = differ (sym open_to.there ∙ ap (object_of m) same ∙ there) where
        differ : ◌≡◌ {A = Option Object} (Some (o.Notification open_to.notification)) (Some (o.Tcb thread)) → ⊥
        differ e = cc

      links_within :
          (k : Kind) (end : ObjId) (to : ℕ) → state_links (state.Waiting open_to.id) k end ≡ true → label_of t m end ≡ Some to
          → allowed a k to ≡ true
      links_within authority.Await end to e target =
          let same = at_reached t allowed m event a m sound open_to.id end within.label to within.labelled (one_id open_to.id end e) target in
          ap (allowed a authority.Await) same ∙ edge
      links_within _ end to e target = cc

      by :
          (next ≡ with_object m open_to.id (o.Notification (record open_to.notification { pending = None })))
          ⊎ (next ≡ with_blocked m caller open_to.id (state.Waiting open_to.id)) → Keeps t allowed m event a m next
      by (inl takes) = taken open_to.id open_to.notification within.label open_to.there within.labelled edge takes
      by (inr blocks) =
          subst (λ (after : Machine). Keeps t allowed m event a m after) (sym blocks)
          (blocked_keeps t allowed m event a m held caller is.thread open_to.id (state.Waiting open_to.id)
          (o.Notification open_to.notification) is.there (caller_idle m caller is) refl labelled open_to.there
          (apart is.thread is.there) within.label within.labelled (λ awake. modifies authority.Await refl edge) links_within
          (λ receiving waits none. cc))
