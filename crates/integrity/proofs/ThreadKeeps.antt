-- Suspend and Resume within a caller's authority: its label controls the thread, and so may use what the thread waits at and the reply
-- that it waits with; a reply that holds it since it called only loses it.
use Rattle.std.proofs.Common.{ℕ, ◌∙◌, ◌≡◌, ◌⊎◌, Some, ap, false, inl, inr, refl, subst, sym, true}
use Rattle.base.specs.{declared.{ids.ObjId.ObjId, kind.Kind.{Kind, Kind as authority}}, Kinds.is_structural}
use Rattle.machine.specs.declared.{call.Event.Event, cap.Detail.Detail as d, object.{Object.Object as o, Reply.Reply}}
use Rattle.machine.specs.{declared.thread.{RunState.RunState, Tcb.Tcb}, Authority.{label_of, names_object, state_links}}
use Rattle.machine.specs.{Finalising.aborted, Layout.Layout, Machine.{Machine, object_of, same_id}}
use Rattle.machine.specs.{Releasing.{ready, suspended, with_aborted, with_ready, with_released}, Step.Suspend.with_resumed}
use Rattle.machine.{specs.WellFormed.{IsCallingThrough, IsIdle, IsThread, WaitsAt}, proofs.{Ids.itself, Leaving.Names}}
use Rattle.steps.proofs.{Finding.{FindsObject, found_kind}, FoundObjects.tcb_of_kind, ThreadRow.{ResumeDone, SuspendDone}}
use Rattle.policy.specs.{Change.WayToChange.modifies, Domain.EdgeTest, NarrowTake.{TakesByControl.releases, WayToShrink.controls}}
use Rattle.integrity.specs.{Acting.MayAct.started, Invariant.IsSound, Keeping.IsSharp}
use Rattle.integrity.proofs.{Awake.blocked_actor, Held.held_of, Keeps.{Changes, Keeps, Takes, unchanged}, MessageParts.IsReached}
use Rattle.integrity.proofs.{MessageParts.{holds_edge, names_blocked, reached, thread_edge}, MessageTouches.{MayLessen, released_keeps}}
use Rattle.machine.specs.declared.object.ReplyState.TheVariants as reply
use Rattle.machine.specs.declared.thread.RunState.TheVariants as state

-- a resumed thread is as it was, or can run, or is aborted
data Resumes (m : Machine) (thread : ObjId) (next : Machine) : Type 0 where
  goes_on : next ≡ m → Resumes m thread next
  can_run : next ≡ with_ready m thread → Resumes m thread next
  is_aborted : next ≡ with_aborted m thread → Resumes m thread next

resumes : (m : Machine) (thread : ObjId) (tcb : Tcb) → IsThread m thread tcb → Resumes m thread (with_resumed m thread)
unfolding with_resumed
resumes m thread tcb there = by_state tcb.state refl where
  by_state : (run : RunState) → tcb.state ≡ run → Resumes m thread (with_resumed m thread)
  by_state state.Ready is = goes_on (rw there (rw is refl))
  by_state state.Inactive is = can_run (rw there (rw is refl))
  by_state (state.Sending sending) is = is_aborted (rw there (rw is refl))
  by_state (state.Receiving receiving) is = is_aborted (rw there (rw is refl))
  by_state (state.Waiting notification) is = is_aborted (rw there (rw is refl))
  by_state (state.Called calling) is = is_aborted (rw there (rw is refl))

module _
    (t : Layout) (allowed : EdgeTest) (event : Event) (a : ℕ) (m : Machine) (sound : IsSound t allowed m)
    (closed : IsSharp t allowed) (caller : ObjId) (mine : label_of t m caller ≡ Some a) (next : Machine) (address : ℕ) where
  module _ (thread : ObjId) (finds : FindsObject m caller address thread d.Tcb) where
    pub to_thread : IsReached t allowed m event a m sound thread d.Tcb
    to_thread = reached t allowed m event a m sound closed.uses_rise caller address thread d.Tcb mine finds

    pub may_control : allowed a authority.Control to_thread.label ≡ true
    may_control = to_thread.edge authority.Control refl refl

    -- the caller's label may use what the thread's label may use
    agrees :
        (k : Kind) (to : ℕ) → is_structural k ≡ false → allowed to_thread.label k to ≡ true → allowed a k to ≡ true
    agrees k to of_use edge =
        closed.uses_rise a to_thread.label k (record { domain = inr may_control; of_use = of_use }) to edge

    module _ (tcb : Tcb) (there : IsThread m thread tcb) where
      -- the caller's label may use the reply that it waits with, and a reply that it called through only loses it
      names_loses : (id : ObjId) (to : ℕ) → Names tcb.state id → label_of t m id ≡ Some to → MayLessen t allowed m a m id to
      names_loses id to names target = by_run tcb.state refl names where
        by_run : (run : RunState) → tcb.state ≡ run → Names run id → MayLessen t allowed m a m id to
        by_run (state.Receiving receiving) is named =
            let edge =
            thread_edge t allowed m event a m sound thread id tcb authority.Reply to_thread.label to there
            (ap (λ run. state_links run authority.Reply id) is ∙ ap (λ n. names_object n id) named ∙ itself id)
            to_thread.labelled target in
            inl (λ awake. modifies authority.Reply refl (agrees authority.Reply to refl edge))
        by_run (state.Called calling) is named =
            let w =
            sound.well_formed.links.called_reply thread id tcb there
            (subst (λ run. IsCallingThrough run id) (sym is) named) in
            let answers : Reply = record { address = w.0; state = reply.Called thread } in
            let holds = holds_edge t allowed m event a m sound id thread answers to to_thread.label w.1 (itself thread) target to_thread.labelled in
            let queue = sound.well_formed.parts.queue id (o.Reply answers) w.1 in
            inr (
              λ awake.
                  controls (releases to_thread.label may_control
                  (blocked_actor t allowed m m a awake awake.others sound.of_table thread tcb there
                  (names_blocked tcb.state id names) to_thread.label to_thread.labelled)
                  holds),
              queue.0,
              queue.1,
            )
        by_run _ is named = absurd named

      -- the caller's label may wait or send where the thread waits
      waits_loses :
          (id : ObjId) (to : ℕ) → WaitsAt tcb.state id → label_of t m id ≡ Some to
          → Changes t allowed m a to ⊎ Takes t allowed m a to
      waits_loses id to waits target = by_run tcb.state refl waits where
        by_run : (run : RunState) → tcb.state ≡ run → WaitsAt run id → Changes t allowed m a to ⊎ Takes t allowed m a to
        by_run (state.Sending sending) is at =
            let edge =
            thread_edge t allowed m event a m sound thread id tcb authority.Send to_thread.label to there
            (ap (λ run. state_links run authority.Send id) is ∙ ap (λ (i : ObjId). same_id i id) at ∙ itself id)
            to_thread.labelled target in
            inl (λ awake. modifies authority.Send refl (agrees authority.Send to refl edge))
        by_run (state.Receiving receiving) is at =
            let edge =
            thread_edge t allowed m event a m sound thread id tcb authority.Receive to_thread.label to there
            (ap (λ run. state_links run authority.Receive id) is ∙ ap (λ (i : ObjId). same_id i id) at ∙ itself id)
            to_thread.labelled target in
            inl (λ awake. modifies authority.Receive refl (agrees authority.Receive to refl edge))
        by_run (state.Waiting notification) is at =
            let edge =
            thread_edge t allowed m event a m sound thread id tcb authority.Await to_thread.label to there
            (ap (λ run. state_links run authority.Await id) is ∙ ap (λ (i : ObjId). same_id i id) at ∙ itself id)
            to_thread.labelled target in
            inl (λ awake. modifies authority.Await refl (agrees authority.Await to refl edge))
        by_run _ is at = absurd at

      release_keeps :
          (change : Tcb → Tcb) → (change tcb).address ≡ tcb.address → (change tcb).context ≡ tcb.context
          → IsIdle (change tcb).state → Keeps t allowed m event a m (with_released m thread change)
      release_keeps change address context idle =
          released_keeps t allowed m event a m (held_of t allowed m sound) thread tcb change there address context idle
          to_thread.label to_thread.labelled (inl (λ awake. modifies authority.Control refl may_control))
          (λ awake. started awake.acting may_control)
          names_loses waits_loses

  pub suspend_keeps : SuspendDone m caller address next → Keeps t allowed m event a m next
  suspend_keeps done =
      let tcb = tcb_of_kind (object_of m done.thread) (found_kind sound.well_formed done.finds) in
      subst (λ (n : Machine). Keeps t allowed m event a m n) (sym done.changes)
      (release_keeps done.thread done.finds tcb.0 tcb.1 suspended refl refl tt)

  pub resume_keeps : ResumeDone m caller address next → Keeps t allowed m event a m next
  resume_keeps done =
      subst (λ (n : Machine). Keeps t allowed m event a m n) (sym done.changes)
      (by_resumed (with_resumed m done.thread) (resumes m done.thread tcb.0 tcb.1))
    where
      tcb : (tcb : Tcb) × IsThread m done.thread tcb
      tcb = tcb_of_kind (object_of m done.thread) (found_kind sound.well_formed done.finds)

      by_resumed : (after : Machine) → Resumes m done.thread after → Keeps t allowed m event a m after
      by_resumed after (goes_on same) =
          subst (λ (n : Machine). Keeps t allowed m event a m n) (sym same)
          (unchanged t allowed m event a m (held_of t allowed m sound))
      by_resumed after (can_run same) =
          subst (λ (n : Machine). Keeps t allowed m event a m n) (sym same)
          (release_keeps done.thread done.finds tcb.0 tcb.1 ready refl refl tt)
      by_resumed after (is_aborted same) =
          subst (λ (n : Machine). Keeps t allowed m event a m n) (sym same)
          (release_keeps done.thread done.finds tcb.0 tcb.1 aborted refl refl tt)
