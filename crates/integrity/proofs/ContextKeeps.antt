-- Configure, Bind and Unbind within a caller's authority: its label may use the scheduling context, a thread that comes to run on
-- it is one that the label controls, and one that runs on it no more only loses it.
use Rattle.std.proofs.Common.{ℕ, ◌∙◌, ◌≡◌, ◌≢◌, None, Option, Some, ap, inl, inr, refl, subst, sym, true}
use Rattle.{std.proofs.lemmas.Option.{none-some, same_Some}, base.specs.declared.{ids.ObjId.ObjId, kind.Kind.Kind as authority}}
use Rattle.machine.specs.declared.{call.Event.Event, cap.Detail.Detail as d, object.{Context.Context, Object.Object as o}, thread.Tcb.Tcb}
use Rattle.machine.specs.{Authority.{HasAuthority.by_link, label_of}, Capabilities.kind_of_detail, Layout.Layout}
use Rattle.machine.specs.{Machine.{Machine, object_of, with_object}, Releasing.with_unbound, Step.Bind.{thread_on, without_thread}}
use Rattle.machine.{specs.WellFormed.IsThread, proofs.{Ids.at_other, LookUps.object_of-with_object, RunsLinks.runs_bound}}
use Rattle.steps.proofs.{ContextRow.{BindDone, ConfigureDone, UnbindDone}, ContextsFormed.{bound_is, share_is, unbound_is}}
use Rattle.steps.proofs.{Finding.{FindsObject, found_kind}, FoundObjects.{context_of_kind, tcb_of_kind}}
use Rattle.policy.specs.Change.{MayChangeContext.{binds, configures as configures_it}, WayToChange.{modifies, shares}}
use Rattle.policy.specs.{Domain.EdgeTest, NarrowTake.WayToShrink.{stops as loses_context, unbinds}}
use Rattle.integrity.specs.{Acting.MayAct.started, Budgets.{MayConfigure, configures}, Invariant.{IsHeld, IsSound}, Keeping.IsSharp}
use Rattle.integrity.{specs.Shrinks.{Lessens.released, Stops.goes_on}, proofs.{Asleep.acts_of, Contents.{changed, context_fits}}}
use Rattle.integrity.proofs.{Contents.loses_links, ContextTouches.{context_changes, context_loses, linked_keeps, runs_on, thread_keeps}}
use Rattle.integrity.proofs.{Held.held_of, Keeps.{Keeps, Takes, unchanged}, MessageParts.{IsReached, reached, thread_label}}
use Rattle.integrity.proofs.{SetKeeps.set_keeps, SlotKeeps.IsOpened, ThreadKeeps.{may_control, to_thread}}

module _
    (t : Layout) (allowed : EdgeTest) (event : Event) (a : ℕ) (m : Machine) (sound : IsSound t allowed m)
    (closed : IsSharp t allowed) (caller : ObjId) (mine : label_of t m caller ≡ Some a) (next : Machine) where
  held : IsHeld t allowed m
  held = held_of t allowed m sound

  -- the context that is found
  module _ (address : ℕ) (id : ObjId) (finds : FindsObject m caller address id d.Context) where
    to_context : IsReached t allowed m event a m sound id d.Context
    to_context = reached t allowed m event a m sound closed.uses_rise caller address id d.Context mine finds

    may_use : allowed a authority.Context to_context.label ≡ true
    may_use = to_context.edge authority.Context refl refl

    context : (context : Context) × (object_of m id ≡ Some (o.Context context))
    context = context_of_kind (object_of m id) (found_kind sound.well_formed finds)

    -- it may get a thread that the label controls
    may_link : (thread : ℕ) → allowed a authority.Control thread ≡ true → IsOpened t allowed m m a id
    may_link thread controls = record {
      label = to_context.label;
      labelled = to_context.labelled;
      has = λ awake. shares (binds thread may_use controls);
    }

  -- a context is configured, if the event may do so
  pub configure_keeps :
      (control address budget period : ℕ) → (done : ConfigureDone m caller control address budget period next)
      → MayConfigure t allowed m event done.id → Keeps t allowed m event a m next
  configure_keeps control address budget period done may =
      let to = to_context address done.id done.finds in
      let old = context address done.id done.finds in
      let new : Context = record old.0 { share = Some done.share } in
      subst (λ (n : Machine). Keeps t allowed m event a m n) (sym (done.changes ∙ share_is m done.id old.0 done.share old.1))
      (set_keeps t allowed m event a m done.id held (o.Context old.0) (o.Context new)
      (context_fits t allowed m event a m done.id old.0 new old.1 refl (inr may))
      (changed t allowed m a m (with_object m done.id (o.Context new)) done.id to.label to.labelled
      (λ awake. shares (configures_it governs.label (may_use address done.id done.finds) (governs.edge authority.SchedControl refl refl)))))
    where
      governs : IsReached t allowed m event a m sound done.governs d.Control
      governs = reached t allowed m event a m sound closed.uses_rise caller control done.governs d.Control mine done.finds_control

  -- what a configure changes, whatever the event is
  module _ (control address budget period : ℕ) (done : ConfigureDone m caller control address budget period next) where
    abbrev configured : IsReached t allowed m event a m sound done.id d.Context
    configured = to_context address done.id done.finds

    set : Context
    set = record (context address done.id done.finds).0 { share = Some done.share }

    set_is : next ≡ with_object m done.id (o.Context set)
    unfolding set
    set_is =
        let old = context address done.id done.finds in
        done.changes ∙ share_is m done.id old.0 done.share old.1

    beside : (id : ObjId) → id ≢ done.id → object_of next id ≡ object_of m id
    beside id apart =
        ap (λ (n : Machine). object_of n id) set_is ∙ object_of-with_object m done.id (o.Context set) id
        ∙ at_other id done.id (Some (o.Context set)) (object_of m id) apart

  pub bind_keeps : (address thread_address : ℕ) → BindDone m caller address thread_address next → Keeps t allowed m event a m next
  bind_keeps address thread_address done =
      subst (λ (n : Machine). Keeps t allowed m event a m n)
      (sym (done.changes ∙ bound_is m done.id done.thread old.0 tcb.0 old.1 tcb.1))
      (linked_keeps t allowed m event a m held done.id done.thread old.0 tcb.0 (Some done.id) (Some done.thread) old.1 tcb.1
      (context_changes t allowed m event a m held done.id done.thread old.0 tcb.0 (Some done.id) _ old.1 tcb.1
      (may_link address done.id done.finds of_thread.label controls)) runs)
    where
      old : (context : Context) × (object_of m done.id ≡ Some (o.Context context))
      old = context address done.id done.finds

      tcb : (tcb : Tcb) × IsThread m done.thread tcb
      tcb = tcb_of_kind (object_of m done.thread) (found_kind sound.well_formed done.finds_thread)

      of_context : IsReached t allowed m event a m sound done.id d.Context
      of_context = to_context address done.id done.finds

      of_thread : IsReached t allowed m event a m sound done.thread d.Tcb
      of_thread =
          to_thread t allowed event a m sound closed caller mine next thread_address done.thread done.finds_thread

      controls : allowed a authority.Control of_thread.label ≡ true
      controls =
          may_control t allowed event a m sound closed caller mine next thread_address done.thread done.finds_thread

      -- the thread's label may run on what the caller may bind it to
      may_run : allowed of_thread.label authority.Runs of_context.label ≡ true
      may_run =
          closed.bound_run a of_thread.label of_context.label (may_use address done.id done.finds) controls

      runs : Keeps t allowed m event a m (with_object m done.thread (o.Tcb (runs_on tcb.0 (Some done.id))))
      runs =
          thread_keeps t allowed m event a m held done.thread tcb.0 (Some done.id) tcb.1
          (λ end bound.
          inr (λ from to source target.
          let from_is : from ≡ of_thread.label = same_Some from of_thread.label (sym source ∙ of_thread.labelled) in
          let to_is : to ≡ of_context.label =
          same_Some to of_context.label
          (sym target ∙ ap (label_of t m) (sym (same_Some done.id end bound)) ∙ of_context.labelled) in
          ap (λ l. allowed l authority.Runs to) from_is ∙ ap (allowed of_thread.label authority.Runs) to_is ∙ may_run))
          (inr (λ awake.
          acts_of t allowed m done.thread of_thread.label of_thread.labelled (started awake.acting controls)))
          (λ receiving waits none label labelled. absurd (none-some done.id (sym none)))
          (changed t allowed m a m (with_object m done.thread (o.Tcb (runs_on tcb.0 (Some done.id)))) done.thread of_thread.label
          of_thread.labelled (λ awake. modifies authority.Control refl controls))

  -- a thread runs on the context no more
  module _ (address : ℕ) (id : ObjId) (finds : FindsObject m caller address id d.Context) (thread : ObjId) (tcb : Tcb)
      (there : IsThread m thread tcb) (on : tcb.context ≡ Some id) where
    abbrev used : IsReached t allowed m event a m sound id d.Context
    used = to_context address id finds

    left : (label : ℕ) × (label_of t m thread ≡ Some label)
    left = thread_label t allowed m event a m sound thread tcb there

    ran : allowed left.0 authority.Runs used.label ≡ true
    ran =
        sound.confined left.0 authority.Runs used.label
        (by_link thread id (o.Tcb tcb) there (runs_bound tcb id on) left.1 used.labelled)

    may_lose : Takes t allowed m a left.0
    may_lose awake = loses_context used.label (may_use address id finds) ran

    stops : Keeps t allowed m event a m (with_object m thread (o.Tcb (runs_on tcb None)))
    stops =
        let queue = sound.well_formed.parts.queue thread (o.Tcb tcb) there in
        thread_keeps t allowed m event a m held thread tcb None there (λ end bound. absurd (none-some end bound)) (inl refl)
        (λ receiving waits none label labelled. record {
          context = used.label;
          runs = ap (λ l. allowed l authority.Runs used.label) (same_Some label left.0 (sym labelled ∙ left.1)) ∙ ran;
          owner = a;
          owns = may_use address id finds;
        })
        (loses_links t allowed m a m thread left.0 (o.Tcb tcb) (o.Tcb (runs_on tcb None)) left.1 may_lose there
        (released tcb (runs_on tcb None) refl refl refl (goes_on refl refl) (inr refl)) queue.0 queue.1)

    unbound_keeps : Keeps t allowed m event a m (with_unbound m thread)
    unbound_keeps =
        let old = context address id finds in
        let queue = sound.well_formed.parts.queue id (o.Context old.0) old.1 in
        subst (λ (n : Machine). Keeps t allowed m event a m n) (sym (unbound_is m id thread old.0 tcb old.1 there on))
        (linked_keeps t allowed m event a m held id thread old.0 tcb None None old.1 there
        (context_loses t allowed m event a m held id thread old.0 tcb None used.label old.1 there used.labelled
        (λ awake. unbinds (may_use address id finds)) queue.0 queue.1) stops)

  pub unbind_keeps : (address : ℕ) → UnbindDone m caller address next → Keeps t allowed m event a m next
  unbind_keeps address done =
      subst (λ (n : Machine). Keeps t allowed m event a m n)
      (sym (done.changes ∙ ap (λ object. without_thread m (thread_on object)) old.1)) (by_thread old.0.thread refl)
    where
      old : (context : Context) × (object_of m done.id ≡ Some (o.Context context))
      old = context address done.id done.finds

      by_thread : (thread : Option ObjId) → old.0.thread ≡ thread → Keeps t allowed m event a m (without_thread m thread)
      by_thread None is = unchanged t allowed m event a m held
      by_thread (Some thread) is =
          let w = sound.well_formed.links.context_thread done.id thread old.0 old.1 is in
          unbound_keeps address done.id done.finds thread w.0 w.1 w.2

-- the caller of a configure may configure the context: its label has the edges that this takes
pub may_configure :
    (t : Layout) (allowed : EdgeTest) (event : Event) (a : ℕ) (m : Machine) → IsSound t allowed m → IsSharp t allowed
    → label_of t m event.thread ≡ Some a
    → (control address : ℕ) → configures event.call ≡ Some (control, address)
    → (governs id : ObjId) → FindsObject m event.thread control governs d.Control → FindsObject m event.thread address id d.Context
    → MayConfigure t allowed m event id
may_configure t allowed event a m sound closed mine control address configured governs id found finds =
    let to_control = reached t allowed m event a m sound closed.uses_rise event.thread control governs d.Control mine found in
    let to = reached t allowed m event a m sound closed.uses_rise event.thread address id d.Context mine finds in
    record {
      addresses = (control, address);
      configured = configured;
      control = governs;
      finds_control = record {
        slot = found.slot;
        left = found.finds.left;
        held = found.held;
        found = found.finds.ends;
        filled = found.finds.holds;
        is_of = ap kind_of_detail found.detail;
        is_for = found.object;
      };
      finds_context = record {
        slot = finds.slot;
        left = finds.finds.left;
        held = finds.held;
        found = finds.finds.ends;
        filled = finds.finds.holds;
        is_of = ap kind_of_detail finds.detail;
        is_for = finds.object;
      };
      caller_label = a;
      control_label = to_control.label;
      context_label = to.label;
      calls = mine;
      controls = to_control.labelled;
      labelled = to.labelled;
      may_schedule = to_control.edge authority.SchedControl refl refl;
      may_use = to.edge authority.Context refl refl;
    }
