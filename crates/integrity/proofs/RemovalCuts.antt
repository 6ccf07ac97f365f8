-- Objects that a removal changes are of labels that the remover may change or make smaller: what vanished, what was linked with it, the
-- queues and replies that aborted or halted threads leave, and the objects of the chosen slots.
use Rattle.std.specs.Prelude.{◌&&◌, ◌||◌, Contains, None, Option, Some, filter, is_some, option_map}
use Rattle.std.proofs.Common.{[], ℕ, ◌<◌, ◌∙◌, ◌∷◌, ◌≡◌, ◌≢◌, ◌⊎◌, Bool, List, ap, arith, cond, false, inl, inr, not, refl}
use Rattle.std.proofs.{Common.{subst, suc, sym, true, zero}, lemmas.{Bool.{cases_order, false≢true}, Option.same_Some}}
use Rattle.base.specs.{declared.{ids.{ObjId.ObjId, SlotRef.SlotRef}, kind.Kind.{Kind, Kind as authority}}, Kinds.is_structural}
use Rattle.machine.specs.declared.{cap.Cap.Cap, object.{Context.Context, Object.{Object, Object as o}}}
use Rattle.machine.specs.declared.object.{ObjectKind.{ObjectKind, ObjectKind as kind}, Reply.Reply, ReplyState.ReplyState}
use Rattle.machine.specs.{declared.thread.{RunState.RunState, Tcb.Tcb}, Authority.{HasAuthority.by_link, holds_thread, label_of}}
use Rattle.machine.specs.{Authority.{links, names_object, state_links}, Finalising.{aborted, finalised, halted, is_aborted}}
use Rattle.machine.specs.Finalising.{is_halted, is_released, leads_nowhere, leaves, reply_after, staying_in, tcb_after, unbound}
use Rattle.machine.specs.{Gone.{IsGone, given, gone_of, with_last}, Layout.Layout, Machine.{Machine, cap_of, object_of, queue_of, same_id}}
use Rattle.machine.specs.{Objects.{kind_of_object, slot_count}, Removal.{removed, vanishes}, WellFormed.{IsCallingThrough, IsReceivingWith}}
use Rattle.machine.{specs.WellFormed.{IsThread, WaitsAt, WaitsAtKind, kind_of}, proofs.GoneLemmas.{gone_decided, id_itself, losing_decided}}
use Rattle.machine.proofs.{Queues.{first_in, other_in}, RemovalLooks.cap_of-removed, RemovalTable.finalised_there, RoundLemmas.both_pass}
use Rattle.{machine.proofs.RunsLinks.runs_bound, steps.proofs.{LeavingLinks.queue_now, RemovalLinks.{have_left, leavers}}}
use Rattle.policy.specs.{Change.{WayToChange.{modifies, replies}, is_changing}, Domain.EdgeTest, NarrowTake.TakesByControl.drops}
use Rattle.policy.specs.NarrowTake.{TakesByControl.{releases, removes, wakes}, WayToShrink.{controls, ends, halts, stops}, is_waiting}
use Rattle.integrity.specs.{Awake.IsAwake, Invariant.IsSound, Keeping.IsSharp, Removals.{MayGo, MayRemove, use_of}}
use Rattle.integrity.{specs.Shrinks.{IsBlocked, IsSame}, proofs.{Awake.blocked_actor, Cascade.{IsInReach, WayToAlter, reached_alters}}}
use Rattle.integrity.proofs.{Cascade.{reached_used, rises, vanished_reached, vanished_used}, RemovalShrinks.{absent_stays, words_stay}}
use Rattle.machine.specs.declared.object.ReplyState.TheVariants as reply
use Rattle.machine.specs.declared.thread.RunState.TheVariants as state

-- a thread that waits at an object is linked with it
record IsWaitLink (tcb : Tcb) (end : ObjId) : Type 0 where
  kind : Kind
  waiting : is_waiting kind ≡ true
  changing : is_changing kind ≡ true
  of_use : is_structural kind ≡ false
  linked : links (o.Tcb tcb) kind end ≡ true

wait_link : (tcb : Tcb) (run : RunState) (end : ObjId) → tcb.state ≡ run → WaitsAt run end → IsWaitLink tcb end
wait_link tcb (state.Sending sending) end is at = record {
  kind = authority.Send;
  waiting = refl;
  changing = refl;
  of_use = refl;
  linked = ap (λ s. state_links s authority.Send end) is ∙ ap (λ i. same_id i end) at ∙ id_itself end;
}
wait_link tcb (state.Receiving receiving) end is at = record {
  kind = authority.Receive;
  waiting = refl;
  changing = refl;
  of_use = refl;
  linked = ap (λ s. state_links s authority.Receive end) is ∙ ap (λ i. same_id i end) at ∙ id_itself end;
}
wait_link tcb (state.Waiting notification) end is at = record {
  kind = authority.Await;
  waiting = refl;
  changing = refl;
  of_use = refl;
  linked = ap (λ s. state_links s authority.Await end) is ∙ ap (λ i. same_id i end) at ∙ id_itself end;
}
wait_link tcb _ end is at = absurd at

-- a thread that waits at an object is blocked
waits_blocked : (run : RunState) (end : ObjId) → WaitsAt run end → IsBlocked run
waits_blocked (state.Sending sending) end at = tt
waits_blocked (state.Receiving receiving) end at = tt
waits_blocked (state.Waiting notification) end at = tt
waits_blocked _ end at = absurd at

-- it waits at an endpoint or a notification, which each capability for it may reset
waits_reset : (run : RunState) (k : ObjectKind) → WaitsAtKind run k → (use_of k ≡ authority.Reset) × (k ≢ kind.CNode)
waits_reset (state.Sending sending) kind.Endpoint at = (refl, λ e. cc)
waits_reset (state.Receiving receiving) kind.Endpoint at = (refl, λ e. cc)
waits_reset (state.Waiting notification) kind.Notification at = (refl, λ e. cc)
waits_reset _ _ at = absurd at

-- an aborted thread waited at what vanished
aborted_end :
    (vanished : ObjId → Bool) (run : RunState) → is_aborted vanished run ≡ true
    → (end : ObjId) × WaitsAt run end × (vanished end ≡ true)
aborted_end vanished (state.Sending sending) gone = (sending.endpoint, refl, gone)
aborted_end vanished (state.Receiving receiving) gone = (receiving.endpoint, refl, gone)
aborted_end vanished (state.Waiting notification) gone = (notification, refl, gone)
aborted_end vanished _ gone = absurd (false≢true gone)

aborted_there :
    (vanished : ObjId → Bool) (run : RunState) (end : ObjId) → WaitsAt run end → is_aborted vanished run ≡ true → vanished end ≡ true
aborted_there vanished (state.Sending sending) end at gone = ap vanished (sym at) ∙ gone
aborted_there vanished (state.Receiving receiving) end at gone = ap vanished (sym at) ∙ gone
aborted_there vanished (state.Waiting notification) end at gone = ap vanished (sym at) ∙ gone
aborted_there vanished _ end at gone = absurd at

-- a link that leads nowhere led to what vanished
lost_link :
    (vanished : ObjId → Bool) (link : Option ObjId) → leads_nowhere vanished link ≡ true
    → (end : ObjId) × (link ≡ Some end) × (vanished end ≡ true)
lost_link vanished None gone = absurd (false≢true gone)
lost_link vanished (Some end) gone = (end, refl, gone)

-- a thread that waits with a reply, or called through it, is blocked, and is linked with it

names_link :
    (tcb : Tcb) (run : RunState) (id : ObjId) → tcb.state ≡ run → IsReceivingWith run id
    → links (o.Tcb tcb) authority.Reply id ≡ true
names_link tcb (state.Receiving receiving) id is at =
    ap (λ s. state_links s authority.Reply id) is ∙ ap (λ link. names_object link id) at ∙ id_itself id
names_link tcb _ id is at = absurd at

names_blocked : (run : RunState) (id : ObjId) → IsReceivingWith run id → IsBlocked run
names_blocked (state.Receiving receiving) id at = tt
names_blocked _ id at = absurd at

called_blocked : (run : RunState) (id : ObjId) → IsCallingThrough run id → IsBlocked run
called_blocked (state.Called calling) id at = tt
called_blocked _ id at = absurd at

-- the reply of a halted thread vanished

names_halted :
    (vanished : ObjId → Bool) (run : RunState) (id : ObjId) → IsReceivingWith run id → is_halted vanished run ≡ true → vanished id ≡ true
names_halted vanished (state.Receiving receiving) id at gone = sym (ap (leads_nowhere vanished) at) ∙ gone
names_halted vanished _ id at gone = absurd at

called_halted :
    (vanished : ObjId → Bool) (run : RunState) (id : ObjId) → IsCallingThrough run id
    → (is_halted vanished run || is_aborted vanished run) ≡ true → vanished id ≡ true
called_halted vanished (state.Called calling) id at gone = by_halt (vanished calling.reply) refl gone where
  by_halt : (b : Bool) → vanished calling.reply ≡ b → (b || false) ≡ true → vanished id ≡ true
  by_halt true is gone = ap vanished (sym at) ∙ is
  by_halt false is gone = absurd (false≢true gone)
called_halted vanished _ id at gone = absurd at

-- a thread that waits with a reply receives where it waits
receives_link :
    (tcb : Tcb) (run : RunState) (id end : ObjId) → tcb.state ≡ run → IsReceivingWith run id → WaitsAt run end
    → links (o.Tcb tcb) authority.Receive end ≡ true
receives_link tcb (state.Receiving receiving) id end is named at =
    ap (λ s. state_links s authority.Receive end) is ∙ ap (λ i. same_id i end) at ∙ id_itself end
receives_link tcb _ id end is named at = absurd named

-- a queue that nobody leaves stays as it is
all_stay :
    (leaving : ObjId → Bool) (threads : List ObjId)
    → (filter (λ thread. not (leaving thread)) threads ≡ threads) ⊎ ((thread : ObjId) × Contains threads thread × (leaving thread ≡ true))
all_stay leaving [] = inl refl
all_stay leaving (x ∷ threads) = by_first (leaving x) refl (all_stay leaving threads) where
  by_first :
      (b : Bool) → leaving x ≡ b
      → (filter (λ thread. not (leaving thread)) threads ≡ threads) ⊎ ((thread : ObjId) × Contains threads thread × (leaving thread ≡ true))
      → (cond (not b) (x ∷ filter (λ thread. not (leaving thread)) threads) (filter (λ thread. not (leaving thread)) threads) ≡ x ∷ threads)
      ⊎ ((thread : ObjId) × Contains (x ∷ threads) thread × (leaving thread ≡ true))
  by_first true is rest = inr (x, first_in x threads, is)
  by_first false is (inl same) = inl (ap (λ xs. x ∷ xs) same)
  by_first false is (inr found) = inr (found.0, other_in x threads found.0 found.1, found.2)

-- some number below a bound passes a test, or none does
any_below : (test : ℕ → Bool) (n : ℕ) → ((i : ℕ) × (test i ≡ true)) ⊎ ((i : ℕ) → i < n → test i ≡ false)
any_below test zero = inr (λ i less. absurd (omega (arith, less)))
any_below test (suc n) = by_last (test n) refl (any_below test n) where
  by_last :
      (b : Bool) → test n ≡ b → ((i : ℕ) × (test i ≡ true)) ⊎ ((i : ℕ) → i < n → test i ≡ false)
      → ((i : ℕ) × (test i ≡ true)) ⊎ ((i : ℕ) → i < suc n → test i ≡ false)
  by_last true is rest = inl (n, is)
  by_last false is (inl found) = inl found
  by_last false isnt (inr none) = inr (λ i less. at i less (cases_order i n)) where
    at : (i : ℕ) → i < suc n → (i ≡ n) ⊎ ((i < n) ⊎ (n < i)) → test i ≡ false
    at i less (inl same) = ap test same ∙ isnt
    at i less (inr (inl below)) = none i below
    at i less (inr (inr above)) = absurd (omega (arith, less, above))

module _
    (t : Layout) (allowed : EdgeTest) (a : ℕ) (m : Machine) (chosen : SlotRef → Bool) (awake : IsAwake t allowed m a)
    (sound : IsSound t allowed m) (closed : IsSharp t allowed) (may : MayRemove t allowed a m chosen) where
  abbrev after : Machine
  after = removed m chosen

  abbrev vanished : ObjId → Bool
  vanished = vanishes m chosen

  abbrev Alters : ℕ → Type 0
  Alters label = WayToAlter allowed awake.acts a label

  gone_reached : (id : ObjId) → vanished id ≡ true → IsInReach t allowed a m id
  gone_reached = vanished_reached t allowed a m chosen sound closed may

  -- what vanished may be altered
  gone_alters : (id : ObjId) (label : ℕ) → vanished id ≡ true → label_of t m id ≡ Some label → Alters label
  gone_alters id label gone labelled =
      let at = gone_reached id gone in
      subst Alters (same_Some at.label label (sym at.labelled ∙ labelled))
      (reached_alters t allowed a m chosen sound closed may awake.acts id at)

  used :
      (id : ObjId) (object : Object) (label : ℕ) → object_of m id ≡ Some object → kind_of_object object ≢ kind.CNode
      → vanished id ≡ true → label_of t m id ≡ Some label → allowed a (use_of (kind_of_object object)) label ≡ true
  used id object label at other gone labelled =
      vanished_used t allowed a m chosen sound closed may id (kind_of_object object) label
      (ap (option_map kind_of_object) at) other gone labelled

  link_edge :
      (id end : ObjId) (object : Object) (k : Kind) (from to : ℕ) → object_of m id ≡ Some object → links object k end ≡ true
      → label_of t m id ≡ Some from → label_of t m end ≡ Some to → allowed from k to ≡ true
  link_edge id end object k from to at has source target = sound.confined from k to (by_link id end object at has source target)

  -- a may do what a label that it controls may do
  may_too :
      (b : ℕ) (k : Kind) (to : ℕ) → allowed a authority.Control b ≡ true → is_structural k ≡ false → allowed b k to ≡ true
      → allowed a k to ≡ true
  may_too b k to control plain has = rises allowed closed.uses_rise a b control k plain to has

  -- what is waited at and vanished: a label that is controlled may reset it
  record IsReset (label : ℕ) : Type 0 where
    controlled : ℕ
    control : allowed a authority.Control controlled ≡ true
    reset : allowed controlled authority.Reset label ≡ true

  resets :
      (id : ObjId) (k : ObjectKind) (label : ℕ) → kind_of m id ≡ Some k → use_of k ≡ authority.Reset → k ≢ kind.CNode
      → vanished id ≡ true → label_of t m id ≡ Some label → IsReset label
  resets id k label is resetting other gone labelled =
      let at = gone_reached id gone in
      record {
        controlled = at.controlled;
        control = at.control;
        reset =
            ap (λ use_kind. allowed at.controlled use_kind label) (sym resetting)
            ∙ reached_used t allowed a m chosen sound closed may id k label is other at labelled;
      }

  module _ (thread : ObjId) (tcb : Tcb) (label : ℕ) (at : IsThread m thread tcb) (labelled : label_of t m thread ≡ Some label) where
    -- a blocked thread is of a label that acts
    waits : IsBlocked tcb.state → awake.acts label ≡ true
    waits blocked = blocked_actor t allowed m m a awake awake.others sound.of_table thread tcb at blocked label labelled

    -- the thread's reply waits with it
    halted_receiver : (id : ObjId) → IsReceivingWith tcb.state id → vanished id ≡ true → Alters label
    halted_receiver id named gone =
        let answers = sound.well_formed.links.receiver_reply thread id tcb at named in
        let of = sound.of_table.labelled id _ answers.1 in
        inr (halts (record {
          reply = of.0;
          uses = used id _ of.0 answers.1 (λ e. cc) gone of.1;
          held = record {
            holds = link_edge id thread _ authority.Holds of.0 label answers.1 (id_itself thread) of.1 labelled;
            names = link_edge thread id (o.Tcb tcb) authority.Reply label of.0 at (names_link tcb tcb.state id refl named) labelled of.1;
            waits = waits (names_blocked tcb.state id named);
          };
        }))

    -- the thread called through a reply
    halted_caller : (id : ObjId) → IsCallingThrough tcb.state id → vanished id ≡ true → Alters label
    halted_caller id called gone =
        let answers = sound.well_formed.links.called_reply thread id tcb at called in
        let of = sound.of_table.labelled id _ answers.1 in
        let served = (awake.served id _ answers.1 thread refl).1 of.0 label of.1 labelled in
        inl (replies (record {
          reply = of.0;
          uses = used id _ of.0 answers.1 (λ e. cc) gone of.1;
          called = record {
            holds = link_edge id thread _ authority.Holds of.0 label answers.1 (id_itself thread) of.1 labelled;
            server = served.server;
            names = served.names;
            serves = awake.actors served.server served.serves served.threads;
            endpoint = served.endpoint;
            receives = served.receives;
            calls = served.calls;
            waits = waits (called_blocked tcb.state id called);
          };
        }))

    halted_alters : (run : RunState) → tcb.state ≡ run → is_halted vanished run ≡ true → Alters label
    halted_alters (state.Receiving receiving) is gone =
        let lost = lost_link vanished receiving.reply gone in
        halted_receiver lost.0 (subst (λ (s : RunState). IsReceivingWith s lost.0) (sym is) lost.1) lost.2
    halted_alters (state.Called calling) is gone =
        halted_caller calling.reply (subst (λ (s : RunState). IsCallingThrough s calling.reply) (sym is) refl) gone
    halted_alters _ is gone = absurd (false≢true gone)

    -- the thread waits at an object
    record IsWaiting (end : ObjId) : Type 0 where
      end_label : ℕ
      end_labelled : label_of t m end ≡ Some end_label
      resets : IsReset end_label

    aborts : (end : ObjId) → WaitsAt tcb.state end → vanished end ≡ true → IsWaiting end
    aborts end waiting gone =
        let queue = sound.well_formed.links.waiting thread end tcb at waiting in
        let its = sound.well_formed.links.queued end queue.0 thread queue.1 queue.2 in
        let resetting = waits_reset its.0.state its.1 its.5 in
        let reached = gone_reached end gone in
        record {
          end_label = reached.label;
          end_labelled = reached.labelled;
          resets = resets end its.1 reached.label its.4 resetting.0 resetting.1 gone reached.labelled;
        }

    aborted_alters : is_aborted vanished tcb.state ≡ true → Alters label
    aborted_alters gone =
        let end = aborted_end vanished tcb.state gone in
        let its = aborts end.0 end.1 end.2 in
        let link = wait_link tcb tcb.state end.0 refl end.1 in
        inr (controls
        (wakes its.resets.controlled its.end_label link.kind link.waiting its.resets.control its.resets.reset
        (link_edge thread end.0 (o.Tcb tcb) link.kind label its.end_label at link.linked labelled its.end_labelled)
        (waits (waits_blocked tcb.state end.0 end.1))))

    -- the thread leaves: it vanishes, and its label is controlled, or it is halted, or aborted
    leaving :
        {X : Type 0} → leaves m vanished thread ≡ true → (allowed a authority.Control label ≡ true → X)
        → ((is_halted vanished tcb.state || is_aborted vanished tcb.state) ≡ true → X) → X
    leaving {X = X} left gone released = by_vanished (vanished thread) refl left where
      by_vanished : (b : Bool) → vanished thread ≡ b → (b || is_released vanished (object_of m thread)) ≡ true → X
      by_vanished true is e = gone (used thread (o.Tcb tcb) label at (λ e. cc) is labelled)
      by_vanished false is e = released (sym (ap (is_released vanished) at) ∙ e)

    released_by :
        {X : Type 0} → (is_halted vanished tcb.state || is_aborted vanished tcb.state) ≡ true
        → (is_halted vanished tcb.state ≡ true → X) → (is_aborted vanished tcb.state ≡ true → X) → X
    released_by {X = X} is one other = by_halt (is_halted vanished tcb.state) refl is where
      by_halt : (b : Bool) → is_halted vanished tcb.state ≡ b → (b || is_aborted vanished tcb.state) ≡ true → X
      by_halt true stopped e = one stopped
      by_halt false isnt e = other e

    -- the reply that waits with a thread that leaves
    waiting_alters :
        (id : ObjId) (to : ℕ) → label_of t m id ≡ Some to → IsReceivingWith tcb.state id → leaves m vanished thread ≡ true → Alters to
    waiting_alters id to target named left =
        leaving left (λ control. inl (modifies authority.Reply refl (may_too label authority.Reply to control refl names)))
        (λ released.
        released_by released (λ gone. gone_alters id to (names_halted vanished tcb.state id named gone) target) aborted_reply)
      where
        names : allowed label authority.Reply to ≡ true
        names = link_edge thread id (o.Tcb tcb) authority.Reply label to at (names_link tcb tcb.state id refl named) labelled target

        aborted_reply : is_aborted vanished tcb.state ≡ true → Alters to
        aborted_reply gone =
            let end = aborted_end vanished tcb.state gone in
            let its = aborts end.0 end.1 end.2 in
            inr (controls
            (drops its.resets.controlled its.end_label label its.resets.control its.resets.reset
            (link_edge thread end.0 (o.Tcb tcb) authority.Receive label its.end_label at
            (receives_link tcb tcb.state id end.0 refl named end.1) labelled its.end_labelled)
            (waits (names_blocked tcb.state id named)) names))

    -- the reply through which a thread called that leaves
    called_alters :
        (id : ObjId) (to : ℕ) → label_of t m id ≡ Some to → allowed to authority.Holds label ≡ true → IsCallingThrough tcb.state id
        → leaves m vanished thread ≡ true → Alters to
    called_alters id to target holds called left =
        leaving left (λ control. inr (controls (releases label control (waits (called_blocked tcb.state id called)) holds)))
        (λ released. gone_alters id to (called_halted vanished tcb.state id called released) target)

    -- a thread leaves the object at which it waits
    left_alters : (id : ObjId) (to : ℕ) → label_of t m id ≡ Some to → WaitsAt tcb.state id → leaves m vanished thread ≡ true → Alters to
    left_alters id to target waiting left =
        leaving left (λ control. inl (modifies link.kind link.changing (may_too label link.kind to control link.of_use edge)))
        (λ released.
        released_by released (halted_queue tcb.state refl waiting)
        (λ gone. gone_alters id to (aborted_there vanished tcb.state id waiting gone) target))
      where
        link : IsWaitLink tcb id
        link = wait_link tcb tcb.state id refl waiting

        edge : allowed label link.kind to ≡ true
        edge = link_edge thread id (o.Tcb tcb) link.kind label to at link.linked labelled target

        halted_queue : (run : RunState) → tcb.state ≡ run → WaitsAt run id → is_halted vanished run ≡ true → Alters to
        halted_queue (state.Receiving receiving) is there gone =
            let lost = lost_link vanished receiving.reply gone in
            let named : IsReceivingWith tcb.state lost.0 = subst (λ (s : RunState). IsReceivingWith s lost.0) (sym is) lost.1 in
            let answers = sound.well_formed.links.receiver_reply thread lost.0 tcb at named in
            let of = sound.of_table.labelled lost.0 _ answers.1 in
            inr
            (ends of.0 label (used lost.0 _ of.0 answers.1 (λ e. cc) lost.2 of.1)
            (link_edge thread lost.0 (o.Tcb tcb) authority.Reply label of.0 at (names_link tcb tcb.state lost.0 refl named) labelled of.1)
            (waits (names_blocked tcb.state lost.0 named))
            (link_edge thread id (o.Tcb tcb) authority.Receive label to at
            (receives_link tcb tcb.state lost.0 id refl named waiting) labelled target))
        halted_queue (state.Called calling) is there gone = absurd there
        halted_queue _ is there gone = absurd (false≢true gone)

  -- a thread that stays
  tcb_alters :
      (id : ObjId) (tcb : Tcb) (label : ℕ) → IsThread m id tcb → label_of t m id ≡ Some label
      → (o.Tcb (tcb_after vanished tcb) ≡ o.Tcb tcb) ⊎ Alters label
  tcb_alters id tcb label at labelled =
      by_ways (is_halted vanished tcb.state) (is_aborted vanished tcb.state) (leads_nowhere vanished tcb.context) refl refl refl where
        by_ways :
            (ended left loses : Bool) → is_halted vanished tcb.state ≡ ended → is_aborted vanished tcb.state ≡ left
            → leads_nowhere vanished tcb.context ≡ loses → (o.Tcb (tcb_after vanished tcb) ≡ o.Tcb tcb) ⊎ Alters label
        by_ways true left loses is also bound = inr (halted_alters id tcb label at labelled tcb.state refl is)
        by_ways false true loses isnt is bound = inr (aborted_alters id tcb label at labelled is)
        by_ways false false true isnt nor is =
            let lost = lost_link vanished tcb.context is in
            let context = sound.well_formed.links.thread_context id lost.0 tcb at lost.1 in
            let of = sound.of_table.labelled lost.0 _ context.1 in
            inr (inr
            (stops of.0 (used lost.0 _ of.0 context.1 (λ e. cc) lost.2 of.1)
            (link_edge id lost.0 (o.Tcb tcb) authority.Runs label of.0 at (runs_bound tcb lost.0 lost.1) labelled of.1)))
        by_ways false false false isnt nor bound =
            inl (ap (λ b. o.Tcb (unbound vanished (cond b (halted tcb) (cond (is_aborted vanished tcb.state) (aborted tcb) tcb)))) isnt
            ∙ ap (λ b. o.Tcb (unbound vanished (cond b (aborted tcb) tcb))) nor
            ∙ ap (λ b. o.Tcb (record tcb { context = cond b None tcb.context })) bound)

  -- a reply that stays
  reply_alters :
      (id : ObjId) (holding : Reply) (label : ℕ) → object_of m id ≡ Some (o.Reply holding) → label_of t m id ≡ Some label
      → (finalised m vanished (o.Reply holding) ≡ o.Reply holding) ⊎ Alters label
  reply_alters id holding label at labelled = by_state holding.state refl where
    -- its thread leaves, or not
    held :
        (thread : ObjId) (its : ReplyState) → holding.state ≡ its → (leaves m vanished thread ≡ true → Alters label) → (b : Bool)
        → leaves m vanished thread ≡ b
        → (o.Reply (record holding { state = cond b reply.Free its }) ≡ o.Reply holding) ⊎ Alters label
    held thread its is alters false left = inl (ap (λ s. o.Reply (record holding { state = s })) (sym is))
    held thread its is alters true left = inr (alters left)

    by_state :
        (its : ReplyState) → holding.state ≡ its
        → (o.Reply (record holding { state = reply_after m vanished its }) ≡ o.Reply holding) ⊎ Alters label
    by_state reply.Free is = inl (ap (λ s. o.Reply (record holding { state = s })) (sym is))
    by_state (reply.Waiting thread) is =
        let w =
        sound.well_formed.links.waiting_reply id thread holding.address
        (at ∙ ap (λ s. Some (o.Reply (record { address = holding.address; state = s }))) is) in
        let of = sound.of_table.labelled thread (o.Tcb w.0) w.1 in
        held thread (reply.Waiting thread) is (waiting_alters thread w.0 of.0 w.1 of.1 id label labelled w.2)
        (leaves m vanished thread) refl
    by_state (reply.Called thread) is =
        let w =
        sound.well_formed.links.reply_called id thread holding.address
        (at ∙ ap (λ s. Some (o.Reply (record { address = holding.address; state = s }))) is) in
        let of = sound.of_table.labelled thread (o.Tcb w.0) w.1 in
        let holds =
        link_edge id thread (o.Reply holding) authority.Holds label of.0 at
        (ap (λ s. holds_thread s thread) is ∙ id_itself thread) labelled of.1 in
        held thread (reply.Called thread) is (called_alters thread w.0 of.0 w.1 of.1 id label labelled holds w.2)
        (leaves m vanished thread) refl

  -- a context that stays
  context_alters :
      (id : ObjId) (context : Context) (label : ℕ) → object_of m id ≡ Some (o.Context context) → label_of t m id ≡ Some label
      → (finalised m vanished (o.Context context) ≡ o.Context context) ⊎ Alters label
  context_alters id context label at labelled = by_end (leads_nowhere vanished context.thread) refl where
    by_end :
        (b : Bool) → leads_nowhere vanished context.thread ≡ b
        → (o.Context (record context { thread = cond b None context.thread }) ≡ o.Context context) ⊎ Alters label
    by_end false bound = inl refl
    by_end true is =
        let lost = lost_link vanished context.thread is in
        let w = sound.well_formed.links.context_thread id lost.0 context at lost.1 in
        let of = sound.of_table.labelled lost.0 (o.Tcb w.0) w.1 in
        inr (inr
        (controls
        (removes of.0 authority.Runs refl (used lost.0 (o.Tcb w.0) of.0 w.1 (λ e. cc) lost.2 of.1)
        (link_edge lost.0 id (o.Tcb w.0) authority.Runs of.0 label w.1 (runs_bound w.0 id w.2) of.1 labelled))))

  module _ (id : ObjId) (object : Object) (label : ℕ) (at : object_of m id ≡ Some object) (labelled : label_of t m id ≡ Some label) where
    content_alters : (finalised m vanished object ≡ object) ⊎ Alters label
    content_alters = by_kind object at where
      by_kind : (it : Object) → object_of m id ≡ Some it → (finalised m vanished it ≡ it) ⊎ Alters label
      by_kind (o.Tcb tcb) is = tcb_alters id tcb label is labelled
      by_kind (o.Reply holding) is = reply_alters id holding label is labelled
      by_kind (o.Context context) is = context_alters id context label is labelled
      by_kind _ is = inl refl

    queue_alters : (threads : List ObjId) → queue_of m id ≡ Some threads → (staying_in m vanished threads ≡ threads) ⊎ Alters label
    queue_alters threads queue = by_leaver (all_stay (leaves m vanished) threads) where
      by_leaver :
          (staying_in m vanished threads ≡ threads) ⊎ ((thread : ObjId) × Contains threads thread × (leaves m vanished thread ≡ true))
          → (staying_in m vanished threads ≡ threads) ⊎ Alters label
      by_leaver (inl same) = inl same
      by_leaver (inr found) =
          let w = sound.well_formed.links.queued id threads found.0 queue found.1 in
          let of = sound.of_table.labelled found.0 (o.Tcb w.0) w.2 in
          inr (left_alters found.0 w.0 of.0 w.2 of.1 id label labelled w.3 found.2)

    abbrev slot_at : ℕ → SlotRef
    slot_at index = record { holder = id; index = index }

    module _ (stays_there : vanished id ≡ false) where
      -- a filled slot that goes, of an object that stays, is one of those chosen
      slot_alters :
          (index : ℕ) (held : Cap) → gone_of m chosen (slot_at index) ≡ true → cap_of m (slot_at index) ≡ Some held → Alters label
      slot_alters index held goes filled = by_reason ((gone_decided m chosen (slot_at index)).0 goes) refl where
        by_way :
            {slot : SlotRef} {held : Cap} (go : MayGo t allowed a m slot held)
            → (go.controlled ≡ go.holder) ⊎ (allowed go.controlled authority.Derive go.holder ≡ true) → Alters go.holder
        by_way go (inl own) = inl (modifies authority.Control refl (ap (λ l. allowed a authority.Control l) (sym own) ∙ go.control))
        by_way go (inr derives) = inr (controls (removes go.controlled authority.Derive refl go.control derives))

        by_reason : {slot : SlotRef} → IsGone m chosen slot → slot ≡ slot_at index → Alters label
        by_reason (given {slot} is) same =
            let go = may slot held is (ap (cap_of m) same ∙ filled) in
            let one : go.holder ≡ label =
            same_Some go.holder label (sym go.held_by ∙ ap (λ (s : SlotRef). label_of t m s.holder) same ∙ labelled) in
            subst Alters one (by_way go go.derive)
        by_reason (with_last {slot} holder last final there own all) same =
            let vanishes_too : vanished slot.holder ≡ true =
            (losing_decided m (gone_of m chosen) slot.holder).1 (record {
              last = last;
              final = final;
              there = there;
              its_own = own;
              all = λ each also in_it its. (gone_decided m chosen each).1 (all each also in_it its);
            }) in
            absurd (false≢true (sym stays_there ∙ ap (λ (s : SlotRef). vanished s.holder) (sym same) ∙ vanishes_too))

      abbrev loses_at : ℕ → Bool
      loses_at index = gone_of m chosen (slot_at index) && is_some (cap_of m (slot_at index))

      slots_alters : ((index : ℕ) → cap_of after (slot_at index) ≡ cap_of m (slot_at index)) ⊎ Alters label
      slots_alters = by_search (any_below loses_at (slot_count object)) where
        lost :
            (index : ℕ) (found : Option Cap) → cap_of m (slot_at index) ≡ found → gone_of m chosen (slot_at index) ≡ true
            → is_some found ≡ true → Alters label
        lost index None is goes e = absurd (false≢true e)
        lost index (Some held) is goes e = slot_alters index held goes is

        kept :
            ((i : ℕ) → i < slot_count object → loses_at i ≡ false) → (index : ℕ) (b : Bool) (found : Option Cap)
            → gone_of m chosen (slot_at index) ≡ b → cap_of m (slot_at index) ≡ found → cond b None found ≡ found
        kept none index false found goes is = refl
        kept none index true None goes is = refl
        kept none index true (Some held) goes is =
            let holder = sound.well_formed.slots.holder (slot_at index) held is in
            let one : holder.0 ≡ object = same_Some holder.0 object (sym holder.1 ∙ at) in
            absurd
            (false≢true
            (sym (none index (subst (λ (x : Object). index < slot_count x) one holder.2))
            ∙ ap (λ b. b && is_some (cap_of m (slot_at index))) goes ∙ ap is_some is))

        by_search :
            ((i : ℕ) × (loses_at i ≡ true)) ⊎ ((i : ℕ) → i < slot_count object → loses_at i ≡ false)
            → ((index : ℕ) → cap_of after (slot_at index) ≡ cap_of m (slot_at index)) ⊎ Alters label
        by_search (inl found) =
            let both : (gone_of m chosen (slot_at found.0) ≡ true) × (is_some (cap_of m (slot_at found.0)) ≡ true) =
            both_pass _ _ found.1 in
            inr (lost found.0 (cap_of m (slot_at found.0)) refl both.0 both.1)
        by_search (inr none) = inl (λ index.
            cap_of-removed m chosen (slot_at index)
            ∙ kept none index (gone_of m chosen (slot_at index)) (cap_of m (slot_at index)) refl refl)

      -- an object that stays is as it was in each part, or its label may be altered
      stays_or_alters : IsSame m after id ⊎ Alters label
      stays_or_alters = by_content content_alters where
        queue : (threads : List ObjId) × (queue_of m id ≡ Some threads)
        queue = sound.well_formed.parts.queue id object at

        by_slots :
            finalised m vanished object ≡ object → staying_in m vanished queue.0 ≡ queue.0
            → ((index : ℕ) → cap_of after (slot_at index) ≡ cap_of m (slot_at index)) ⊎ Alters label
            → IsSame m after id ⊎ Alters label
        by_slots content waiting (inr way) = inr way
        by_slots content waiting (inl slots) = inl (record {
          content = finalised_there m chosen id object at stays_there ∙ ap Some content ∙ sym at;
          queue =
              queue_now m (removed m chosen) (leavers m chosen) (have_left m chosen) id queue.0 stays_there queue.1 ∙ ap Some waiting
              ∙ sym queue.1;
          words = words_stay m chosen id stays_there;
          slots = slots;
        })

        by_queue :
            finalised m vanished object ≡ object → (staying_in m vanished queue.0 ≡ queue.0) ⊎ Alters label
            → IsSame m after id ⊎ Alters label
        by_queue content (inr way) = inr way
        by_queue content (inl waiting) = by_slots content waiting slots_alters

        by_content : (finalised m vanished object ≡ object) ⊎ Alters label → IsSame m after id ⊎ Alters label
        by_content (inr way) = inr way
        by_content (inl content) = by_queue content (queue_alters queue.0 queue.1)

  pub removed_alters :
      (id : ObjId)
      → IsSame m (removed m chosen) id
      ⊎ ((label : ℕ) × (label_of t m id ≡ Some label) × WayToAlter allowed awake.acts a label)
  removed_alters id = by_object (object_of m id) refl where
    by_vanished :
        (b : Bool) (object : Object) → vanished id ≡ b → object_of m id ≡ Some object
        → IsSame m (removed m chosen) id ⊎ ((label : ℕ) × (label_of t m id ≡ Some label) × WayToAlter allowed awake.acts a label)
    by_vanished true object gone at =
        let of = gone_reached id gone in inr (of.label, of.labelled, gone_alters id of.label gone of.labelled)
    by_vanished false object there at =
        let of = sound.of_table.labelled id object at in
        elim (stays_or_alters id object of.0 at of.1 there) [ inl same ↦ inl same | inr way ↦ inr (of.0, of.1, way) ]

    by_object :
        (found : Option Object) → object_of m id ≡ found
        → IsSame m (removed m chosen) id ⊎ ((label : ℕ) × (label_of t m id ≡ Some label) × WayToAlter allowed awake.acts a label)
    by_object None absent = inl (absent_stays m chosen sound.well_formed id absent)
    by_object (Some object) at = by_vanished (vanished id) object refl at
