-- That queues and replies stay linked at both ends if only shares, words of notifications and the links between threads and contexts
-- change.
use Rattle.std.{specs.Prelude.{None, Some, option_map}, proofs.Common.{◌∙◌, ◌≡◌, ap, refl, subst, sym}}
use Rattle.base.specs.declared.ids.ObjId.{ObjId}
use Rattle.machine.specs.declared.{object.{Context.Context, Object.{Object, Object as o}, Reply.Reply}, thread.{RunState.RunState, Tcb.Tcb}}
use Rattle.machine.specs.{Machine.{Machine, object_of, queue_of, with_object}, WellFormed.{IsCallingThrough, IsReceivingWith, IsSending}}
use Rattle.machine.{specs.WellFormed.{IsThread, IsWellFormed, LinksAgree, WaitsAt, WaitsAtKind}, proofs.LookUps.object_of-with_object}
use Rattle.machine.proofs.LookUps.{queue_of-with_object}
use Rattle.steps.proofs.Outlines.{Steady, object_steady, outline, same_kinds, shown_kept, shown_there, steady_formed, steady_steady}

-- an object without its link to a thread or context, its share and its notification's word
abbrev pub loosened : Object → Object
loosened (o.Tcb tcb) = o.Tcb (record tcb { context = None })
loosened (o.Context context) = o.Context (record context { share = None; thread = None })
loosened (o.Notification notification) = o.Notification (record notification { pending = None })
loosened object = object

-- nothing but these parts changes
pub record OnlyBinds (m next : Machine) : Type 0 where
  pub steady : Steady m next
  pub objects : (q : ObjId) → option_map loosened (object_of next q) ≡ option_map loosened (object_of m q)
  pub queues : (q : ObjId) → queue_of next q ≡ queue_of m q

outline_in : (object : Object) → outline (loosened object) ≡ outline object
outline_in (o.Tcb tcb) = refl
outline_in (o.Context context) = refl
outline_in (o.Notification notification) = refl
outline_in _ = refl

pub object_binds :
    (m : Machine) (id : ObjId) (old new : Object) → object_of m id ≡ Some old → loosened new ≡ loosened old
    → OnlyBinds m (with_object m id new)
object_binds m id old new was same =
    record {
      steady = object_steady m id old new was (sym (outline_in new) ∙ ap outline same ∙ outline_in old);
      objects =
          λ q.
          ap (option_map loosened) (object_of-with_object m id new q)
          ∙ shown_kept loosened (object_of m) id old new was same q;
      queues = queue_of-with_object m id new;
    }

pub binds_binds : (m mid next : Machine) → OnlyBinds m mid → OnlyBinds mid next → OnlyBinds m next
binds_binds m mid next one two =
    record {
      steady = steady_steady m mid next one.steady two.steady;
      objects = λ q. two.objects q ∙ one.objects q;
      queues = λ q. two.queues q ∙ one.queues q;
    }

-- a thread and its context agree
pub record BindsAgree (m : Machine) : Type 0 where
  pub thread_context :
      (thread id : ObjId) (tcb : Tcb) → IsThread m thread tcb → tcb.context ≡ Some id
      → (context : Context) × (object_of m id ≡ Some (o.Context context)) × (context.thread ≡ Some thread)
  pub context_thread :
      (id thread : ObjId) (context : Context) → object_of m id ≡ Some (o.Context context) → context.thread ≡ Some thread
      → (tcb : Tcb) × IsThread m thread tcb × (tcb.context ≡ Some id)

-- what is a thread or a reply without these parts is one with them
tcb_of :
    (object : Object) (tcb : Tcb) → loosened object ≡ loosened (o.Tcb tcb)
    → (old : Tcb) × (object ≡ o.Tcb old) × (old.state ≡ tcb.state)
tcb_of (o.Tcb old) tcb e =
    let same : record old { context = None } ≡ record tcb { context = None } = cc in (old, refl, ap (λ (t : Tcb). t.state) same)
tcb_of (o.Context old) tcb e = cc
tcb_of (o.Notification old) tcb e = cc
tcb_of _ tcb e = cc

reply_of : (object : Object) (holding : Reply) → loosened object ≡ o.Reply holding → object ≡ o.Reply holding
reply_of (o.Tcb old) holding e = cc
reply_of (o.Context old) holding e = cc
reply_of (o.Notification old) holding e = cc
reply_of _ holding e = e

same_thread :
    (m next : Machine) → ((q : ObjId) → option_map loosened (object_of next q) ≡ option_map loosened (object_of m q))
    → (q : ObjId) (tcb : Tcb) → IsThread m q tcb → (now : Tcb) × IsThread next q now × (now.state ≡ tcb.state)
same_thread m next objects q tcb e =
    let there = shown_there loosened (object_of next q) (object_of m q) (o.Tcb tcb) (objects q) e in
    let now = tcb_of there.0 tcb there.2 in (now.0, there.1 ∙ ap (λ object. Some object) now.1, now.2)

same_reply :
    (m next : Machine) → ((q : ObjId) → option_map loosened (object_of next q) ≡ option_map loosened (object_of m q))
    → (q : ObjId) (holding : Reply) → object_of m q ≡ Some (o.Reply holding) → object_of next q ≡ Some (o.Reply holding)
same_reply m next objects q holding e =
    let there = shown_there loosened (object_of next q) (object_of m q) (o.Reply holding) (objects q) e in
    there.1 ∙ ap (λ object. Some object) (reply_of there.0 holding there.2)

module _ (m next : Machine) (only : OnlyBinds m next) (links : LinksAgree m) where
  thread_now : (q : ObjId) (tcb : Tcb) → IsThread m q tcb → (now : Tcb) × IsThread next q now × (now.state ≡ tcb.state)
  thread_now = same_thread m next only.objects

  thread_was : (q : ObjId) (tcb : Tcb) → IsThread next q tcb → (old : Tcb) × IsThread m q old × (old.state ≡ tcb.state)
  thread_was = same_thread next m (λ q. sym (only.objects q))

  reply_now : (q : ObjId) (holding : Reply) → object_of m q ≡ Some (o.Reply holding) → object_of next q ≡ Some (o.Reply holding)
  reply_now = same_reply m next only.objects

  reply_was : (q : ObjId) (holding : Reply) → object_of next q ≡ Some (o.Reply holding) → object_of m q ≡ Some (o.Reply holding)
  reply_was = same_reply next m (λ q. sym (only.objects q))

  links_bound : BindsAgree next → LinksAgree next
  links_bound binds =
      record {
        queued =
            λ q threads thread e there.
            let w = links.queued q threads thread (sym (only.queues q) ∙ e) there in
            let now = thread_now thread w.0 w.2 in (
              now.0,
              w.1,
              now.1,
              subst (λ (run : RunState). WaitsAt run q) (sym now.2) w.3,
              same_kinds m next only.steady q ∙ w.4,
              subst (λ (run : RunState). WaitsAtKind run w.1) (sym now.2) w.5,
            );
        waiting =
            λ thread q tcb e waits.
            let was = thread_was thread tcb e in
            let w = links.waiting thread q was.0 was.1 (subst (λ (run : RunState). WaitsAt run q) (sym was.2) waits) in
            (w.0, only.queues q ∙ w.1, w.2);
        once = λ q threads e. links.once q threads (sym (only.queues q) ∙ e);
        one_way =
            λ q a b threads first second e in_a in_b is_a is_b sends at.
            let one = thread_was a first is_a in
            let two = thread_was b second is_b in
            subst IsSending two.2
            (links.one_way q a b threads one.0 two.0 (sym (only.queues q) ∙ e) in_a in_b one.1 two.1
            (subst IsSending (sym one.2) sends) (sym (same_kinds m next only.steady q) ∙ at));
        receiver_reply =
            λ thread q tcb e receives.
            let was = thread_was thread tcb e in
            let w =
            links.receiver_reply thread q was.0 was.1 (subst (λ (run : RunState). IsReceivingWith run q) (sym was.2) receives) in
            (w.0, reply_now q _ w.1);
        called_reply =
            λ thread q tcb e called.
            let was = thread_was thread tcb e in
            let w =
            links.called_reply thread q was.0 was.1 (subst (λ (run : RunState). IsCallingThrough run q) (sym was.2) called) in
            (w.0, reply_now q _ w.1);
        waiting_reply =
            λ q thread address e.
            let w = links.waiting_reply q thread address (reply_was q _ e) in
            let now = thread_now thread w.0 w.1 in
            (now.0, now.1, subst (λ (run : RunState). IsReceivingWith run q) (sym now.2) w.2);
        reply_called =
            λ q thread address e.
            let w = links.reply_called q thread address (reply_was q _ e) in
            let now = thread_now thread w.0 w.1 in
            (now.0, now.1, subst (λ (run : RunState). IsCallingThrough run q) (sym now.2) w.2);
        thread_context = binds.thread_context;
        context_thread = binds.context_thread;
      }

pub binds_formed : (m next : Machine) → OnlyBinds m next → BindsAgree next → IsWellFormed m → IsWellFormed next
binds_formed m next only binds formed = steady_formed m next only.steady (links_bound m next only formed.links binds) formed
