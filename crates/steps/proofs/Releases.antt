-- The machine after a thread leaves its queue and its reply, object by object and queue by queue; and that its links agree if the thread is
-- idle then.
use Rattle.std.{specs.Prelude.{None, Option, Some, if◌then◌else◌, is_some, length, option_map}, proofs.Common.{◌∙◌, ◌≡◌, ◌≢◌, ◌⊎◌, Bool}}
use Rattle.std.proofs.{Common.{List, ap, cond, false, inl, inr, refl, subst, sym, true}, lemmas.Bool.false≢true}
use Rattle.std.specs.FinMap as map
use Rattle.base.specs.declared.ids.{ObjId.ObjId, SlotRef.SlotRef}
use Rattle.machine.specs.declared.{object.{Object.{Object, Object as o}, Reply.Reply, ReplyState.ReplyState}, thread.Tcb.Tcb}
use Rattle.machine.specs.{Finalising.IsHolding, Machine.{Machine, cap_of, object_of, parent_of, queue_of, same_id, words_of}}
use Rattle.machine.{specs.{Releasing.{SameRest, with_released}, WellFormed.{IsIdle, IsThread, LinksAgree}}, proofs.HeldThreads.links_of}
use Rattle.machine.proofs.{Ids.{at_itself, at_other, one_or_two}, Leaving.{freed, held_freed, others_kept, released_objects}}
use Rattle.machine.proofs.{Leaving.{released_queues, released_rest, released_there, without}, LookUps.one_id, RemovalTable.one_thread}
use Rattle.machine.specs.declared.object.ReplyState.TheVariants as reply
use Rattle.machine.specs.declared.thread.Inbox.TheVariants as inbox
use Rattle.machine.specs.declared.thread.RunState.TheVariants as state
use Rattle.steps.proofs.{LeavingLinks.{Becomes, Leavers, link_itself, links_left, object_left}, Outlines.{Steady, outline}}

pub record IsReleased (m : Machine) (thread : ObjId) (new : Tcb) (next : Machine) : Type 0 where
  pub objects :
      (q : ObjId) → object_of next q ≡ (if same_id q thread then Some (o.Tcb new) else option_map (freed thread) (object_of m q))
  pub queues : (q : ObjId) → queue_of next q ≡ option_map (without thread) (queue_of m q)
  pub rest : SameRest m next

pub released_is :
    (m : Machine) (thread : ObjId) (tcb : Tcb) (change : Tcb → Tcb) → LinksAgree m → IsThread m thread tcb
    → IsReleased m thread (change tcb) (with_released m thread change)
released_is m thread tcb change links there =
    subst (λ (n : Machine). IsReleased m thread (change tcb) n) (sym (released_there m thread tcb change there))
    (record {
      objects = released_objects m thread tcb (change tcb) there (links_of m links thread tcb there);
      queues = released_queues m thread tcb (change tcb) there (links_of m links thread tcb there);
      rest = released_rest m thread tcb (change tcb) there (links_of m links thread tcb there);
    })

pub rest_words : (m next : Machine) → SameRest m next → (q : ObjId) → words_of next q ≡ words_of m q
unfolding words_of
rest_words m next same q = ap (λ words. map.get words q) same.words

pub rest_caps : (m next : Machine) → SameRest m next → (slot : SlotRef) → cap_of next slot ≡ cap_of m slot
unfolding cap_of
rest_caps m next same slot = ap (λ caps. map.get caps slot) same.caps

pub rest_parents : (m next : Machine) → SameRest m next → (slot : SlotRef) → parent_of next slot ≡ parent_of m slot
unfolding parent_of
rest_parents m next same slot = ap (λ parents. map.get parents slot) same.parents

-- objects other than replies are the same after a thread leaves
freed_same : (thread : ObjId) (object : Object) → ((holding : Reply) → object ≢ o.Reply holding) → freed thread object ≡ object
freed_same thread (o.Reply holding) differs = absurd (differs holding refl)
freed_same thread _ differs = refl

module _ (m next : Machine) (thread : ObjId) (new : Tcb) (released : IsReleased m thread new next) where
  pub released_thread : IsThread next thread new
  released_thread = released.objects thread ∙ at_itself thread (Some (o.Tcb new)) (option_map (freed thread) (object_of m thread))

  pub released_elsewhere : (q : ObjId) → q ≢ thread → object_of next q ≡ option_map (freed thread) (object_of m q)
  released_elsewhere q apart =
      released.objects q ∙ at_other q thread (Some (o.Tcb new)) (option_map (freed thread) (object_of m q)) apart

  -- each other object but a reply is as it was
  pub other_now :
      (q : ObjId) (object : Object) → q ≢ thread → ((holding : Reply) → object ≢ o.Reply holding) → object_of m q ≡ Some object
      → object_of next q ≡ Some object
  other_now q object apart differs e =
      released_elsewhere q apart ∙ ap (option_map (freed thread)) e ∙ ap (λ x. Some x) (freed_same thread object differs)

  -- a reply that held the thread is free
  pub reply_freed :
      (q : ObjId) (holding : Reply) → q ≢ thread → object_of m q ≡ Some (o.Reply holding) → IsHolding holding.state thread
      → object_of next q ≡ Some (o.Reply (record holding { state = reply.Free }))
  reply_freed q holding apart e is =
      released_elsewhere q apart ∙ ap (option_map (freed thread)) e
      ∙ ap (λ (s : ReplyState). Some (o.Reply (record holding { state = s }))) (held_freed thread holding.state is)

  -- each other reply is as it was
  pub reply_stays :
      (q : ObjId) (holding : Reply) → q ≢ thread → object_of m q ≡ Some (o.Reply holding) → ¬ (IsHolding holding.state thread)
      → object_of next q ≡ Some (o.Reply holding)
  reply_stays q holding apart e differs =
      released_elsewhere q apart ∙ ap (option_map (freed thread)) e
      ∙ ap (λ (s : ReplyState). Some (o.Reply (record holding { state = s }))) (others_kept thread holding.state differs)

  module _ (old : Tcb) (was : IsThread m thread old) (runs : new.context ≡ old.context) (idle : IsIdle new.state) where
    -- only this thread leaves
    abbrev leaver : Leavers
    leaver =
        record {
          goes = λ _. false;
          leaves = λ q. same_id q thread;
          unbinds = λ _. false;
          becomes = λ q tcb. if same_id q thread then new else tcb;
        }

    becomes_new : (q : ObjId) (tcb : Tcb) → IsThread m q tcb → Becomes leaver q tcb
    becomes_new q tcb there =
        record {
          stays = λ apart. ap (λ b. (cond b new tcb).state) apart;
          idle = λ here. subst (λ b. IsIdle (cond b new tcb).state) (sym here) idle;
          context = by_tie (same_id q thread) refl ∙ sym (link_itself tcb.context);
        } where
          by_tie : (tie : Bool) → same_id q thread ≡ tie → (cond tie new tcb).context ≡ tcb.context
          by_tie true e =
              runs ∙ ap (λ (t : Tcb). t.context) (one_thread m thread old tcb was (ap (object_of m) (sym (one_id q thread e)) ∙ there))
          by_tie false e = refl

    objects_left : (q : ObjId) → object_of next q ≡ option_map (object_left leaver q) (object_of m q)
    objects_left q = released.objects q ∙ by_tie (same_id q thread) refl where
      by_object :
          same_id q thread ≡ false → (object : Option Object)
          → option_map (freed thread) object ≡ option_map (object_left leaver q) object
      by_object e None = refl
      by_object e (Some (o.Tcb tcb)) = ap (λ b. Some (o.Tcb (cond b new tcb))) (sym e)
      by_object e (Some (o.Reply holding)) = refl
      by_object e (Some (o.Context context)) =
          ap (λ (link : Option ObjId). Some (o.Context (record context { thread = link }))) (sym (link_itself context.thread))
      by_object e (Some _) = refl

      by_tie :
          (tie : Bool) → same_id q thread ≡ tie
          → cond tie (Some (o.Tcb new)) (option_map (freed thread) (object_of m q)) ≡ option_map (object_left leaver q) (object_of m q)
      by_tie true e =
          ap (λ b. Some (o.Tcb (cond b new old))) (sym e)
          ∙ ap (option_map (object_left leaver q)) (sym was ∙ ap (object_of m) (sym (one_id q thread e)))
      by_tie false e = by_object e (object_of m q)

    pub links_released : LinksAgree m → LinksAgree next
    links_released =
        links_left m next leaver
        (record {
          objects = objects_left;
          queues = released.queues;
          becomes = λ q tcb there stays. becomes_new q tcb there;
          goes = λ q gone. absurd (false≢true gone);
          waits = λ q id tcb there waits gone. absurd (false≢true gone);
          names = λ q id tcb there names gone. absurd (false≢true gone);
        })

  module _ (old : Tcb) (was : IsThread m thread old) (same_address : new.address ≡ old.address) where
    outline_kept : (object : Option Object) → option_map outline (option_map (freed thread) object) ≡ option_map outline object
    outline_kept None = refl
    outline_kept (Some (o.Reply holding)) = refl
    outline_kept (Some (o.Tcb tcb)) = refl
    outline_kept (Some (o.Context context)) = refl
    outline_kept (Some _) = refl

    queue_kept : (queue : Option (List ObjId)) → is_some (option_map (without thread) queue) ≡ is_some queue
    queue_kept None = refl
    queue_kept (Some threads) = refl

    outlines_kept :
        (q : ObjId) → (q ≡ thread) ⊎ (q ≢ thread)
        → option_map outline (object_of next q) ≡ option_map outline (object_of m q)
    outlines_kept q (inl same) =
        ap (λ (x : ObjId). option_map outline (object_of next x)) same
        ∙ ap (option_map outline) released_thread
        ∙ (λ i. Some (o.Tcb (record { address = same_address i; state = state.Inactive; inbox = inbox.Empty; context = None })))
        ∙ sym (ap (option_map outline) was)
        ∙ ap (λ (x : ObjId). option_map outline (object_of m x)) (sym same)
    outlines_kept q (inr apart) = ap (option_map outline) (released_elsewhere q apart) ∙ outline_kept (object_of m q)

    pub released_steady : Steady m next
    released_steady =
        record {
          outlines = λ q. outlines_kept q (one_or_two q thread);
          queues = λ q. ap is_some (released.queues q) ∙ queue_kept (queue_of m q);
          words = λ q. ap (option_map length) (rest_words m next released.rest q);
          caps = rest_caps m next released.rest;
          parents = rest_parents m next released.rest;
          number = released.rest.next;
          going = released.rest.going;
        }
