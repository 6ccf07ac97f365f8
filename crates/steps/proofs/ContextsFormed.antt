-- That configure, bind and unbind keep a machine well formed: a context's share changes, or a link on which thread and context agree before
-- and after.
use Rattle.std.{specs.Prelude.{None, Option, Some}, proofs.Common.{ℕ, ◌∙◌, ◌≡◌, ◌≢◌, ◌⊎◌, ap, inl, inr, refl, subst, sym}}
use Rattle.{std.proofs.lemmas.Option.{none-some, same_Some}, base.specs.declared.ids.ObjId.ObjId}
use Rattle.machine.specs.declared.{object.{Context.Context, Object.{Object, Object as o}, Share.Share}, thread.Tcb.Tcb}
use Rattle.machine.specs.{Changes.{with_context, with_tcb}, Machine.{Machine, object_of, with_object}}
use Rattle.machine.specs.{Releasing.{with_idle_context, with_unbound}, Step.Bind.{context_under, thread_on, with_bound, with_handed}}
use Rattle.machine.specs.{Step.{Bind.without_thread, Configure.with_share}, WellFormed.{IsThread, IsWellFormed}}
use Rattle.machine.proofs.{Ids.one_or_two, LookUps.object_of-with_object, RemovalTable.one_thread}
use Rattle.steps.proofs.{ContextLinks.{binds_binds, binds_formed, object_binds}, ContextRow.{BindDone, ConfigureDone, UnbindDone}}
use Rattle.steps.proofs.{SetObject.{SetsObject, other_after, other_before, set_elsewhere, set_there}, Threads.with_tcb_there}

context_is :
    (m : Machine) (id : ObjId) (old new : Context) → object_of m id ≡ Some (o.Context old)
    → with_context m id new ≡ with_object m id (o.Context new)
unfolding with_context
context_is m id old new there = rw there refl

one_context :
    (m : Machine) (id : ObjId) (one other : Context) → object_of m id ≡ Some (o.Context one)
    → object_of m id ≡ Some (o.Context other) → one ≡ other
one_context m id one other is there =
    let same : Some (o.Context one) ≡ Some (o.Context other) = sym is ∙ there in cc

-- a context that runs the same thread with other contents
same_runs :
    (m next : Machine) (id : ObjId) (old new : Context) → object_of m id ≡ Some (o.Context old)
    → object_of next id ≡ Some (o.Context new) → new.thread ≡ old.thread
    → ((q : ObjId) → q ≢ id → object_of next q ≡ object_of m q)
    → (q thread : ObjId) (context : Context) → object_of m q ≡ Some (o.Context context) → context.thread ≡ Some thread
    → (now : Context) × (object_of next q ≡ Some (o.Context now)) × (now.thread ≡ Some thread)
same_runs m next id old new was is same elsewhere q thread context e runs = by_id (one_or_two q id) where
  by_id :
      (q ≡ id) ⊎ (q ≢ id) → (now : Context) × (object_of next q ≡ Some (o.Context now)) × (now.thread ≡ Some thread)
  by_id (inl here) = (
    new,
    ap (object_of next) here ∙ is,
    same ∙ ap (λ (c : Context). c.thread) (one_context m id old context was (ap (object_of m) (sym here) ∙ e)) ∙ runs,
  )
  by_id (inr apart) = (context, elsewhere q apart ∙ e, runs)

-- a scheduling context gets a share: the machine stays well formed

pub share_is :
    (m : Machine) (id : ObjId) (context : Context) (share : Share) → object_of m id ≡ Some (o.Context context)
    → with_share m id share ≡ with_object m id (o.Context (record context { share = Some share }))
unfolding with_share
share_is m id context share its = rw its (context_is m id context (record context { share = Some share }) its)

shared_formed :
    (m : Machine) (id : ObjId) (context : Context) (share : Share) → object_of m id ≡ Some (o.Context context)
    → IsWellFormed m → IsWellFormed (with_object m id (o.Context (record context { share = Some share })))
shared_formed m id context share its formed =
    binds_formed m next (object_binds m id (o.Context context) (o.Context new) its refl)
    (record {
      thread_context =
          λ thread q tcb e runs.
          let was = other_before m next id (o.Context new) sets thread (o.Tcb tcb) (λ same. cc) e in
          let w = formed.links.thread_context thread q tcb was runs in
          same_runs m next id context new its there refl elsewhere q thread w.0 w.1 w.2;
      context_thread =
          λ q thread now e runs.
          let was = same_runs next m id new context there its refl (λ p apart. sym (elsewhere p apart)) q thread now e runs in
          let w = formed.links.context_thread q thread was.0 was.1 was.2 in
          (w.0, other_after m next id (o.Context new) sets (o.Context context) its thread (o.Tcb w.0) (λ same. cc) w.1, w.2);
    }) formed
  where
    new : Context
    new = record context { share = Some share }

    next : Machine
    next = with_object m id (o.Context new)

    sets : SetsObject m id (o.Context new) next
    sets = object_of-with_object m id (o.Context new)

    there : object_of next id ≡ Some (o.Context new)
    there = set_there m next id (o.Context new) sets

    elsewhere : (q : ObjId) → q ≢ id → object_of next q ≡ object_of m q
    elsewhere = set_elsewhere m next id (o.Context new) sets

pub with_share_formed : (m : Machine) (id : ObjId) (share : Share) → IsWellFormed m → IsWellFormed (with_share m id share)
unfolding with_share
with_share_formed m id share formed = by_content (object_of m id) refl where
  by_content : (content : Option Object) → object_of m id ≡ content → IsWellFormed (with_share m id share)
  by_content (Some (o.Context context)) e =
      subst IsWellFormed (sym (share_is m id context share e)) (shared_formed m id context share e formed)
  by_content None e = rw e formed
  by_content (Some _) e = rw e formed

-- a thread gets a link to a scheduling context or to none, and the context the link back
module _ (m : Machine) (thread id : ObjId) (tcb : Tcb) (context : Context) (link back : Option ObjId)
    (there : IsThread m thread tcb) (its : object_of m id ≡ Some (o.Context context)) where
  abbrev new : Tcb
  new = record tcb { context = link }

  abbrev now : Context
  now = record context { thread = back }

  abbrev halfway : Machine
  halfway = with_object m thread (o.Tcb new)

  abbrev linked : Machine
  linked = with_object halfway id (o.Context now)

  apart : id ≢ thread
  apart same = let one : Some (o.Context context) ≡ Some (o.Tcb tcb) = sym its ∙ ap (object_of m) same ∙ there in cc

  sets_thread : SetsObject m thread (o.Tcb new) halfway
  sets_thread = object_of-with_object m thread (o.Tcb new)

  sets_context : SetsObject halfway id (o.Context now) linked
  sets_context = object_of-with_object halfway id (o.Context now)

  its_halfway : object_of halfway id ≡ Some (o.Context context)
  its_halfway = set_elsewhere m halfway thread (o.Tcb new) sets_thread id apart ∙ its

  halfway_there : object_of (with_tcb m thread new) id ≡ Some (o.Context context)
  halfway_there = rw (with_tcb_there m thread tcb new there) its_halfway

  linked_is : with_context (with_tcb m thread new) id now ≡ linked
  linked_is = rw (with_tcb_there m thread tcb new there) (context_is halfway id context now its_halfway)

  its_now : object_of linked id ≡ Some (o.Context now)
  its_now = set_there halfway linked id (o.Context now) sets_context

  there_now : IsThread linked thread new
  there_now =
      set_elsewhere halfway linked id (o.Context now) sets_context thread (λ same. apart (sym same))
      ∙ set_there m halfway thread (o.Tcb new) sets_thread

  -- other objects are as they were
  elsewhere : (q : ObjId) → q ≢ thread → q ≢ id → object_of linked q ≡ object_of m q
  elsewhere q not_thread not_id =
      set_elsewhere halfway linked id (o.Context now) sets_context q not_id
      ∙ set_elsewhere m halfway thread (o.Tcb new) sets_thread q not_thread

  -- the machine stays well formed if neither was linked to another, and they agree now
  module _ (formed : IsWellFormed m) (alone : (q : ObjId) → context.thread ≡ Some q → q ≡ thread)
      (single : (q : ObjId) → tcb.context ≡ Some q → q ≡ id)
      (forth : (q : ObjId) → link ≡ Some q → (q ≡ id) × (back ≡ Some thread))
      (over : (q : ObjId) → back ≡ Some q → (q ≡ thread) × (link ≡ Some id)) where
    thread_context_now :
        (q p : ObjId) (other : Tcb) → IsThread linked q other → other.context ≡ Some p → (q ≡ thread) ⊎ (q ≢ thread)
        → (c : Context) × (object_of linked p ≡ Some (o.Context c)) × (c.thread ≡ Some q)
    thread_context_now q p other e runs (inl here) =
        let same : new ≡ other = one_thread linked thread new other there_now (ap (object_of linked) (sym here) ∙ e) in
        let to = forth p (ap (λ (t : Tcb). t.context) same ∙ runs) in
        (now, ap (object_of linked) to.0 ∙ its_now, to.1 ∙ ap (λ x. Some x) (sym here))
    thread_context_now q p other e runs (inr differs) =
        let not_id : q ≢ id =
        λ same. let one : Some (o.Tcb other) ≡ Some (o.Context now) = sym e ∙ ap (object_of linked) same ∙ its_now in cc in
        let w = formed.links.thread_context q p other (sym (elsewhere q differs not_id) ∙ e) runs in
        let not_thread : p ≢ thread =
        λ same. let one : Some (o.Context w.0) ≡ Some (o.Tcb tcb) = sym w.1 ∙ ap (object_of m) same ∙ there in cc in
        let its_own : p ≡ id → context.thread ≡ Some q =
        λ same. ap (λ (c : Context). c.thread) (one_context m id context w.0 its (ap (object_of m) (sym same) ∙ w.1)) ∙ w.2 in
        (w.0, elsewhere p not_thread (λ same. differs (alone q (its_own same))) ∙ w.1, w.2)

    context_thread_now :
        (p q : ObjId) (c : Context) → object_of linked p ≡ Some (o.Context c) → c.thread ≡ Some q → (p ≡ id) ⊎ (p ≢ id)
        → (other : Tcb) × IsThread linked q other × (other.context ≡ Some p)
    context_thread_now p q c e runs (inl here) =
        let same : now ≡ c = one_context linked id now c its_now (ap (object_of linked) (sym here) ∙ e) in
        let to = over q (ap (λ (x : Context). x.thread) same ∙ runs) in
        (new, ap (object_of linked) to.0 ∙ there_now, to.1 ∙ ap (λ x. Some x) (sym here))
    context_thread_now p q c e runs (inr differs) =
        let not_thread : p ≢ thread =
        λ same. let one : Some (o.Context c) ≡ Some (o.Tcb new) = sym e ∙ ap (object_of linked) same ∙ there_now in cc in
        let w = formed.links.context_thread p q c (sym (elsewhere p not_thread differs) ∙ e) runs in
        let not_id : q ≢ id =
        λ same. let one : Some (o.Tcb w.0) ≡ Some (o.Context context) = sym w.1 ∙ ap (object_of m) same ∙ its in cc in
        let its_own : q ≡ thread → tcb.context ≡ Some p =
        λ same. ap (λ (t : Tcb). t.context) (one_thread m thread tcb w.0 there (ap (object_of m) (sym same) ∙ w.1)) ∙ w.2 in
        (w.0, elsewhere q (λ same. differs (single p (its_own same))) not_id ∙ w.1, w.2)

    linked_formed : IsWellFormed linked
    linked_formed =
        binds_formed m linked
        (binds_binds m halfway linked (object_binds m thread (o.Tcb tcb) (o.Tcb new) there refl)
        (object_binds halfway id (o.Context context) (o.Context now) its_halfway refl))
        (record {
          thread_context = λ q p other e runs. thread_context_now q p other e runs (one_or_two q thread);
          context_thread = λ p q c e runs. context_thread_now p q c e runs (one_or_two p id);
        }) formed

-- a thread gets a scheduling context, if neither is linked yet

pub bound_is :
    (m : Machine) (id thread : ObjId) (context : Context) (tcb : Tcb) → object_of m id ≡ Some (o.Context context)
    → IsThread m thread tcb
    → with_bound m id thread
    ≡ with_object (with_object m thread (o.Tcb (record tcb { context = Some id }))) id
    (o.Context (record context { thread = Some thread }))
unfolding with_bound
bound_is m id thread context tcb its there =
    rw (its, there) (linked_is m thread id tcb context (Some id) (Some thread) there its)

pub with_bound_formed :
    (m : Machine) (id thread : ObjId) → IsWellFormed m → thread_on (object_of m id) ≡ None
    → context_under (object_of m thread) ≡ None → IsWellFormed (with_bound m id thread)
unfolding with_bound
with_bound_formed m id thread formed unbound free = by_contents (object_of m id) (object_of m thread) refl refl where
  by_contents :
      (content other : Option Object) → object_of m id ≡ content → object_of m thread ≡ other
      → IsWellFormed (with_bound m id thread)
  by_contents (Some (o.Context context)) (Some (o.Tcb tcb)) e f =
      let none : context.thread ≡ None = sym (ap thread_on e) ∙ unbound in
      let alone : tcb.context ≡ None = sym (ap context_under f) ∙ free in
      subst IsWellFormed (sym (bound_is m id thread context tcb e f))
      (linked_formed m thread id tcb context (Some id) (Some thread) f e formed (λ q is. absurd (none-some q (sym none ∙ is)))
      (λ q is. absurd (none-some q (sym alone ∙ is))) (λ q is. (sym (same_Some id q is), refl))
      (λ q is. (sym (same_Some thread q is), refl)))
  by_contents None other e f = rw e formed
  by_contents (Some (o.Context context)) None e f = rw (e, f) formed
  by_contents (Some (o.Context context)) (Some _) e f = rw (e, f) formed
  by_contents (Some _) other e f = rw e formed

-- the link of a thread and its scheduling context is removed at both ends

pub unbound_is :
    (m : Machine) (id thread : ObjId) (context : Context) (tcb : Tcb) → object_of m id ≡ Some (o.Context context)
    → IsThread m thread tcb → tcb.context ≡ Some id
    → with_unbound m thread
    ≡ with_object (with_object m thread (o.Tcb (record tcb { context = None }))) id (o.Context (record context { thread = None }))
unfolding with_unbound with_idle_context
unbound_is m id thread context tcb its there is =
    rw (there, is, halfway_there m thread id tcb context None None there its)
    (linked_is m thread id tcb context None None there its)

pub with_unbound_formed : (m : Machine) (thread : ObjId) → IsWellFormed m → IsWellFormed (with_unbound m thread)
unfolding with_unbound
with_unbound_formed m thread formed = by_content (object_of m thread) refl where
  by_link :
      (tcb : Tcb) (link : Option ObjId) → IsThread m thread tcb → tcb.context ≡ link → IsWellFormed (with_unbound m thread)
  by_link tcb None there is = rw (there, is) formed
  by_link tcb (Some id) there is =
      let w = formed.links.thread_context thread id tcb there is in
      subst IsWellFormed (sym (unbound_is m id thread w.0 tcb w.1 there is))
      (linked_formed m thread id tcb w.0 None None there w.1 formed (λ q its. same_Some q thread (sym its ∙ w.2))
      (λ q its. same_Some q id (sym its ∙ is)) (λ q none. absurd (none-some q none)) (λ q none. absurd (none-some q none)))

  by_content : (content : Option Object) → object_of m thread ≡ content → IsWellFormed (with_unbound m thread)
  by_content (Some (o.Tcb tcb)) e = by_link tcb tcb.context e refl
  by_content None e = rw e formed
  by_content (Some _) e = rw e formed

-- a thread's scheduling context passes to a thread that has none

-- between, the context has no thread and neither thread a context
module _ (m : Machine) (from id to : ObjId) (tcb : Tcb) (context : Context) (there : IsThread m from tcb)
    (runs : tcb.context ≡ Some id) (its : object_of m id ≡ Some (o.Context context))
    (free : context_under (object_of m to) ≡ None) where
  abbrev between : Machine
  between = with_unbound m from

  between_is : between ≡ linked m from id tcb context None None there its
  between_is = unbound_is m id from context tcb its there runs

  its_between : object_of between id ≡ Some (o.Context (record context { thread = None }))
  its_between = ap (λ (n : Machine). object_of n id) between_is ∙ its_now m from id tcb context None None there its

  idle_between : thread_on (object_of between id) ≡ None
  idle_between = ap thread_on its_between

  to_apart : to ≢ from
  to_apart same =
      none-some id (sym free ∙ ap (λ (q : ObjId). context_under (object_of m q)) same ∙ ap context_under there ∙ runs)

  free_between : context_under (object_of between to) ≡ None
  free_between = by_id (one_or_two to id) where
    by_id : (to ≡ id) ⊎ (to ≢ id) → context_under (object_of between to) ≡ None
    by_id (inl same) = ap (λ (q : ObjId). context_under (object_of between q)) same ∙ ap context_under its_between
    by_id (inr apart) =
        ap (λ (n : Machine). context_under (object_of n to)) between_is
        ∙ ap context_under (elsewhere m from id tcb context None None there its to to_apart apart)
        ∙ free

  handed_is : with_handed m from to ≡ with_bound between id to
  unfolding with_handed
  handed_is = rw (there, runs) refl

  module _ (other : Tcb) (receives : IsThread m to other) where
    abbrev idle : Context
    idle = record context { thread = None }

    differs : to ≢ id
    differs same =
        let one : Some (o.Tcb other) ≡ Some (o.Context context) = sym receives ∙ ap (object_of m) same ∙ its in cc

    stays : IsThread between to other
    stays =
        ap (λ (n : Machine). object_of n to) between_is
        ∙ elsewhere m from id tcb context None None there its to to_apart differs
        ∙ receives

    handed_whole : with_handed m from to ≡ linked between to id other idle (Some id) (Some to) stays its_between
    handed_whole = handed_is ∙ bound_is between id to idle other its_between stays

    -- the other thread runs on the context
    pub handed_there : IsThread (with_handed m from to) to (record other { context = Some id })
    handed_there =
        ap (λ (n : Machine). object_of n to) handed_whole
        ∙ there_now between to id other idle (Some id) (Some to) stays its_between

    -- the thread that had the context runs on none
    pub handed_from : IsThread (with_handed m from to) from (record tcb { context = None })
    handed_from =
        ap (λ (n : Machine). object_of n from) handed_whole
        ∙ elsewhere between to id other idle (Some id) (Some to) stays its_between from (λ same. to_apart (sym same))
        (λ same. apart m from id tcb context None None there its (sym same))
        ∙ ap (λ (n : Machine). object_of n from) between_is
        ∙ there_now m from id tcb context None None there its

    -- other threads run on what they ran on
    pub handed_other :
        (q : ObjId) → q ≢ from → q ≢ to → context_under (object_of (with_handed m from to) q) ≡ context_under (object_of m q)
    handed_other q not_from not_to = by_id (one_or_two q id) where
      by_id : (q ≡ id) ⊎ (q ≢ id) → context_under (object_of (with_handed m from to) q) ≡ context_under (object_of m q)
      by_id (inl same) =
          ap (λ (n : Machine). context_under (object_of n q)) handed_whole
          ∙ ap (λ (p : ObjId). context_under (object_of (linked between to id other idle (Some id) (Some to) stays its_between) p))
          same
          ∙ ap context_under (its_now between to id other idle (Some id) (Some to) stays its_between)
          ∙ ap context_under (sym its)
          ∙ ap (λ (p : ObjId). context_under (object_of m p)) (sym same)
      by_id (inr not_id) =
          ap context_under
          (ap (λ (n : Machine). object_of n q) handed_whole
          ∙ elsewhere between to id other idle (Some id) (Some to) stays its_between q not_to not_id
          ∙ ap (λ (n : Machine). object_of n q) between_is
          ∙ elsewhere m from id tcb context None None there its q not_from not_id)

pub with_handed_formed :
    (m : Machine) (from to : ObjId) → IsWellFormed m → context_under (object_of m to) ≡ None → IsWellFormed (with_handed m from to)
unfolding with_handed
with_handed_formed m from to formed free = by_content (object_of m from) refl where
  by_link :
      (tcb : Tcb) (link : Option ObjId) → IsThread m from tcb → tcb.context ≡ link → IsWellFormed (with_handed m from to)
  by_link tcb None there is = rw (there, is) formed
  by_link tcb (Some id) there is =
      let w = formed.links.thread_context from id tcb there is in
      rw (there, is) (with_bound_formed (with_unbound m from) id to (with_unbound_formed m from formed)
      (idle_between m from id to tcb w.0 there is w.1 free) (free_between m from id to tcb w.0 there is w.1 free))

  by_content : (content : Option Object) → object_of m from ≡ content → IsWellFormed (with_handed m from to)
  by_content (Some (o.Tcb tcb)) e = by_link tcb tcb.context e refl
  by_content None e = rw e formed
  by_content (Some _) e = rw e formed

-- the three calls

pub configure_formed :
    (m : Machine) (caller : ObjId) (control address budget period : ℕ) (next : Machine) → IsWellFormed m
    → ConfigureDone m caller control address budget period next → IsWellFormed next
configure_formed m caller control address budget period next formed done =
    subst IsWellFormed (sym done.changes) (with_share_formed m done.id done.share formed)

pub bind_formed :
    (m : Machine) (caller : ObjId) (context address : ℕ) (next : Machine) → IsWellFormed m
    → BindDone m caller context address next → IsWellFormed next
bind_formed m caller context address next formed done =
    subst IsWellFormed (sym done.changes) (with_bound_formed m done.id done.thread formed done.unbound done.free)

pub without_thread_formed : (m : Machine) (link : Option ObjId) → IsWellFormed m → IsWellFormed (without_thread m link)
without_thread_formed m None formed = formed
without_thread_formed m (Some thread) formed = with_unbound_formed m thread formed

pub unbind_formed :
    (m : Machine) (caller : ObjId) (address : ℕ) (next : Machine) → IsWellFormed m → UnbindDone m caller address next
    → IsWellFormed next
unbind_formed m caller address next formed done =
    subst IsWellFormed (sym done.changes) (without_thread_formed m (thread_on (object_of m done.id)) formed)
