-- Changes of replies, of threads that call, and of contexts that are handed over: each leaves an object the same in two machines if it
-- was the same before.
use Rattle.std.{specs.Prelude.{None, Option, Some, cond, if◌then◌else◌, option_map}, proofs.Common.{ℕ, ◌∙◌, ◌≡◌, ◌≢◌, Bool, ap}}
use Rattle.{std.proofs.{Common.{false, refl, subst, sym, true}, lemmas.Option.same_Some}, base.specs.declared.ids.ObjId.ObjId}
use Rattle.machine.specs.declared.object.{Context.Context, Object.{Object, Object as o}, ObjectKind.ObjectKind as kind, Reply.Reply}
use Rattle.machine.specs.declared.{object.ReplyState.ReplyState, thread.{Calling.Calling, Lent.Lent, RunState.RunState as state}}
use Rattle.machine.specs.{declared.thread.{Sending.Sending, Tcb.Tcb}, Changes.with_tcb, Finalising.halted, Machine.Machine}
use Rattle.machine.specs.{Machine.{object_of, same_id, with_object}, Objects.kind_of_object, Releasing.{ready, with_called, with_halted}}
use Rattle.machine.specs.{Releasing.{with_holder_halted, with_holding, with_named, with_ready, with_unbound}, Step.Bind.with_bound}
use Rattle.machine.specs.Step.{Bind.{with_handed, without_thread}, Deliver.{answer_through, linked, sent}, Receive.with_reply_ended}
use Rattle.machine.{specs.{Step.Send.with_lent, WellFormed.{IsThread, LinksAgree, kind_of}}, proofs.{Ids.at_other, Leaving.holding_is}}
use Rattle.machine.proofs.{Leaving.{rest-with_object, rest_itself}, LookUps.{object_of-with_object, one_id, queue_of-with_object}}
use Rattle.steps.proofs.{Beside.leaver_now, ContextsFormed.bound_is, FoundObjects.{context_of_kind, tcb_of_kind}}
use Rattle.integrity.{specs.Shrinks.IsSame, proofs.Shrinking.{same_context, same_tcb}}
use Rattle.noninterference.proofs.Carries.{Carries, Turns, carries_along, object_carries, released_carries, tcb_carries, turns_carry}
use Rattle.noninterference.proofs.{Staying.unbound_stays, Unbinding.unbinding_carries}
use Rattle.machine.specs.declared.object.ReplyState.TheVariants as reply

-- nothing changes in either machine
pub carries_itself : (m n : Machine) → Carries m n m n
carries_itself m n q same = same

-- a reply gets this state
abbrev held : ObjId → ReplyState → ObjId → Object → Object
held id holds q (o.Reply answers) = o.Reply (record answers { state = if same_id q id then holds else answers.state })
held id holds q object = object

unheld :
    (id : ObjId) (holds : ReplyState) (q : ObjId) (object : Option Object)
    → ((answers : Reply) → object ≡ Some (o.Reply answers) → same_id q id ≡ true → ⊥) → object ≡ option_map (held id holds q) object
unheld id holds q None differs = refl
unheld id holds q (Some (o.Reply answers)) differs = by_tie (same_id q id) refl where
  by_tie :
      (tie : Bool) → same_id q id ≡ tie
      → Some (o.Reply answers) ≡ Some (o.Reply (record answers { state = if tie then holds else answers.state }))
  by_tie true e = absurd (differs answers refl e)
  by_tie false e = refl
unheld id holds q (Some _) differs = refl

holding_turns : (m : Machine) (id : ObjId) (holds : ReplyState) → Turns m (held id holds) (with_holding m id holds)
unfolding with_holding
holding_turns m id holds = by_content (object_of m id) refl where
  stays : ((answers : Reply) → object_of m id ≢ Some (o.Reply answers)) → Turns m (held id holds) m
  stays none = record {
    objects = λ q.
        unheld id holds q (object_of m q) (λ answers at tie. none answers (ap (object_of m) (sym (one_id q id tie)) ∙ at));
    queues = λ q. refl;
    rest = rest_itself m;
  }

  by_tie :
      (answers : Reply) → object_of m id ≡ Some (o.Reply answers) → (q : ObjId) (tie : Bool) → same_id q id ≡ tie
      → cond tie (Some (o.Reply (record answers { state = holds }))) (object_of m q) ≡ option_map (held id holds q) (object_of m q)
  by_tie answers e q true tie =
      ap (λ test. Some (o.Reply (record answers { state = if test then holds else answers.state }))) (sym tie)
      ∙ ap (option_map (held id holds q)) (sym (ap (object_of m) (one_id q id tie) ∙ e))
  by_tie answers e q false tie = unheld id holds q (object_of m q) (λ other at same. let two = sym tie ∙ same in cc)

  by_content : (object : Option Object) → object_of m id ≡ object → Turns m (held id holds) (with_holding m id holds)
  by_content (Some (o.Reply answers)) e =
      subst (λ (x : Machine). Turns m (held id holds) x) (sym (holding_is m id answers holds e))
      (record {
        objects = λ q. object_of-with_object m id (o.Reply (record answers { state = holds })) q ∙ by_tie answers e q (same_id q id) refl;
        queues = λ q. queue_of-with_object m id (o.Reply (record answers { state = holds })) q;
        rest = rest-with_object m id (o.Reply (record answers { state = holds }));
      })
  by_content None e = rw e (stays (λ answers at. let two = sym e ∙ at in cc))
  by_content (Some _) e = rw e (stays (λ answers at. let two = sym e ∙ at in cc))

pub holding_carries : (m n : Machine) (id : ObjId) (holds : ReplyState) → Carries m n (with_holding m id holds) (with_holding n id holds)
holding_carries m n id holds =
    turns_carry m n _ _ (held id holds) (holding_turns m id holds) (holding_turns n id holds)

pub named_carries :
    (m n : Machine) (named : Option ObjId) (holds : ReplyState) → Carries m n (with_named m named holds) (with_named n named holds)
named_carries m n None holds = carries_itself m n
named_carries m n (Some id) holds = holding_carries m n id holds

-- a thread waits for an answer
module _ (m n : Machine) (thread : ObjId) (old was : Tcb) (there : IsThread m thread old) (here : IsThread n thread was) where
  same_tcbs : IsSame m n thread → was ≡ old
  same_tcbs same = same_tcb was old (same_Some (o.Tcb was) (o.Tcb old) (sym here ∙ same.content ∙ there))

  called_carries : (calling : Calling) → Carries m n (with_called m thread calling) (with_called n thread calling)
  unfolding with_called
  called_carries calling =
      rw (there, here)
      (carries_along m n (with_tcb m thread (record old { state = state.Called calling }))
      (with_tcb n thread (record was { state = state.Called calling })) _ _
      (tcb_carries m n thread old was _ _ there here
      (λ same. ap (λ (tcb : Tcb). record tcb { state = state.Called calling }) (same_tcbs same)))
      (holding_carries (with_tcb m thread (record old { state = state.Called calling }))
      (with_tcb n thread (record was { state = state.Called calling })) calling.reply (reply.Called thread)))

-- a thread is halted, or goes on, in two machines whose links agree
module _ (m n : Machine) (thread : ObjId) (old was : Tcb) (there : IsThread m thread old) (here : IsThread n thread was)
    (links : LinksAgree m) (others : LinksAgree n) where
  pub halted_carries : Carries m n (with_halted m thread) (with_halted n thread)
  halted_carries = released_carries m n thread old was halted links others there here

  pub halts_calls :
      (calling : Calling) → Carries m n (with_called (with_halted m thread) thread calling) (with_called (with_halted n thread) thread calling)
  halts_calls calling =
      carries_along m n (with_halted m thread) (with_halted n thread) _ _ halted_carries
      (called_carries (with_halted m thread) (with_halted n thread) thread (halted old) (halted was)
      (leaver_now m thread old halted links there) (leaver_now n thread was halted others here) calling)

  -- a thread whose call was delivered waits for the answer, or can't run
  linked_carries : (through : Option ObjId) → Carries m n (linked m thread through) (linked n thread through)
  linked_carries None = halted_carries
  linked_carries (Some id) = halts_calls (record { reply = id; lent = None })

  pub sent_carries :
      (sending : Sending) (named : Option ObjId) → Carries m n (sent m thread sending named) (sent n thread sending named)
  sent_carries sending named = by_call sending.is_call where
    by_call :
        (is_call : Bool)
        → Carries m n (if is_call then linked m thread (answer_through sending named) else with_ready m thread)
        (if is_call then linked n thread (answer_through sending named) else with_ready n thread)
    by_call true = linked_carries (answer_through sending named)
    by_call false = released_carries m n thread old was ready links others there here

-- the thread that a reply holds is halted, if the reply is the same in both
module _ (m n : Machine) (links : LinksAgree m) (others : LinksAgree n) where
  holder_carries : (id : ObjId) → IsSame m n id → Carries m n (with_holder_halted m id) (with_holder_halted n id)
  unfolding with_holder_halted
  holder_carries id same = by_content (object_of m id) refl where
    by_state :
        (address : ℕ) (holds : ReplyState) → object_of m id ≡ Some (o.Reply (record { address = address; state = holds }))
        → object_of n id ≡ Some (o.Reply (record { address = address; state = holds }))
        → Carries m n (with_holder_halted m id) (with_holder_halted n id)
    by_state address reply.Free there here = rw (there, here) (carries_itself m n)
    by_state address (reply.Waiting thread) there here =
        let one = links.waiting_reply id thread address there in
        let other = others.waiting_reply id thread address here in
        rw (there, here) (halted_carries m n thread one.0 other.0 one.1 other.1 links others)
    by_state address (reply.Called thread) there here =
        let one = links.reply_called id thread address there in
        let other = others.reply_called id thread address here in
        rw (there, here) (halted_carries m n thread one.0 other.0 one.1 other.1 links others)

    by_content : (object : Option Object) → object_of m id ≡ object → Carries m n (with_holder_halted m id) (with_holder_halted n id)
    by_content (Some (o.Reply answers)) e = by_state answers.address answers.state e (same.content ∙ e)
    by_content None e = let f = same.content ∙ e in rw (e, f) (carries_itself m n)
    by_content (Some _) e = let f = same.content ∙ e in rw (e, f) (carries_itself m n)

  pub ended_carries :
      (named : Option ObjId) → ((id : ObjId) → named ≡ Some id → IsSame m n id)
      → Carries m n (with_reply_ended m named) (with_reply_ended n named)
  ended_carries None same = carries_itself m n
  ended_carries (Some id) same = holder_carries id (same id refl)

-- a thread gets a context to run on
bound_carries :
    (m n : Machine) (id thread : ObjId) (context its : Context) (old was : Tcb) → object_of m id ≡ Some (o.Context context)
    → object_of n id ≡ Some (o.Context its) → IsThread m thread old → IsThread n thread was
    → Carries m n (with_bound m id thread) (with_bound n id thread)
bound_carries m n id thread context its old was on too there here =
    subst (λ (x : Machine). Carries m n x (with_bound n id thread)) (sym (bound_is m id thread context old on there))
    (subst
    (λ (x : Machine).
    Carries m n
    (with_object (with_object m thread (o.Tcb (record old { context = Some id }))) id (o.Context (record context { thread = Some thread }))) x)
    (sym (bound_is n id thread its was too here))
    (carries_along m n (with_object m thread (o.Tcb (record old { context = Some id })))
    (with_object n thread (o.Tcb (record was { context = Some id }))) _ _
    (object_carries m n thread _ _
    (λ same. ap (λ (tcb : Tcb). o.Tcb (record tcb { context = Some id })) (same_tcbs m n thread old was there here same)))
    (object_carries _ _ id _ _
    (λ same.
    ap (λ (c : Context). o.Context (record c { thread = Some thread }))
    (same_context its context
    (same_Some (o.Context its) (o.Context context) (sym (beside n was its too here) ∙ same.content ∙ beside m old context on there)))))))
  where
    beside :
        (x : Machine) (tcb : Tcb) (c : Context) → object_of x id ≡ Some (o.Context c) → IsThread x thread tcb
        → object_of (with_object x thread (o.Tcb (record tcb { context = Some id }))) id ≡ Some (o.Context c)
    beside x tcb c at is =
        object_of-with_object x thread _ id
        ∙ at_other id thread _ (object_of x id) (λ same. let two = sym at ∙ ap (object_of x) same ∙ is in cc) ∙ at

-- the context of a thread that is the same in both goes over to another thread
module _
    (m n : Machine) (from to : ObjId) (tcb : Tcb) (links : LinksAgree m) (others : LinksAgree n) (there : IsThread m from tcb)
    (here : IsThread n from tcb) (one : kind_of m to ≡ Some kind.Tcb) (other : kind_of n to ≡ Some kind.Tcb) where
  unbound_carries : (id : ObjId) → tcb.context ≡ Some id → Carries m n (with_unbound m from) (with_unbound n from)
  unbound_carries id on =
      let context = links.thread_context from id tcb there on in
      let its = others.thread_context from id tcb here on in
      subst (λ (link : Option ObjId). Carries m n (without_thread m link) (with_unbound n from)) context.2
      (subst (λ (link : Option ObjId). Carries m n (without_thread m context.0.thread) (without_thread n link)) its.2
      (unbinding_carries m n id context.0 its.0 links others context.1 its.1))

  goes_over :
      (id : ObjId) → tcb.context ≡ Some id
      → Carries m n (with_bound (with_unbound m from) id to) (with_bound (with_unbound n from) id to)
  goes_over id on =
      let context = links.thread_context from id tcb there on in
      let its = others.thread_context from id tcb here on in
      let mid = with_unbound m from in
      let half = with_unbound n from in
      let stays = unbound_stays m from in
      let stay = unbound_stays n from in
      let a = context_of_kind (object_of mid id) (stays.kinds id ∙ ap (option_map kind_of_object) context.1) in
      let b = context_of_kind (object_of half id) (stay.kinds id ∙ ap (option_map kind_of_object) its.1) in
      let c = tcb_of_kind (object_of mid to) (stays.kinds to ∙ one) in
      let d = tcb_of_kind (object_of half to) (stay.kinds to ∙ other) in
      carries_along m n mid half _ _ (unbound_carries id on) (bound_carries mid half id to a.0 b.0 c.0 d.0 a.1 b.1 c.1 d.1)

  pub handed_carries : Carries m n (with_handed m from to) (with_handed n from to)
  unfolding with_handed
  handed_carries = by_link tcb.context refl where
    by_link : (link : Option ObjId) → tcb.context ≡ link → Carries m n (with_handed m from to) (with_handed n from to)
    by_link None on = rw (there, here, on) (carries_itself m n)
    by_link (Some id) on = rw (there, here, on) (goes_over id on)

  pub lent_carries :
      (lent : Option Lent) → ((loan : Lent) → lent ≡ Some loan → loan.borrower ≡ to)
      → Carries m n (with_lent m from lent) (with_lent n from lent)
  lent_carries None is = carries_itself m n
  lent_carries (Some loan) is =
      subst (λ (q : ObjId). Carries m n (with_handed m from q) (with_handed n from q)) (sym (is loan refl)) handed_carries
