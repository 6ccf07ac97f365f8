-- Gains of an object are no shrinking: a word, a budget, a member, a capability, a message, a link, memory or a wait.
use Rattle.std.proofs.Common.{◌<◌, ◌∙◌, ◌≡◌, ◌≢◌, ◌≤◌, ◌⊎◌, List, None, Some, ap, arith, inl, inr, length, subst, sym}
use Rattle.{std.proofs.lemmas.Option.{none-some, same_Some}, base.specs.declared.ids.{ObjId.ObjId, SlotRef.SlotRef}}
use Rattle.machine.specs.declared.{cap.Cap.Cap, object.{Context.Context, Notification.Notification, Object.{Object, Object as o}}}
use Rattle.machine.specs.declared.{object.{Reply.Reply, Untyped.Untyped}, thread.{Inbox.Inbox as inbox, RunState.RunState, Tcb.Tcb}}
use Rattle.machine.specs.Machine.{Machine, cap_of, object_of, queue_of, words_of}
use Rattle.integrity.specs.Shrinks.{HasLess, IsBlocked, IsPart, IsPart.{ended, left, stayed}, Lessens, Lessens.as_it_was}
use Rattle.integrity.specs.Shrinks.{Lessens.{freed, released, unbound}, LosesLink, Shrinks, Stops, Stops.{aborted, goes_on, halted}}
use Rattle.integrity.proofs.Shrinking.{same_context, same_reply, same_tcb}
use Rattle.machine.specs.declared.object.ReplyState.TheVariants as reply
use Rattle.machine.specs.declared.thread.RunState.TheVariants as state

same_notification : (a b : Notification) → o.Notification a ≡ o.Notification b → a ≡ b
same_notification a b e = cc

word_lessens : (old new : Notification) → Lessens (o.Notification old) (o.Notification new) → new.pending ≡ old.pending
word_lessens old new (as_it_was same) = ap (λ (x : Notification). x.pending) (same_notification new old same)
word_lessens old new (released was is x y address stops context) = cc
word_lessens old new (freed was is x y address free) = cc
word_lessens old new (unbound was is x y address share thread) = cc

share_lessens : (old new : Context) → Lessens (o.Context old) (o.Context new) → new.share ≡ old.share
share_lessens old new (as_it_was same) = ap (λ (x : Context). x.share) (same_context new old same)
share_lessens old new (released was is x y address stops context) = cc
share_lessens old new (freed was is x y address free) = cc
share_lessens old new (unbound was is x y address share thread) =
    ap (λ (x : Context). x.share) (same_context new is y) ∙ share ∙ ap (λ (x : Context). x.share) (sym (same_context old was x))

inbox_stops : (old new : Tcb) → Stops old new → (new.inbox ≡ old.inbox) ⊎ (new.inbox ≡ inbox.Aborted)
inbox_stops old new (goes_on state kept) = inl kept
inbox_stops old new (aborted blocked state emptied) = inr emptied
inbox_stops old new (halted blocked state kept) = inl kept

inbox_lessens : (old new : Tcb) → Lessens (o.Tcb old) (o.Tcb new) → (new.inbox ≡ old.inbox) ⊎ (new.inbox ≡ inbox.Aborted)
inbox_lessens old new (as_it_was same) = inl (ap (λ (x : Tcb). x.inbox) (same_tcb new old same))
inbox_lessens old new (released was is x y address stops context) =
    rw (same_tcb old was x, same_tcb new is y) (inbox_stops was is stops)
inbox_lessens old new (freed was is x y address free) = cc
inbox_lessens old new (unbound was is x y address share thread) = cc

context_lessens : (old new : Tcb) → Lessens (o.Tcb old) (o.Tcb new) → LosesLink old.context new.context
context_lessens old new (as_it_was same) = inl (ap (λ (x : Tcb). x.context) (same_tcb new old same))
context_lessens old new (released was is x y address stops context) = rw (same_tcb old was x, same_tcb new is y) context
context_lessens old new (freed was is x y address free) = cc
context_lessens old new (unbound was is x y address share thread) = cc

part_shorter : (part all : List ObjId) → IsPart part all → length part ≤ length all
part_shorter part all ended = omega arith
part_shorter part all (stayed more) = let le = part_shorter _ _ more in omega (arith, le)
part_shorter part all (left more) = let le = part_shorter _ _ more in omega (arith, le)

lessened :
    (m next : Machine) (id : ObjId) (old new : Object) → object_of m id ≡ Some old → object_of next id ≡ Some new
    → Shrinks m next id → Lessens old new
lessened m next id old new was is (inl gone) = absurd (none-some new (sym gone ∙ is))
lessened m next id old new was is (inr less) =
    let before : less.old ≡ old = same_Some less.old old (sym less.was ∙ was) in
    let after : less.new ≡ new = same_Some less.new new (sym less.is ∙ is) in
    rw (sym before, sym after) less.content

pub word_grows :
    (m next : Machine) (id : ObjId) (old new : Notification) → object_of m id ≡ Some (o.Notification old)
    → object_of next id ≡ Some (o.Notification new) → new.pending ≢ old.pending → Shrinks m next id → ⊥
word_grows m next id old new was is differ shrinks =
    differ (word_lessens old new (lessened m next id (o.Notification old) (o.Notification new) was is shrinks))

pub budget_grows :
    (m next : Machine) (id : ObjId) (old new : Context) → object_of m id ≡ Some (o.Context old)
    → object_of next id ≡ Some (o.Context new) → new.share ≢ old.share → Shrinks m next id → ⊥
budget_grows m next id old new was is differ shrinks =
    differ (share_lessens old new (lessened m next id (o.Context old) (o.Context new) was is shrinks))

pub queue_grows :
    (m next : Machine) (id : ObjId) (object : Object) (old new : List ObjId) → object_of next id ≡ Some object
    → queue_of m id ≡ Some old → queue_of next id ≡ Some new → length old < length new → Shrinks m next id → ⊥
queue_grows m next id object old new there was is longer (inl gone) = none-some object (sym gone ∙ there)
queue_grows m next id object old new there was is longer (inr less) =
    let before : less.waited ≡ old = same_Some less.waited old (sym less.queue_was ∙ was) in
    let after : less.waiting ≡ new = same_Some less.waiting new (sym less.queue_is ∙ is) in
    let le = part_shorter less.waiting less.waited less.queue in
    let le' : length new ≤ length old = rw (sym before, sym after) le in
    omega (arith, longer, le')

-- a part that is left after shrinking was there before, and has less
left_over :
    (m next : Machine) (id : ObjId) (object : Object) → object_of next id ≡ Some object → Shrinks m next id → HasLess m next id
left_over m next id object there (inl gone) = absurd (none-some object (sym gone ∙ there))
left_over m next id object there (inr less) = less

pub capability_grows :
    (m next : Machine) (slot : SlotRef) (object : Object) (held : Cap) → object_of next slot.holder ≡ Some object
    → cap_of next slot ≡ Some held → cap_of m slot ≢ Some held → Shrinks m next slot.holder → ⊥
capability_grows m next slot object held there is differ shrinks =
    by ((left_over m next slot.holder object there shrinks).slots slot.index)
  where
    by : (cap_of next slot ≡ cap_of m slot) ⊎ (cap_of next slot ≡ None) → ⊥
    by (inl same) = differ (sym same ∙ is)
    by (inr emptied) = none-some held (sym emptied ∙ is)

pub inbox_grows :
    (m next : Machine) (id : ObjId) (old new : Tcb) → object_of m id ≡ Some (o.Tcb old) → object_of next id ≡ Some (o.Tcb new)
    → new.inbox ≢ old.inbox → new.inbox ≢ inbox.Aborted → Shrinks m next id → ⊥
inbox_grows m next id old new was is differ arrived shrinks =
    by (inbox_lessens old new (lessened m next id (o.Tcb old) (o.Tcb new) was is shrinks))
  where
    by : (new.inbox ≡ old.inbox) ⊎ (new.inbox ≡ inbox.Aborted) → ⊥
    by (inl same) = differ same
    by (inr gone) = arrived gone

pub context_grows :
    (m next : Machine) (id context : ObjId) (old new : Tcb) → object_of m id ≡ Some (o.Tcb old)
    → object_of next id ≡ Some (o.Tcb new)
    → new.context ≡ Some context → old.context ≢ Some context → Shrinks m next id → ⊥
context_grows m next id context old new was is gets differ shrinks =
    by (context_lessens old new (lessened m next id (o.Tcb old) (o.Tcb new) was is shrinks))
  where
    by : LosesLink old.context new.context → ⊥
    by (inl same) = differ (sym same ∙ gets)
    by (inr gone) = none-some context (sym gone ∙ gets)

pub memory_grows :
    (m next : Machine) (id : ObjId) (object : Object) → object_of next id ≡ Some object → words_of next id ≢ words_of m id
    → Shrinks m next id → ⊥
memory_grows m next id object there differ shrinks = differ (left_over m next id object there shrinks).words

pub made_grows :
    (m next : Machine) (id : ObjId) (object : Object) → object_of m id ≡ None → object_of next id ≡ Some object
    → Shrinks m next id → ⊥
made_grows m next id object absent there shrinks =
    let less = left_over m next id object there shrinks in none-some less.old (sym absent ∙ less.was)

-- a reply that comes to hold a thread

reply_lessens : (old new : Reply) → Lessens (o.Reply old) (o.Reply new) → (new.state ≡ old.state) ⊎ (new.state ≡ reply.Free)
reply_lessens old new (as_it_was same) = inl (ap (λ (x : Reply). x.state) (same_reply new old same))
reply_lessens old new (released was is x y address stops context) = cc
reply_lessens old new (freed was is x y address free) = inr (ap (λ (x : Reply). x.state) (same_reply new is y) ∙ free)
reply_lessens old new (unbound was is x y address share thread) = cc

pub holding_grows :
    (m next : Machine) (id : ObjId) (old new : Reply) → object_of m id ≡ Some (o.Reply old)
    → object_of next id ≡ Some (o.Reply new) → new.state ≢ old.state → new.state ≢ reply.Free → Shrinks m next id → ⊥
holding_grows m next id old new was is differ held shrinks =
    by (reply_lessens old new (lessened m next id (o.Reply old) (o.Reply new) was is shrinks))
  where
    by : (new.state ≡ old.state) ⊎ (new.state ≡ reply.Free) → ⊥
    by (inl same) = differ same
    by (inr free) = held free

-- a context that gains a thread

thread_lessens : (old new : Context) → Lessens (o.Context old) (o.Context new) → LosesLink old.thread new.thread
thread_lessens old new (as_it_was same) = inl (ap (λ (x : Context). x.thread) (same_context new old same))
thread_lessens old new (released was is x y address stops context) = cc
thread_lessens old new (freed was is x y address free) = cc
thread_lessens old new (unbound was is x y address share thread) =
    inr (ap (λ (x : Context). x.thread) (same_context new is y) ∙ thread)

pub runner_grows :
    (m next : Machine) (id thread : ObjId) (old new : Context) → object_of m id ≡ Some (o.Context old)
    → object_of next id ≡ Some (o.Context new) → new.thread ≡ Some thread → old.thread ≢ Some thread → Shrinks m next id → ⊥
runner_grows m next id thread old new was is gets differ shrinks =
    by (thread_lessens old new (lessened m next id (o.Context old) (o.Context new) was is shrinks))
  where
    by : LosesLink old.thread new.thread → ⊥
    by (inl same) = differ (sym same ∙ gets)
    by (inr gone) = none-some thread (sym gone ∙ gets)

-- memory of which more is taken

same_untyped : (a b : Untyped) → o.Untyped a ≡ o.Untyped b → a ≡ b
same_untyped a b e = cc

mark_lessens : (old new : Untyped) → Lessens (o.Untyped old) (o.Untyped new) → new.watermark ≡ old.watermark
mark_lessens old new (as_it_was same) = ap (λ (x : Untyped). x.watermark) (same_untyped new old same)
mark_lessens old new (released was is x y address stops context) = cc
mark_lessens old new (freed was is x y address free) = cc
mark_lessens old new (unbound was is x y address share thread) = cc

pub mark_grows :
    (m next : Machine) (id : ObjId) (old new : Untyped) → object_of m id ≡ Some (o.Untyped old)
    → object_of next id ≡ Some (o.Untyped new) → new.watermark ≢ old.watermark → Shrinks m next id → ⊥
mark_grows m next id old new was is differ shrinks =
    differ (mark_lessens old new (lessened m next id (o.Untyped old) (o.Untyped new) was is shrinks))

-- a thread whose run state changes, though it wasn't blocked, or that comes to wait

abbrev Rests : RunState → Type 0
Rests run = (run ≡ state.Ready) ⊎ (run ≡ state.Inactive)

state_stops : (old new : Tcb) → Stops old new → (new.state ≡ old.state) ⊎ (IsBlocked old.state × Rests new.state)
state_stops old new (goes_on same kept) = inl same
state_stops old new (aborted blocked ready emptied) = inr (blocked, inl ready)
state_stops old new (halted blocked inactive kept) = inr (blocked, inr inactive)

state_lessens : (old new : Tcb) → Lessens (o.Tcb old) (o.Tcb new) → (new.state ≡ old.state) ⊎ (IsBlocked old.state × Rests new.state)
state_lessens old new (as_it_was same) = inl (ap (λ (x : Tcb). x.state) (same_tcb new old same))
state_lessens old new (released was is x y address stops context) =
    rw (same_tcb old was x, same_tcb new is y) (state_stops was is stops)
state_lessens old new (freed was is x y address free) = cc
state_lessens old new (unbound was is x y address share thread) = cc

pub state_grows :
    (m next : Machine) (id : ObjId) (old new : Tcb) → object_of m id ≡ Some (o.Tcb old) → object_of next id ≡ Some (o.Tcb new)
    → new.state ≢ old.state → ¬ (IsBlocked old.state) → Shrinks m next id → ⊥
state_grows m next id old new was is differ free shrinks =
    by (state_lessens old new (lessened m next id (o.Tcb old) (o.Tcb new) was is shrinks))
  where
    by : (new.state ≡ old.state) ⊎ (IsBlocked old.state × Rests new.state) → ⊥
    by (inl same) = differ same
    by (inr stops) = free stops.0

no_rest : (run : RunState) → IsBlocked run → Rests run → ⊥
no_rest run blocked (inl ready) = subst IsBlocked ready blocked
no_rest run blocked (inr inactive) = subst IsBlocked inactive blocked

pub wait_grows :
    (m next : Machine) (id : ObjId) (old new : Tcb) → object_of m id ≡ Some (o.Tcb old) → object_of next id ≡ Some (o.Tcb new)
    → new.state ≢ old.state → IsBlocked new.state → Shrinks m next id → ⊥
wait_grows m next id old new was is differ waits shrinks =
    by (state_lessens old new (lessened m next id (o.Tcb old) (o.Tcb new) was is shrinks))
  where
    by : (new.state ≡ old.state) ⊎ (IsBlocked old.state × Rests new.state) → ⊥
    by (inl same) = differ same
    by (inr stops) = no_rest new.state waits stops.1
