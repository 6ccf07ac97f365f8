-- Links of objects that give authority, each with a state that it takes out of a policy: the boot state of the small system, where the
-- thread's place has another content.
use Rattle.std.{specs.Prelude.{None, Some, option_map}, proofs.Common.{[], ℕ, ◌||◌, ◌∙◌, ◌∷◌, ◌≡◌, ◌≢◌, ap, arith}}
use Rattle.std.proofs.{Common.{false, inl, inr, refl, subst, sym, true}, lemmas.{Bool.false≢true, Option.same_Some}}
use Rattle.base.specs.declared.{ids.ObjId.ObjId, kind.Kind.{Kind, Kind as authority}}
use Rattle.machine.specs.declared.object.{Object.{Object, Object as o}, Reply.Reply}
use Rattle.machine.specs.declared.thread.{Calling.Calling, Lent.Lent, Receiving.Receiving, Sending.Sending, Tcb.Tcb}
use Rattle.machine.specs.Authority.{HasAuthority, HasAuthority.{by_cap, by_link, by_pair, by_root}, label_of, links}
use Rattle.machine.specs.{Layout.{declared_label, initial_of}, Machine.{Machine, object_of, same_id, with_object}}
use Rattle.machine.{specs.{Objects.kind_of_object, WellFormed.kind_of}, proofs.Ids.{at_other, one_or_two}}
use Rattle.machine.proofs.{LookUps.{cap_of-with_object, object_of-with_object, one_id, parent_of-with_object}, RoundLemmas.or_second}
use Rattle.{policy.specs.{Domain.EdgeTest, Policy.is_edge}, integrity.{specs.Confined.IsConfined, proofs.ObjectLabels.same_label}}
use Rattle.verdict.{specs.Counterexamples.TakesOut, proofs.FewLabels.among}
use Rattle.verdict.proofs.{Reasons.{label_there, m, thread_kind, within}, SmallSystem.{id, signalling}, Unsafe.parted}
use Rattle.machine.specs.declared.object.ObjectKind.TheVariants as kind
use Rattle.machine.specs.declared.object.ReplyState.TheVariants as reply
use Rattle.machine.specs.declared.thread.Inbox.TheVariants as inbox
use Rattle.machine.specs.declared.thread.RunState.TheVariants as state

-- the boot state with this content in the thread's place
abbrev changed : Object → Machine
changed object = with_object m (id 1) object

at_one : (object : Object) → object_of (changed object) (id 1) ≡ Some object
at_one object = object_of-with_object m (id 1) object (id 1)

elsewhere : (object : Object) (q : ObjId) → q ≢ id 1 → object_of (changed object) q ≡ object_of m q
elsewhere object q apart = object_of-with_object m (id 1) object q ∙ at_other q (id 1) (Some object) (object_of m q) apart

label_one : (object : Object) → label_of signalling (changed object) (id 1) ≡ Some 0
unfolding signalling initial_of declared_label label_of
label_one object = rw (at_one object) refl

label_was : label_of signalling m (id 1) ≡ Some 0
unfolding signalling initial_of declared_label
label_was = label_there m (id 1) refl

label_two : label_of signalling m (id 2) ≡ Some 2
unfolding signalling initial_of declared_label
label_two = label_there m (id 2) refl

label_node : label_of signalling m (id 0) ≡ Some 1
unfolding signalling initial_of declared_label
label_node = label_there m (id 0) refl

labels_back :
    (object : Object) (q : ObjId) (label : ℕ) → label_of signalling (changed object) q ≡ Some label
    → label_of signalling m q ≡ Some label
labels_back object q label e = elim (one_or_two q (id 1)) [
  | inl is ↦
      subst (λ p. label_of signalling m p ≡ Some label) (sym is)
      (label_was ∙ sym (label_one object) ∙ subst (λ p. label_of signalling (changed object) p ≡ Some label) is e)
  | inr apart ↦ sym (same_label signalling m (changed object) q (elsewhere object q apart)) ∙ e
]

labels_on :
    (object : Object) (q : ObjId) (label : ℕ) → q ≢ id 1 → label_of signalling m q ≡ Some label
    → label_of signalling (changed object) q ≡ Some label
labels_on object q label apart e = same_label signalling m (changed object) q (elsewhere object q apart) ∙ e

node_back :
    (object : Object) → kind_of_object object ≢ kind.CNode → (q : ObjId) → kind_of (changed object) q ≡ Some kind.CNode
    → kind_of m q ≡ Some kind.CNode
node_back object differs q e = elim (one_or_two q (id 1)) [
  | inl is ↦
      absurd
      (differs
      (same_Some (kind_of_object object) kind.CNode
      (sym (ap (option_map kind_of_object) (at_one object)) ∙ subst (λ p. kind_of (changed object) p ≡ Some kind.CNode) is e)))
  | inr apart ↦ sym (ap (option_map kind_of_object) (elsewhere object q apart)) ∙ e
]

thread_back : (object : Object) (q : ObjId) → kind_of (changed object) q ≡ Some kind.Tcb → kind_of m q ≡ Some kind.Tcb
thread_back object q e = elim (one_or_two q (id 1)) [
  | inl is ↦ subst (λ p. kind_of m p ≡ Some kind.Tcb) (sym is) thread_kind
  | inr apart ↦ sym (ap (option_map kind_of_object) (elsewhere object q apart)) ∙ e
]

-- a policy that has these edges too
abbrev HasEdges : EdgeTest → Type 0
HasEdges more = (from : ℕ) (k : Kind) (to : ℕ) → parted from k to ≡ true → more from k to ≡ true

lies_within :
    (object : Object) (allowed : EdgeTest) → kind_of_object object ≢ kind.CNode → HasEdges allowed
    → ((k : Kind) (end : ObjId) (to : ℕ) → links object k end ≡ true → label_of signalling m end ≡ Some to → allowed 0 k to ≡ true)
    → IsConfined signalling allowed (changed object)
lies_within object allowed differs larger given from k to has = by_case has where
  by_case : {from to : ℕ} {k : Kind} → HasAuthority signalling (changed object) from k to → allowed from k to ≡ true
  by_case (by_cap {from} {to} {k} slot held filled node gives source target) =
      larger from k to
      (within from k to
      (by_cap slot held (sym (cap_of-with_object m (id 1) object slot) ∙ filled) (node_back object differs slot.holder node) gives
      (labels_back object slot.holder from source) (labels_back object held.object to target)))
  by_case (by_root {from} {to} slot held filled thread source target) =
      larger from authority.Space to
      (within from authority.Space to
      (by_root slot held (sym (cap_of-with_object m (id 1) object slot) ∙ filled) (thread_back object slot.holder thread)
      (labels_back object slot.holder from source) (labels_back object held.object to target)))
  by_case (by_pair {from} {to} slot parent derived source target) =
      larger from authority.Derive to
      (within from authority.Derive to
      (by_pair slot parent (sym (parent_of-with_object m (id 1) object slot) ∙ derived)
      (labels_back object parent.holder from source) (labels_back object slot.holder to target)))
  by_case (by_link {from} {to} {k} q end content there linked source target) = elim (one_or_two q (id 1)) [
    | inl is ↦
        let same : object ≡ content =
        same_Some object content (sym (at_one object) ∙ subst (λ p. object_of (changed object) p ≡ Some content) is there) in
        let zero : from ≡ 0 =
        same_Some from 0 (sym source ∙ subst (λ p. label_of signalling (changed object) p ≡ Some 0) (sym is) (label_one object)) in
        subst (λ f. allowed f k to ≡ true) (sym zero)
        (given k end to (subst (λ (x : Object). links x k end ≡ true) (sym same) linked) (labels_back object end to target))
    | inr apart ↦
        larger from k to
        (within from k to
        (by_link q end content (sym (elsewhere object q apart) ∙ there) linked (labels_back object q from source)
        (labels_back object end to target)))
  ]

lies_out :
    (object : Object) (allowed : EdgeTest) (k : Kind) (end : ObjId) (to : ℕ) → end ≢ id 1 → label_of signalling m end ≡ Some to
    → links object k end ≡ true → allowed 0 k to ≡ false → IsConfined signalling allowed (changed object) → ⊥
lies_out object allowed k end to apart labelled linked lacks all =
    false≢true
    (sym lacks
    ∙ all 0 k to (by_link (id 1) end object (at_one object) linked (label_one object) (labels_on object end to apart labelled)))

-- the contents

abbrev pub thread : Tcb
thread = record { address = 0x2000; state = state.Ready; inbox = inbox.Empty; context = None }

abbrev pub sending : Sending
sending =
    record {
      endpoint = id 2;
      badge = 0;
      grant = false;
      is_call = false;
      can_reply = true;
      words = 0 ∷ 0 ∷ 0 ∷ 0 ∷ [];
      capability = None;
    }

abbrev pub receiving : Receiving
receiving = record { endpoint = id 2; reply = None; slot = None }

abbrev pub calling : Calling
calling = record { reply = id 2; lent = None }

abbrev pub lent : Lent
lent = record { context = id 0; borrower = id 2 }

abbrev pub answer : Reply
answer = record { address = 0x3100; state = reply.Free }

-- which links they are

no_link : (k : Kind) (end : ObjId) → links (o.Tcb thread) k end ≡ true → ⊥
no_link authority.Runs end e = false≢true e
no_link _ end e = false≢true e

calls_link : (k : Kind) (end : ObjId) → links (o.Tcb (record thread { state = state.Called calling })) k end ≡ true → ⊥
calls_link authority.Runs end e = false≢true e
calls_link _ end e = false≢true e

free_link : (k : Kind) (end : ObjId) → links (o.Reply answer) k end ≡ true → ⊥
free_link authority.Holds end e = false≢true e
free_link _ end e = false≢true e

sends : (k : Kind) (end : ObjId) → links (o.Tcb (record thread { state = state.Sending sending })) k end ≡ true
    → (k ≡ authority.Send) × (same_id (id 2) end ≡ true)
sends authority.Runs end e = absurd (false≢true e)
sends authority.Send end e = (refl, e)
sends authority.Grant end e = absurd (false≢true e)
sends authority.Call end e = absurd (false≢true e)
sends _ end e = absurd (false≢true e)

receives : (k : Kind) (end : ObjId) → links (o.Tcb (record thread { state = state.Receiving receiving })) k end ≡ true
    → (k ≡ authority.Receive) × (same_id (id 2) end ≡ true)
receives authority.Runs end e = absurd (false≢true e)
receives authority.Receive end e = (refl, e)
receives authority.Reply end e = absurd (false≢true e)
receives _ end e = absurd (false≢true e)

-- who is at the notification's place has its label
two_labelled : (end : ObjId) (to : ℕ) → same_id (id 2) end ≡ true → label_of signalling m end ≡ Some to → to ≡ 2
two_labelled end to same e =
    same_Some to 2 (sym e ∙ subst (λ q. label_of signalling m q ≡ Some 2) (one_id (id 2) end same) label_two)

-- the policies

abbrev with_edge : Kind → EdgeTest
with_edge k from kind to = is_edge from kind to (record { from = 0; kind = k; to = 2 }) || parted from kind to

alike : HasEdges parted
alike from k to e = e

more : (kind : Kind) → HasEdges (with_edge kind)
more kind from k to e = or_second (is_edge from k to (record { from = 0; kind = kind; to = 2 })) (parted from k to) e

two_apart : id 2 ≢ id 1
two_apart same = let one : 2 ≡ 1 = ap (λ (q : ObjId). q.0) same in omega (arith, one)

node_apart : id 0 ≢ id 1
node_apart same = let one : 0 ≡ 1 = ap (λ (q : ObjId). q.0) same in omega (arith, one)

not_node : kind.Tcb ≢ kind.CNode
not_node same = cc

reply_not_node : kind.Reply ≢ kind.CNode
reply_not_node same = cc

ready_within : IsConfined signalling parted (changed (o.Tcb thread))
ready_within = lies_within (o.Tcb thread) parted not_node alike (λ k end to e labelled. absurd (no_link k end e))

called_within : IsConfined signalling parted (changed (o.Tcb (record thread { state = state.Called calling })))
called_within =
    lies_within (o.Tcb (record thread { state = state.Called calling })) parted not_node alike
    (λ k end to e labelled. absurd (calls_link k end e))

free_within : IsConfined signalling parted (changed (o.Reply answer))
free_within = lies_within (o.Reply answer) parted reply_not_node alike (λ k end to e labelled. absurd (free_link k end e))

sender_within : IsConfined signalling (with_edge authority.Send) (changed (o.Tcb (record thread { state = state.Sending sending })))
unfolding among
sender_within =
    lies_within (o.Tcb (record thread { state = state.Sending sending })) (with_edge authority.Send) not_node (more authority.Send)
    (λ k end to e labelled.
    let w = sends k end e in
    rw (w.0, two_labelled end to w.1 labelled) refl)

receiver_within :
    IsConfined signalling (with_edge authority.Receive) (changed (o.Tcb (record thread { state = state.Receiving receiving })))
unfolding among
receiver_within =
    lies_within (o.Tcb (record thread { state = state.Receiving receiving })) (with_edge authority.Receive) not_node
    (more authority.Receive)
    (λ k end to e labelled.
    let w = receives k end e in
    rw (w.0, two_labelled end to w.1 labelled) refl)

-- kind by kind

takes_out :
    (lesser greater : Object) (allowed : EdgeTest) (k : Kind) (end : ObjId) (to : ℕ) → IsConfined signalling allowed (changed lesser)
    → end ≢ id 1 → label_of signalling m end ≡ Some to → links greater k end ≡ true → allowed 0 k to ≡ false
    → TakesOut lesser greater
takes_out lesser greater allowed k end to lies apart labelled linked lacks =
    record { t = signalling; allowed = allowed; m = m; id = id 1; within = lies; out = lies_out greater allowed k end to apart labelled linked lacks }

pub runs_counts : TakesOut (o.Tcb thread) (o.Tcb (record thread { context = Some (id 0) }))
unfolding among
runs_counts = takes_out _ _ parted authority.Runs (id 0) 1 ready_within node_apart label_node refl refl

pub lent_counts :
    TakesOut (o.Tcb (record thread { state = state.Called calling }))
    (o.Tcb (record thread { state = state.Called (record calling { lent = Some lent }) }))
unfolding among
lent_counts = takes_out _ _ parted authority.Runs (id 0) 1 called_within node_apart label_node refl refl

pub send_counts : TakesOut (o.Tcb thread) (o.Tcb (record thread { state = state.Sending sending }))
unfolding among
send_counts = takes_out _ _ parted authority.Send (id 2) 2 ready_within two_apart label_two refl refl

pub grant_counts :
    TakesOut (o.Tcb (record thread { state = state.Sending sending }))
    (o.Tcb (record thread { state = state.Sending (record sending { grant = true }) }))
unfolding among
grant_counts = takes_out _ _ (with_edge authority.Send) authority.Grant (id 2) 2 sender_within two_apart label_two refl refl

pub call_counts :
    TakesOut (o.Tcb (record thread { state = state.Sending sending }))
    (o.Tcb (record thread { state = state.Sending (record sending { is_call = true }) }))
unfolding among
call_counts = takes_out _ _ (with_edge authority.Send) authority.Call (id 2) 2 sender_within two_apart label_two refl refl

pub receive_counts : TakesOut (o.Tcb thread) (o.Tcb (record thread { state = state.Receiving receiving }))
unfolding among
receive_counts = takes_out _ _ parted authority.Receive (id 2) 2 ready_within two_apart label_two refl refl

pub reply_counts :
    TakesOut (o.Tcb (record thread { state = state.Receiving receiving }))
    (o.Tcb (record thread { state = state.Receiving (record receiving { reply = Some (id 0) }) }))
unfolding among
reply_counts = takes_out _ _ (with_edge authority.Receive) authority.Reply (id 0) 1 receiver_within node_apart label_node refl refl

pub await_counts : TakesOut (o.Tcb thread) (o.Tcb (record thread { state = state.Waiting (id 2) }))
unfolding among
await_counts = takes_out _ _ parted authority.Await (id 2) 2 ready_within two_apart label_two refl refl

pub waiting_counts : TakesOut (o.Reply answer) (o.Reply (record answer { state = reply.Waiting (id 0) }))
unfolding among
waiting_counts = takes_out _ _ parted authority.Holds (id 0) 1 free_within node_apart label_node refl refl

pub called_counts : TakesOut (o.Reply answer) (o.Reply (record answer { state = reply.Called (id 0) }))
unfolding among
called_counts = takes_out _ _ parted authority.Holds (id 0) 1 free_within node_apart label_node refl refl
