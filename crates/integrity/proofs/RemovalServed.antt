-- Callers that replies hold after a removal: each was held so before, and its label is served as it was.
use Rattle.std.proofs.Common.{◌<◌, ◌∙◌, ◌≡◌, Bool, Some, ap, cond, false, refl, subst, sym, true}
use Rattle.base.specs.declared.ids.{ObjId.ObjId, SlotRef.SlotRef}
use Rattle.machine.specs.declared.object.{Object.{Object, Object as o}, Reply.Reply, ReplyState.{ReplyState, ReplyState as reply}}
use Rattle.machine.specs.{Finalising.{finalised, leaves, reply_after}, Layout.Layout, Machine.Machine, Removal.{removed, vanishes}}
use Rattle.{machine.proofs.{RemovalLooks.next-removed, RemovalStays.object_was}, policy.specs.Domain.EdgeTest}
use Rattle.integrity.{specs.{Awake.CallersAreServed, Invariant.IsSound}, proofs.{RemovalConfined.label_was, Shrinking.same_reply}}

called_was :
    (m : Machine) (vanished : ObjId → Bool) (held : ReplyState) (thread : ObjId) → reply_after m vanished held ≡ reply.Called thread
    → held ≡ reply.Called thread
called_was m vanished reply.Free thread e = e
called_was m vanished (reply.Waiting waiting) thread e = by_left (leaves m vanished waiting) e where
  by_left : (b : Bool) → cond b reply.Free (reply.Waiting waiting) ≡ reply.Called thread → reply.Waiting waiting ≡ reply.Called thread
  by_left true e = cc
  by_left false e = e
called_was m vanished (reply.Called called) thread e = by_left (leaves m vanished called) e where
  by_left : (b : Bool) → cond b reply.Free (reply.Called called) ≡ reply.Called thread → reply.Called called ≡ reply.Called thread
  by_left true e = cc
  by_left false e = e

-- a reply that a thread has called was one that it had called
reply_called_was :
    (m : Machine) (vanished : ObjId → Bool) (object : Object) (now : Reply) (thread : ObjId) → finalised m vanished object ≡ o.Reply now
    → now.state ≡ reply.Called thread → (old : Reply) × (object ≡ o.Reply old) × (old.state ≡ reply.Called thread)
reply_called_was m vanished (o.Reply old) now thread is called = (
  old,
  refl,
  called_was m vanished old.state thread
      (ap (λ (r : Reply). r.state) (same_reply (record old { state = reply_after m vanished old.state }) now is) ∙ called),
)
reply_called_was m vanished _ now thread is called = cc

pub removed_served :
    (t : Layout) (allowed : EdgeTest) (m : Machine) (chosen : SlotRef → Bool) → IsSound t allowed m → CallersAreServed t allowed m
    → CallersAreServed t allowed (removed m chosen)
removed_served t allowed m chosen sound served id now at thread called =
    let was = object_was m chosen id (o.Reply now) at in
    let old = reply_called_was m (vanishes m chosen) was.0 now thread was.3 called in
    let before = served id old.0 (was.1 ∙ ap Some old.1) thread old.2 in (
      subst (λ n. thread.0 < n) (sym (next-removed m chosen)) before.0,
      λ holder caller held calls. before.1 holder caller (label_was t m chosen id holder held) (label_was t m chosen thread caller calls),
    )
