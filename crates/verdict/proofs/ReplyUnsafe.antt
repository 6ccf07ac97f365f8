-- A system that breaks P7 alone and isn't safe: a receiver waits with a reply, which then waits with it.
use Rattle.{std.proofs.Common.{Some, false, lit≤, refl, true}, base.specs.declared.kind.Kind.TheVariants.Holds}
use Rattle.machine.specs.declared.{object.Object.Object as o, thread.{Inbox.Inbox as inbox, RunState.RunState as state}}
use Rattle.machine.specs.{Authority.{HasAuthority, HasAuthority.by_link}, Boot.IsBoot, Machine.Machine}
use Rattle.policy.specs.{Domain.EdgeTest, Needed.reply_holds}
use Rattle.verdict.{specs.Counterexamples.UnsafeWithout, proofs.BootChanges.{changing, label_now, object_now, with_changes}}
use Rattle.verdict.proofs.{FewLabels.among, ReplyRun.{receive_made, received, receiving, waiting}}
use Rattle.verdict.proofs.{ReplySystem.{answers, receiver, serving}, SmallSystem.{id, reading}}
use Rattle.verdict.proofs.UnsafeBy.{LeadsOutside, led_by_one, tests, unsafe_by_tests}
use Rattle.machine.specs.declared.object.ReplyState.TheVariants as reply

-- each label has every edge to each but that
abbrev joins : EdgeTest
joins a Holds b = false
joins a k b = true

-- the reply holds the receiver
outside : (m : Machine) → IsBoot serving m → HasAuthority serving (with_changes m received) 0 Holds 0
unfolding changing reading serving
outside m boot =
    by_link (id 4) (id 1) (answers (reply.Waiting (id 1))) (object_now serving m boot received (id 4)) refl
    (label_now serving m boot received 4 (answers reply.Free) (answers (reply.Waiting (id 1))) refl refl refl)
    (label_now serving m boot received 1 (o.Tcb (receiver state.Ready inbox.Empty (Some (id 2)))) (o.Tcb (waiting (Some (id 2)))) refl refl refl)

leads : (m : Machine) → IsBoot serving m → LeadsOutside serving (among 2 joins) m
unfolding among
leads m boot = led_by_one serving (among 2 joins) m receiving _ (with_changes m received) (receive_made m boot) 0 Holds 0 (outside m boot) refl

pub unsafe_without_holding : UnsafeWithout reply_holds
unfolding serving tests
unsafe_without_holding = unsafe_by_tests reply_holds serving 2 joins (lit≤ tt) refl refl leads
