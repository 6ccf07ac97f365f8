-- The links of a machine whose links agree still agree at both ends where some of its threads were halted, aborted or unbound.
use Rattle.std.proofs.Common.{◌||◌, ◌∙◌, ◌≡◌, Bool, Contains, List, None, Option, Some, ap, cond, false, not, option_map, refl, sym, true}
use Rattle.{std.proofs.lemmas.{Bool.false≢true, List.Elements.{All-contains_itself, All-weaker}}, base.specs.declared.ids.ObjId.ObjId}
use Rattle.machine.specs.declared.object.{Object.{Object, Object as o}, ReplyState.{ReplyState, ReplyState as reply}}
use Rattle.machine.specs.{declared.thread.{RunState.RunState, Tcb.Tcb}, Machine.{Machine, object_of, queue_of}, Releasing.reply_by}
use Rattle.machine.{specs.WellFormed.{IsIdle, IsThread, LinksAgree}, proofs.{Filters.filter_all, Leaving.rest_itself}}
use Rattle.steps.proofs.LeavingLinks.{AreReleased, link_itself, links_left}
use Rattle.removal.proofs.Reached.{IsReached, Reach, has_left, leavers, nobody, object_by, queue_by, state_by, tcb_by}

-- a thread by the ways in which it was reached

by_ways_stays : (h a : Bool) (run : RunState) → (h || a) ≡ false → state_by h a run ≡ run
by_ways_stays true a run e = absurd (false≢true (sym e))
by_ways_stays false true run e = absurd (false≢true (sym e))
by_ways_stays false false run e = refl

by_ways_idle : (h a : Bool) (run : RunState) → (h || a) ≡ true → IsIdle (state_by h a run)
by_ways_idle true a run e = tt
by_ways_idle false true run e = tt
by_ways_idle false false run e = absurd (false≢true e)

module _ (old now : Machine) (reach : Reach) (reached : IsReached old reach now) where
  -- a thread as it is now
  abbrev pub tcb_now : ObjId → Tcb → Tcb
  tcb_now thread tcb = tcb_by (reach.halts thread) (reach.aborts thread) (reach.unbinds thread) tcb

  pub thread_now : (thread : ObjId) (tcb : Tcb) → IsThread old thread tcb → IsThread now thread (tcb_now thread tcb)
  thread_now thread tcb there = reached.objects thread ∙ ap (option_map (object_by reach thread)) there

  pub reached_left : AreReleased old (leavers reach) now
  reached_left =
      record {
        objects = reached.objects;
        queues = reached.queues;
        becomes =
            λ thread tcb there stays.
            record {
              stays = by_ways_stays (reach.halts thread) (reach.aborts thread) tcb.state;
              idle = by_ways_idle (reach.halts thread) (reach.aborts thread) tcb.state;
              context = ap (λ (link : Option ObjId). cond (reach.unbinds thread) None link) (sym (link_itself tcb.context));
            };
        goes = λ thread gone. absurd (false≢true gone);
        waits = λ thread id tcb there waits gone. absurd (false≢true gone);
        names = λ thread id tcb there names gone. absurd (false≢true gone);
      }

  pub links_reached : LinksAgree old → LinksAgree now
  links_reached = links_left old now (leavers reach) reached_left

-- a machine where nobody was reached
pub reached_nobody : (m : Machine) → IsReached m nobody m
reached_nobody m =
    record {
      objects = λ id. sym (by_object id (object_of m id));
      queues = λ id. sym (by_queue (queue_of m id));
      rest = rest_itself m;
    } where
      by_state : (run : ReplyState) → reply_by (has_left nobody) run ≡ run
      by_state (reply.Waiting thread) = refl
      by_state (reply.Called thread) = refl
      by_state reply.Free = refl

      by_object : (id : ObjId) (object : Option Object) → option_map (object_by nobody id) object ≡ object
      by_object id None = refl
      by_object id (Some (o.Tcb tcb)) = refl
      by_object id (Some (o.Reply holding)) =
          ap (λ (s : ReplyState). Some (o.Reply (record holding { state = s }))) (by_state holding.state)
      by_object id (Some (o.Context context)) =
          ap (λ (link : Option ObjId). Some (o.Context (record context { thread = link }))) (link_itself context.thread)
      by_object id (Some _) = refl

      by_queue : (queue : Option (List ObjId)) → option_map (queue_by nobody) queue ≡ queue
      by_queue None = refl
      by_queue (Some threads) =
          ap (λ x. Some x)
          (filter_all (λ thread. not (has_left nobody thread)) threads
          (All-weaker (Contains threads) (λ thread. not (has_left nobody thread) ≡ true) (λ thread within. refl) threads
          (All-contains_itself threads)))
