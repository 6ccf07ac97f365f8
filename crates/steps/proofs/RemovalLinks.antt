-- That links agree after a removal, as a set of threads leaves its queues and replies, and a set of objects is removed.
use Rattle.std.{specs.Prelude.{◌||◌, None, Option, Some, option_map}, proofs.Common.{◌∙◌, ◌≡◌, Bool, ap, cond, false, refl, sym, true}}
use Rattle.{std.proofs.lemmas.Bool.false≢true, base.specs.declared.ids.{ObjId.ObjId, SlotRef.SlotRef}}
use Rattle.machine.specs.declared.object.{Object.{Object, Object as o}, ReplyState.{ReplyState, ReplyState as reply}}
use Rattle.machine.specs.{declared.thread.{RunState.{RunState, RunState as state}, Tcb.Tcb}, Finalising.{aborted, finalised, halted}}
use Rattle.machine.specs.Finalising.{is_aborted, is_halted, is_released, leads_nowhere, leaves, link_after, reply_after, tcb_after, unbound}
use Rattle.machine.specs.{Machine.{Machine, object_of}, Releasing.reply_by, Removal.{removed, vanishes}, WellFormed.{IsIdle, IsThread}}
use Rattle.machine.proofs.{Leaving.Names, RemovalLooks.{object_of-removed, queue_of-removed}, RemovalTable.waits_aborted}
use Rattle.{machine.proofs.RoundLemmas.or_second, steps.proofs.LeavingLinks.{AreReleased, Becomes, Leavers, object_left}}

-- a run state that names a vanished reply is halted
names_halted :
    (vanished : ObjId → Bool) (run : RunState) (id : ObjId) → Names run id → vanished id ≡ true → is_halted vanished run ≡ true
names_halted vanished (state.Receiving receiving) id names gone = ap (leads_nowhere vanished) names ∙ gone
names_halted vanished (state.Called calling) id names gone = ap vanished names ∙ gone
names_halted vanished _ id names gone = absurd names

module _ (m : Machine) (chosen : SlotRef → Bool) where
  abbrev after : Machine
  after = removed m chosen

  abbrev vanished : ObjId → Bool
  vanished = vanishes m chosen

  abbrev pub leavers : Leavers
  leavers = record { goes = vanished; leaves = leaves m vanished; unbinds = vanished; becomes = λ _. tcb_after vanished }

  module _ (thread : ObjId) (tcb : Tcb) (there : IsThread m thread tcb) where
    abbrev halts : Bool
    halts = is_halted vanished tcb.state

    abbrev aborts : Bool
    aborts = is_aborted vanished tcb.state

    abbrev by_ways : Bool → Bool → Tcb
    by_ways h a = unbound vanished (cond h (halted tcb) (cond a (aborted tcb) tcb))

    thread_leaves : (halts || aborts) ≡ true → leaves m vanished thread ≡ true
    thread_leaves e = or_second (vanished thread) (is_released vanished (object_of m thread)) (ap (is_released vanished) there ∙ e)

    becomes_finalised : vanished thread ≡ false → Becomes leavers thread tcb
    becomes_finalised stays =
        record {
          stays = λ e. same halts aborts (sym ways ∙ e);
          idle = λ e. idle halts aborts (sym ways ∙ e);
          context = bound halts aborts ∙ ap (λ b. cond b None (link_after vanished tcb.context)) (sym stays);
        } where
          ways : leaves m vanished thread ≡ (halts || aborts)
          ways = ap (λ b. b || is_released vanished (object_of m thread)) stays ∙ ap (is_released vanished) there

          same : (h a : Bool) → (h || a) ≡ false → (by_ways h a).state ≡ tcb.state
          same true a e = absurd (false≢true (sym e))
          same false true e = absurd (false≢true (sym e))
          same false false e = refl

          idle : (h a : Bool) → (h || a) ≡ true → IsIdle (by_ways h a).state
          idle true a e = tt
          idle false true e = tt
          idle false false e = absurd (false≢true e)

          bound : (h a : Bool) → (by_ways h a).context ≡ link_after vanished tcb.context
          bound true a = refl
          bound false true = refl
          bound false false = refl

  finalised_left :
      (id : ObjId) (object : Option Object) → option_map (finalised m vanished) object ≡ option_map (object_left leavers id) object
  finalised_left id None = refl
  finalised_left id (Some (o.Tcb tcb)) = refl
  finalised_left id (Some (o.Reply holding)) =
      ap (λ (s : ReplyState). Some (o.Reply (record holding { state = s }))) (by_state holding.state) where
        by_state : (run : ReplyState) → reply_after m vanished run ≡ reply_by (leaves m vanished) run
        by_state (reply.Waiting thread) = refl
        by_state (reply.Called thread) = refl
        by_state reply.Free = refl
  finalised_left id (Some (o.Context context)) = refl
  finalised_left id (Some _) = refl

  pub have_left : AreReleased m leavers (removed m chosen)
  have_left =
      record {
        objects =
            λ id.
            object_of-removed m chosen id
            ∙ ap (λ (object : Option Object). cond (vanished id) None object) (finalised_left id (object_of m id));
        queues = queue_of-removed m chosen;
        becomes = becomes_finalised;
        goes = λ thread gone. (ap (λ b. b || is_released vanished (object_of m thread)) gone, gone);
        waits =
            λ thread id tcb there waits gone.
            thread_leaves thread tcb there
            (or_second (is_halted vanished tcb.state) _ (waits_aborted vanished tcb.state id waits gone));
        names =
            λ thread id tcb there names gone.
            thread_leaves thread tcb there
            (ap (λ b. b || is_aborted vanished tcb.state) (names_halted vanished tcb.state id names gone));
      }
