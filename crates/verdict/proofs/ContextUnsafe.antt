-- A system that breaks P6 alone and isn't safe: its thread binds the context of another label to a second thread.
use Rattle.std.proofs.Common.{[], ◌∷◌, ◌≡◌, List, None, Ok, Some, lit≤, refl}
use Rattle.base.specs.declared.kind.Kind.TheVariants.{Runs}
use Rattle.machine.specs.declared.call.{Answer.TheVariants.Nothing, Call.TheVariants.Bind, Event.Event, Made.TheVariants.Done}
use Rattle.machine.specs.declared.{call.Outcome.Outcome as outcome, object.ObjectKind.ObjectKind as kind}
use Rattle.machine.specs.{Authority.{HasAuthority, HasAuthority.by_link}, Boot.IsBoot, Changes.{with_context, with_tcb}, Machine.Machine}
use Rattle.{machine.specs.Step.{Bind.{bind_of, with_bound}, Find.find, step_of}, policy.specs.Needed.context_runs}
use Rattle.verdict.{specs.Counterexamples.UnsafeWithout, proofs.BootChanges.{Change, becomes, changing, label_now, object_now}}
use Rattle.verdict.proofs.{BootChanges.with_changes, ContextSystem.{binding, joins, second, second_cap, spare, spare_cap}}
use Rattle.verdict.proofs.{FewLabels.among, SmallSystem.{finding, id, reading, slot, stepping}}
use Rattle.verdict.proofs.UnsafeBy.{LeadsOutside, led_by_one, tests, unsafe_by_tests}

unfoldable pub binds : Event
binds = record { core = 0; thread = id 1; call = Bind 0 1 }

-- the second thread names its context, and the context the thread

abbrev named : List Change
named = becomes 4 (second (Some (id 3))) ∷ []

abbrev bound : List Change
bound = becomes 3 (spare (Some (id 4))) ∷ named

module _ (m : Machine) (boot : IsBoot binding m) where
  finds : find kind.Context m (id 1) 0 ≡ Ok (slot 0 0, spare_cap)
  unfolding binding finding reading
  finds = rw (boot.objects (id 1), boot.caps (slot 1 0), boot.objects (id 0), boot.caps (slot 0 0)) refl

  finds_thread : find kind.Tcb m (id 1) 1 ≡ Ok (slot 0 1, second_cap)
  unfolding binding finding reading
  finds_thread = rw (boot.objects (id 1), boot.caps (slot 1 0), boot.objects (id 0), boot.caps (slot 0 1)) refl

  binds_both : with_bound m (id 3) (id 4) ≡ with_changes m bound
  unfolding binding changing reading with_bound with_changes with_context with_tcb
  binds_both =
      rw (boot.objects (id 3), boot.objects (id 4), boot.objects (id 4), object_now binding m boot named (id 3)) refl

  made_bind : bind_of m (id 1) 0 1 ≡ Ok (Done Nothing, with_changes m bound)
  unfolding bind_of binding reading
  made_bind = rw (finds, finds_thread, boot.objects (id 3), boot.objects (id 4), binds_both) refl

  made : step_of m binds ≡ (outcome.Done Nothing, with_changes m bound)
  unfolding binding binds reading stepping
  made = rw (boot.objects (id 1), boot.objects (id 2), made_bind) refl

  -- the second thread runs on the context
  outside : HasAuthority binding (with_changes m bound) 0 Runs 1
  unfolding binding changing reading
  outside =
      by_link (id 4) (id 3) (second (Some (id 3))) (object_now binding m boot bound (id 4)) refl
      (label_now binding m boot bound 4 (second None) (second (Some (id 3))) refl refl refl)
      (label_now binding m boot bound 3 (spare None) (spare (Some (id 4))) refl refl refl)

leads : (m : Machine) → IsBoot binding m → LeadsOutside binding (among 2 joins) m
unfolding among
leads m boot = led_by_one binding (among 2 joins) m binds _ (with_changes m bound) (made m boot) 0 Runs 1 (outside m boot) refl

pub unsafe_without_running : UnsafeWithout context_runs
unfolding binding tests
unsafe_without_running = unsafe_by_tests context_runs binding 2 joins (lit≤ tt) refl refl leads
