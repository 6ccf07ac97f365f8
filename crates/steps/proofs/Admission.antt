-- That an admitted caller is a thread of the machine and ready.
use Rattle.std.{specs.Prelude.{Ok, Option, Some}, proofs.Common.{ℕ, ◌≡◌, Bool, arith, false, refl, true}}
use Rattle.base.specs.declared.ids.ObjId.{ObjId}
use Rattle.machine.specs.declared.{object.{Object.{Object, Object as o}, Share.Share}, thread.RunState.{RunState, RunState as state}}
use Rattle.machine.specs.{declared.thread.Tcb.Tcb, Machine.{Machine, object_of}, Step.{admitted, is_ready, running_share, thread_in}}
pub use Rattle.machine.specs.WellFormed.{IsCaller}
use Rattle.steps.proofs.Conditions.{both_done}

thread_there :
    (object : Option Object) (thread : Tcb) → thread_in object ≡ Ok thread → object ≡ Some (o.Tcb thread)
thread_there (Some (o.Tcb tcb)) thread e = cc
thread_there _ thread e = cc

is_ready_so : (run : RunState) → is_ready run ≡ true → run ≡ state.Ready
is_ready_so state.Ready e = refl
is_ready_so _ e = cc

runs_ready : (m : Machine) (thread : Tcb) (share : Share) → running_share m thread ≡ Ok share → thread.state ≡ state.Ready
runs_ready m thread share e = is_ready_so thread.state (by_test (is_ready thread.state) refl) where
  by_test : (ready : Bool) → is_ready thread.state ≡ ready → is_ready thread.state ≡ true
  by_test true q = q
  by_test false q = grind (arith, e, q)

pub admits :
    (m : Machine) (core : ℕ) (caller : ObjId) (share : Share) → admitted m core caller ≡ Ok share → IsCaller m caller
unfolding admitted
admits m core caller share e =
    let found = both_done (thread_in (object_of m caller)) _ share e in
    let runs = both_done (running_share m found.0) _ share found.2 in
    record {
      thread = found.0;
      there = thread_there (object_of m caller) found.0 found.1;
      ready = runs_ready m found.0 runs.0 runs.1;
    }
