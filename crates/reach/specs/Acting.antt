-- Threads of a table that are ready at boot, objects of which threads can be made, and labels whose threads make calls (confine's own).
use Rattle.std.specs.{Option.option_and_then, Prelude.{ℕ, Bool, None, Option, Some, false, if◌then◌else◌, true}}
use Rattle.base.specs.declared.ids.ObjId.{ObjId}
use Rattle.machine.specs.declared.{object.Object.{Object, Object as o}, thread.RunState.{RunState, RunState as state}}
use Rattle.{machine.specs.Layout.{Layout, initial_of}, policy.specs.Domain.EdgeTest, integrity.specs.Acting.{MayAct, MayHaveThreads}}

-- whether a thread can run, once it has a context
abbrev pub is_ready_state : RunState → Bool
is_ready_state state.Ready = true
is_ready_state _ = false

-- whether an object is a thread that is ready
abbrev pub is_ready : Object → Bool
is_ready (o.Tcb thread) = is_ready_state thread.state
is_ready _ = false

-- whether an object is a thread, or memory of which threads can be made
abbrev pub has_threads : Object → Bool
has_threads (o.Tcb _) = true
has_threads (o.Untyped _) = true
has_threads _ = false

-- the label of an initial thread that is ready
abbrev pub ready_label : Layout → ObjId → Option ℕ
ready_label t id =
    option_and_then (λ initial. if is_ready initial.object then Some initial.label else None) (initial_of t id)

-- a label may act and may have threads: only threads of such labels make calls
abbrev pub IsActor : Layout → EdgeTest → ℕ → Type 0
IsActor t allowed a = MayAct t allowed a × MayHaveThreads t a
