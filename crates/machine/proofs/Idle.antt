-- Idle threads, whose run state waits at nothing and names nothing: they are in no queue, and no reply holds them.
use Rattle.std.{specs.Prelude.{Contains, Some}, proofs.Common.{◌≡◌, ◌≢◌, List, refl, subst}}
use Rattle.base.specs.declared.ids.ObjId.{ObjId}
use Rattle.machine.specs.declared.{object.{Object.Object as o, Reply.Reply}, thread.{RunState.{RunState, RunState as state}, Tcb.Tcb}}
use Rattle.machine.specs.{Finalising.IsHolding, Machine.{Machine, object_of, queue_of}, Releasing.unblocked, WellFormed.IsCallingThrough}
use Rattle.machine.{specs.WellFormed.{IsIdle, IsReceivingWith, IsThread, LinksAgree, WaitsAt}, proofs.{HeldThreads.links_of, Leaving.Names}}

pub idle_waits : (run : RunState) → IsIdle run → (id : ObjId) → ¬ (WaitsAt run id)
idle_waits state.Inactive idle id waits = waits
idle_waits state.Ready idle id waits = waits
idle_waits _ idle id waits = absurd idle

pub idle_names : (run : RunState) → IsIdle run → (id : ObjId) → ¬ (Names run id)
idle_names state.Inactive idle id names = names
idle_names state.Ready idle id names = names
idle_names _ idle id names = absurd idle

pub idle_receives : (run : RunState) → IsIdle run → (id : ObjId) → ¬ (IsReceivingWith run id)
idle_receives state.Inactive idle id receives = receives
idle_receives state.Ready idle id receives = receives
idle_receives _ idle id receives = absurd idle

pub idle_called : (run : RunState) → IsIdle run → (id : ObjId) → ¬ (IsCallingThrough run id)
idle_called state.Inactive idle id called = called
idle_called state.Ready idle id called = called
idle_called _ idle id called = absurd idle

-- an idle thread has nothing to leave
pub idle_stays : (m : Machine) (thread : ObjId) (run : RunState) → IsIdle run → unblocked m thread run ≡ m
idle_stays m thread state.Inactive idle = refl
idle_stays m thread state.Ready idle = refl
idle_stays m thread _ idle = absurd idle

module _ (m : Machine) (links : LinksAgree m) (thread : ObjId) (tcb : Tcb) (there : IsThread m thread tcb)
    (idle : IsIdle tcb.state) where
  pub idle_in_none :
      (id : ObjId) (threads : List ObjId) (other : ObjId) → queue_of m id ≡ Some threads → Contains threads other → other ≢ thread
  idle_in_none id threads other e within same =
      idle_waits tcb.state idle id
      ((links_of m links thread tcb there).queued id threads e (subst (λ (t : ObjId). Contains threads t) same within))

  pub idle_held_by_none :
      (id : ObjId) (holding : Reply) (other : ObjId) → object_of m id ≡ Some (o.Reply holding) → IsHolding holding.state other
      → other ≢ thread
  idle_held_by_none id holding other e is same =
      idle_names tcb.state idle id
      ((links_of m links thread tcb there).held id holding e (subst (λ (t : ObjId). IsHolding holding.state t) same is))
