-- The plan of a retype whose conditions are met, and the machine after it.
use Rattle.std.specs.Prelude.{ℕ, ◌+◌, ◌<◌, ◌^◌, ◌≡◌, ◌≤◌, Err, IsSome, None, Ok, Option, Result, Some}
use Rattle.base.specs.declared.{limits.TheConstants.{ADDRESS_END, MAX_MADE, OBJECT_NUMBERS}, refusal.{Cause.Cause, Refusal.Refusal}}
use Rattle.base.specs.Refusals.{refusal_of}
use Rattle.machine.specs.declared.{call.{Answer.TheVariants.Count, Made.{Made, TheVariants.Done}}, object.Object.Object as o}
use Rattle.machine.specs.{Machine.{Machine, cap_of, object_of}, Memory.with_all_made, Step.Retype.sized}
use Rattle.untyped.specs.{declared.making.Making.Making, Shown.source_shown, Windows.{IsFreeWindow, slots_of}}

-- the machine with the objects and their capabilities
abbrev pub with_making : Machine → Making → Machine
with_making m making = with_all_made m (source_shown making.source) making.kind making.bits (slots_of making.window)

-- the memory exists, but for its watermark, with a capability; the slots are free; sizes and numbers are within their limits
pub record CanBeMade (m : Machine) (making : Making) : Type 0 where
  pub sized : sized making.kind making.bits ≡ Ok tt
  pub some : 0 < making.window.count
  pub few : making.window.count ≤ MAX_MADE
  pub numbers : m.next + making.window.count ≤ OBJECT_NUMBERS
  pub was : ℕ
  pub there : object_of m making.source.id ≡ Some (o.Untyped (record making.source.memory { watermark = was }))
  pub below : making.source.id.0 < m.next
  pub mark : making.source.memory.watermark ≤ ADDRESS_END
  pub held : IsSome (cap_of m making.source.slot)
  pub node : making.window.node.0 < m.next
  pub ends : making.window.offset + making.window.count < 2 ^ 64
  pub free : IsFreeWindow m making.window

-- the result of a call with this plan, or this cause to refuse
abbrev pub planned : Machine → Result Making Cause → Result (Made × Machine) Cause
planned m (Ok making) = Ok (Done (Count making.window.count), with_making m making)
planned m (Err cause) = Err cause

-- the refusal of a call, if it isn't made
abbrev pub refusal_in : Result (Made × Machine) Cause → Option Refusal
refusal_in (Ok made) = None
refusal_in (Err cause) = Some (refusal_of cause)
