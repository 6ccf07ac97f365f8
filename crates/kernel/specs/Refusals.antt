-- Refusals of a call that takes memory which come whatever the memory (confine's own).
use Rattle.{std.specs.Prelude.{Bool, None, Option}, base.specs.declared.refusal.Refusal.Refusal}
use Rattle.{machine.specs.{declared.call.Event.Event, Machine.Machine, Step.{made_by, takes_memory}}, untyped.specs.Making.refusal_in}

-- the refusal that a call that takes memory gets in any case; none for other calls
abbrev pub lasting_refusal : Machine → Event → Option Refusal
lasting_refusal m event = by (takes_memory event.call) where
  by : Bool → Option Refusal
  by Bool.true = refusal_in (made_by m event)
  by Bool.false = None
