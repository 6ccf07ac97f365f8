-- Ends of calls: made, with an answer or blocked, or refused (seL4 manual, "Errors"; the outcomes are confine's own).
use Rattle.base.specs.{declared.refusal.Refusal.Refusal, Refusals.{out_of_memory, refusal_of}}
use Rattle.machine.specs.declared.call.{Made.Made, Outcome.{Outcome, TheVariants.{Blocked, Done, Refused}}, Unmade.Unmade}
use Rattle.machine.specs.declared.call.Made.TheVariants as made
use Rattle.machine.specs.declared.call.Unmade.{Unmade as unmade}

abbrev pub outcome_of : Made → Outcome
outcome_of (made.Done answer) = Done answer
outcome_of made.Blocked = Blocked

abbrev pub IsRefused : Outcome → Type 0
IsRefused (Refused _) = Unit {0}
IsRefused _ = ⊥

abbrev pub unmade_refusal : Unmade → Refusal
unmade_refusal (unmade.Refused cause) = refusal_of cause
unmade_refusal unmade.OutOfMemory = out_of_memory
