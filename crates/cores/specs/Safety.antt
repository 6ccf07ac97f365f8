-- A history that stays within a policy, state by state and step by step ('seL4 Enforces Integrity', sections 4 and 5, authority confinement
-- and integrity, of a history in place of a run).
use Rattle.std.specs.Prelude.{ℕ, ◌++◌, ◌∷◌, ◌≡◌, ◌⊎◌, List, Some}
use Rattle.base.specs.declared.ids.ObjId.{ObjId}
use Rattle.machine.specs.{declared.object.Object.Object, Authority.label_of, Layout.Layout, Machine.{Machine, object_of}}
use Rattle.{machine.specs.{Outcomes.IsRefused, Step.Step}, kernel.specs.Legal.IsLogBetween, policy.specs.{Change.ActorTest, Domain.EdgeTest}}
use Rattle.integrity.specs.{Acting.{HoldsOfActors, MayAct}, Allowed.IsAllowedStep, Altered.IsNarrowStep, Budgets.KeepsBudgets}
use Rattle.{integrity.specs.Confined.IsConfined, cores.specs.{declared.view.Noted.Noted, History.log_of}}

-- each state on it, after any of its beginnings, is confined, and its objects have labels; each step on it is allowed, keeps to the
-- bounds and the budgets, and is refused or is of a thread whose label may act
pub record IsSafeHistory (t : Layout) (allowed : EdgeTest) (boot : Machine) (history : List Noted) : Type 0 where
  pub labelled :
      (before after : List Noted) (m : Machine) → history ≡ before ++ after → IsLogBetween boot (log_of before) m
      → (id : ObjId) (object : Object) → object_of m id ≡ Some object → (label : ℕ) × (label_of t m id ≡ Some label)
  pub confined :
      (before after : List Noted) (m : Machine) → history ≡ before ++ after → IsLogBetween boot (log_of before) m → IsConfined t allowed m
  pub integrity :
      (before after : List Noted) (noted : Noted) (m next : Machine) → history ≡ before ++ noted ∷ after
      → IsLogBetween boot (log_of before) m → Step m noted.event noted.outcome next → IsAllowedStep t allowed m noted.event next
  pub narrow :
      (acts : ActorTest) → HoldsOfActors t allowed acts
      → (before after : List Noted) (noted : Noted) (m next : Machine) → history ≡ before ++ noted ∷ after
      → IsLogBetween boot (log_of before) m → Step m noted.event noted.outcome next → IsNarrowStep t allowed acts m noted.event next
  pub acting :
      (before after : List Noted) (noted : Noted) (m next : Machine) → history ≡ before ++ noted ∷ after
      → IsLogBetween boot (log_of before) m → Step m noted.event noted.outcome next
      → IsRefused noted.outcome ⊎ ((a : ℕ) × (label_of t m noted.event.thread ≡ Some a) × MayAct t allowed a)
  pub budgets :
      (before after : List Noted) (noted : Noted) (m next : Machine) → history ≡ before ++ noted ∷ after
      → IsLogBetween boot (log_of before) m → Step m noted.event noted.outcome next → KeepsBudgets t allowed m noted.event next
