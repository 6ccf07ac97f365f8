-- Conditions in order: the first that fails is the answer.
use Rattle.{std.specs.Prelude.{Err, Ok, Result}, base.specs.declared.refusal.Cause.Cause}

-- the next condition, if this one holds
abbrev pub ◌>>=◌ : {A B : Type 0} → Result A Cause → (A → Result B Cause) → Result B Cause
◌>>=◌ (Ok a) then_do = then_do a
◌>>=◌ (Err cause) then_do = Err cause
