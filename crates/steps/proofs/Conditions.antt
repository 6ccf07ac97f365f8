-- That conditions tested one after another were all met, if the last result is a value.
use Rattle.std.{specs.Prelude.{Err, Ok, Result}, proofs.Common.{◌≡◌, refl}}
use Rattle.{base.specs.declared.refusal.Cause.Cause, machine.specs.Refusing.◌>>=◌}

pub same_ok : {A : Type 0} {a b : A} → ◌≡◌ {A = Result A Cause} (Ok a) (Ok b) → a ≡ b
same_ok e = cc

pub both_done :
    {A B : Type 0} (r : Result A Cause) (then_do : A → Result B Cause) (b : B) → ◌>>=◌ r then_do ≡ Ok b
    → (a : A) × (r ≡ Ok a) × (then_do a ≡ Ok b)
both_done (Ok a) then_do b e = (a, refl, e)
both_done (Err cause) then_do b e = cc
