-- Ends of a call in two machines: it is refused for the same cause in both, or made alike.
use Rattle.std.{specs.Prelude.{Err, Ok, Result}, proofs.Common.{◌∙◌, ◌≡◌, ap, refl, subst, sym}}
use Rattle.base.specs.{declared.refusal.Cause.Cause, Refusals.refusal_of}
use Rattle.machine.specs.{declared.call.{Made.Made, Outcome.TheVariants.Refused}, Machine.Machine}
use Rattle.{machine.specs.{Outcomes.outcome_of, Refusing.◌>>=◌, Step.settled}, noninterference.specs.Alike.KeepsAlike}

-- both calls have the same answer, and what is alike before is the same after
abbrev pub AreMadeAlike : Machine → Machine → Made × Machine → Made × Machine → Type 0
AreMadeAlike m n one other = (other.0 ≡ one.0) × KeepsAlike m n one.1 other.1

-- refused for the same cause, or made alike
abbrev pub EndsAlike : Machine → Machine → Result (Made × Machine) Cause → Result (Made × Machine) Cause → Type 0
EndsAlike m n (Ok one) (Ok other) = AreMadeAlike m n one other
EndsAlike m n (Err one) (Err other) = other ≡ one
EndsAlike m n _ _ = ⊥

-- a condition that is the same in both, and what follows if it holds
pub follows_alike :
    {A : Type 0} (m n : Machine) (r s : Result A Cause) (then_do do_too : A → Result (Made × Machine) Cause) → s ≡ r
    → ((x : A) → r ≡ Ok x → EndsAlike m n (then_do x) (do_too x)) → EndsAlike m n (◌>>=◌ r then_do) (◌>>=◌ s do_too)
follows_alike {A} m n r s then_do do_too same rest =
    subst (λ (x : Result A Cause). EndsAlike m n (◌>>=◌ r then_do) (◌>>=◌ x do_too)) (sym same) (by_result r rest)
  where
    by_result :
        (x : Result A Cause) → ((y : A) → x ≡ Ok y → EndsAlike m n (then_do y) (do_too y))
        → EndsAlike m n (◌>>=◌ x then_do) (◌>>=◌ x do_too)
    by_result (Ok y) rest = rest y refl
    by_result (Err cause) rest = refl

-- conditions that are the same in both have the same result
pub follows_same :
    {A B : Type 0} (r s : Result A Cause) (then_do do_too : A → Result B Cause) → s ≡ r → ((x : A) → r ≡ Ok x → do_too x ≡ then_do x)
    → ◌>>=◌ s do_too ≡ ◌>>=◌ r then_do
follows_same {A} r s then_do do_too same rest = ap (λ (x : Result A Cause). ◌>>=◌ x do_too) same ∙ by_result r rest where
  by_result : (x : Result A Cause) → ((y : A) → x ≡ Ok y → do_too y ≡ then_do y) → ◌>>=◌ x do_too ≡ ◌>>=◌ x then_do
  by_result (Ok y) rest = rest y refl
  by_result (Err cause) rest = refl

pub settled_alike :
    (m n : Machine) (r s : Result (Made × Machine) Cause) → EndsAlike m n r s
    → ((settled n s).0 ≡ (settled m r).0) × KeepsAlike m n (settled m r).1 (settled n s).1
settled_alike m n (Ok one) (Ok other) alike = (ap outcome_of alike.0, alike.1)
settled_alike m n (Err one) (Err other) alike = (ap (λ cause. Refused (refusal_of cause)) alike, λ id before. before.same)
settled_alike m n (Ok one) (Err other) alike = absurd alike
settled_alike m n (Err one) (Ok other) alike = absurd alike
