-- A system that breaks P1 alone and isn't safe: the thread's label has the CNode's label as its space, and no edge of that label.
use Rattle.std.proofs.{Common.{[], ℕ, ◌&&◌, ◌==◌, ◌≡◌, false, lit≤, refl, sym}, lemmas.Bool.false≢true}
use Rattle.base.specs.{declared.kind.Kind.{Kind, TheVariants.{Control, Derive, Holds, Notify, Reset, Runs, Space}}, Kinds.is_structural}
use Rattle.{machine.specs.{Boot.IsBoot, Machine.Machine}, table.proofs.BootState.{boot_state, boot_state_is}}
use Rattle.{policy.specs.{Domain.EdgeTest, Needed.subjects_agree, Policy.allows}, integrity.specs.{Confined.IsConfined, Safe.IsReached}}
use Rattle.verdict.specs.Counterexamples.{HoldsHeadline, UnsafeWithout}
use Rattle.verdict.proofs.{FewLabels.among, SmallSystem.signalling, Unallowed.{after_signal, signal, signal_unallowed, signals}}
use Rattle.verdict.proofs.UnsafeBy.{Needs, needs_by_tests, tests, unsafe_keeping}

abbrev joins : EdgeTest
joins a Space b = a == 0 && b == 1
joins a Runs b = a == 0 && b == 0
joins a Reset b = a == 1 && b == 2
joins a Notify b = a == 1 && b == 2
joins a Derive b = a == 1 && b == 1
joins a k b = false

abbrev pub parted : EdgeTest
parted = among 3 joins

-- what label 0 has is structural
structural : (k : Kind) (to : ℕ) → is_structural k ≡ false → parted 0 k to ≡ false
unfolding among
structural Space to e = absurd (false≢true (sym e))
structural Derive to e = absurd (false≢true (sym e))
structural Runs to e = absurd (false≢true (sym e))
structural Holds to e = absurd (false≢true (sym e))
structural _ to e = refl

runs_on_its_own : parted 0 Runs 2 ≡ false
unfolding among
runs_on_its_own = refl

not_safe : ¬ HoldsHeadline signalling parted
not_safe safe =
    let m = boot_state signalling in
    let boot = boot_state_is signalling in
    let reached : IsReached signalling m = record { boot = m; booted = boot; events = []; outcomes = []; run = refl } in
    signal_unallowed m boot parted structural runs_on_its_own (safe.integrity m (after_signal m boot) signal _ reached (signals m boot))

needs : Needs subjects_agree signalling parted
unfolding signalling tests
needs = needs_by_tests subjects_agree signalling 3 joins (lit≤ tt) refl refl not_safe

pub confined : (m : Machine) → IsBoot signalling m → IsConfined signalling parted m
confined = needs.confined

-- and no label controls another
abbrev pub NoControl : EdgeTest → Type 0
NoControl test = (a b : ℕ) → test a Control b ≡ false

pub unsafe_without_agreeing : (system : UnsafeWithout subjects_agree) × NoControl (allows system.edges)
unfolding among
unsafe_without_agreeing = unsafe_keeping subjects_agree signalling parted NoControl needs (λ a b. refl)

pub unsafe_without_agreeing_subjects : UnsafeWithout subjects_agree
unsafe_without_agreeing_subjects = unsafe_without_agreeing.0
