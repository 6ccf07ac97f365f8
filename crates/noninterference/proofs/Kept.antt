-- Machines that a run reaches: threads whose labels may not act sleep, and each caller that a reply holds is served.
use Rattle.machine.specs.{Boot.IsBoot, Layout.Layout, Machine.Machine, WellFormed.IsWellFormed}
use Rattle.{table.specs.Rules.IsLawful, policy.specs.Domain.EdgeTest}
use Rattle.integrity.specs.{Invariant.IsSound, Keeping.IsSharp, Safe.IsReached}
use Rattle.{integrity.proofs.{Runs.{IsKept, kept_at, sound_at}, Starting.starts_kept}, reach.specs.Reach.HasBootAuthority}

module _
    (t : Layout) (allowed : EdgeTest) (lawful : IsLawful t) (sharp : IsSharp t allowed)
    (boots : HasBootAuthority t allowed) (formed : (boot : Machine) → IsLawful t → IsBoot t boot → IsWellFormed boot) where
  pub sound_of : (m : Machine) → IsReached t m → IsSound t allowed m
  sound_of = sound_at t allowed sharp (starts_kept t allowed formed lawful boots)

  pub kept_of : (m : Machine) → IsReached t m → IsKept t allowed m
  kept_of = kept_at t allowed sharp (starts_kept t allowed formed lawful boots)
