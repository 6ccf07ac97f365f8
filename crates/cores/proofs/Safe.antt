-- Legal histories from a boot state: each of their states is reached by a run, so they are safe.
use Rattle.{std.{specs.Prelude.map, proofs.Common.{ℕ, List}}, machine.specs.{Boot.IsBoot, Layout.Layout, Machine.Machine}}
use Rattle.{kernel.specs.Legal.{Entry, IsLogBetween}, policy.specs.Policy.allows}
use Rattle.{integrity.specs.Safe.IsReached, verdict.specs.System.{IsAcceptedSystem, System}}
use Rattle.cores.specs.{declared.view.Noted.Noted, History.{IsLegal, log_of}, Safety.IsSafeHistory}

reached :
    (t : Layout) (boot : Machine) (before : List Noted) (m : Machine) → IsBoot t boot → IsLogBetween boot (log_of before) m → IsReached t m
reached t boot before m booted led =
    record {
      boot = boot;
      booted = booted;
      events = map (λ (entry : Entry). entry.0) (log_of before);
      outcomes = map (λ (entry : Entry). entry.1) (log_of before);
      run = led;
    }

pub seen_is_safe :
    (system : System) (boot : Machine) (cores : List ℕ) (history : List Noted) → IsAcceptedSystem system → IsBoot system.table boot
    → IsLegal boot cores history → IsSafeHistory system.table (allows system.policy) boot history
seen_is_safe system boot cores history accepted booted legal =
    record {
      labelled = λ before after m is led. accepted.safe.labelled m (reached system.table boot before m booted led);
      confined = λ before after m is led. accepted.safe.confined m (reached system.table boot before m booted led);
      integrity =
          λ before after noted m next is led step.
          accepted.safe.integrity m next noted.event noted.outcome (reached system.table boot before m booted led) step;
      narrow =
          λ acts actors before after noted m next is led step.
          accepted.safe.narrow acts actors m next noted.event noted.outcome (reached system.table boot before m booted led) step;
      acting =
          λ before after noted m next is led step.
          accepted.safe.acting m next noted.event noted.outcome (reached system.table boot before m booted led) step;
      budgets =
          λ before after noted m next is led step.
          accepted.safe.budgets m next noted.event noted.outcome (reached system.table boot before m booted led) step;
    }
