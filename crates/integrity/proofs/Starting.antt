-- The boot state of a lawful table: it is sound, threads whose labels may not act sleep, and no reply holds a caller.
use Rattle.machine.specs.{Boot.IsBoot, Layout.Layout, Machine.Machine, WellFormed.IsWellFormed}
use Rattle.{table.specs.Rules.IsLawful, policy.specs.Domain.EdgeTest}
use Rattle.integrity.{specs.Confined.IsConfined, proofs.AtBoot.{boot_asleep, boot_borrowers, boot_idlers}}
use Rattle.integrity.proofs.{AtBoot.{boot_nodes, boot_of_table, boot_served}, Runs.StartsKept}

pub starts_kept :
    (t : Layout) (allowed : EdgeTest) → ((boot : Machine) → IsLawful t → IsBoot t boot → IsWellFormed boot) → IsLawful t
    → ((boot : Machine) → IsBoot t boot → IsConfined t allowed boot) → StartsKept t allowed
starts_kept t allowed formed lawful confined boot booted = (
  record {
    well_formed = formed boot lawful booted;
    of_table = boot_of_table t boot lawful booted;
    confined = confined boot booted;
    nodes = boot_nodes t allowed boot booted;
    idlers = boot_idlers t allowed boot lawful booted;
    borrowers = boot_borrowers t allowed boot lawful booted;
  },
  boot_asleep t allowed boot lawful booted,
  boot_served t allowed boot lawful booted,
)
