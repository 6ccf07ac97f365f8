use Rattle.table.proofs.{BootContents.boot-parts, BootFresh.boot-fresh, BootLinks.boot-links, BootNumbers.boot-numbers}
use Rattle.table.proofs.{BootSlots.boot-slots, BootTree.boot-ranked}
use Rattle.table.proofs.boot_law.boot_states_are_well_formed.Goals as goal

pub returns-clause-well_formed : goal.returns-clause-well_formed
returns-clause-well_formed c =
    λ t m lawful boot.
    record {
      slots = boot-slots t m lawful boot;
      parts = boot-parts t m boot;
      links = boot-links t m lawful boot;
      numbers = boot-numbers t m lawful boot;
      settled = boot.going;
    }

pub returns-clause-ranked : goal.returns-clause-ranked
returns-clause-ranked c = boot-ranked

pub returns-clause-fresh : goal.returns-clause-fresh
returns-clause-fresh c = boot-fresh
