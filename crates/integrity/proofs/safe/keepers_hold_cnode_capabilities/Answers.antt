-- Keepers alone hold capabilities for CNodes, in every state of a run.
use Rattle.{std.proofs.Common.ℕ, machine.specs.Layout.Layout, policy.specs.Domain.EdgeTest}
use Rattle.integrity.specs.Keeping.{HoldsNode, MayKeep, MayKeep.{finds, handed, holds}}
use Rattle.integrity.proofs.{Held.held_of, Reach.found_keeps, Runs.sound_at, Starting.starts_kept}
use Rattle.integrity.proofs.safe.keepers_hold_cnode_capabilities.Goals as goal

pub returns-clause-holds : goal.returns-clause-holds
returns-clause-holds c = λ t allowed lawful sharp confined m reached.
    (sound_at t allowed sharp (starts_kept t allowed (c.boot_states_are_well_formed.ensures.well_formed t) lawful confined) m reached).nodes

pub returns-clause-finds : goal.returns-clause-finds
returns-clause-finds c = λ t allowed lawful sharp confined m thread address node a reached found labelled.
    let sound =
    sound_at t allowed sharp (starts_kept t allowed (c.boot_states_are_well_formed.ensures.well_formed t) lawful confined) m reached in
    found_keeps t allowed m (held_of t allowed m sound) sharp.uses_rise a thread address found.slot found.left found.held labelled
    found.found found.filled found.is_of

-- there are no keepers if no label holds a capability for a CNode at boot
nobody : (t : Layout) (allowed : EdgeTest) → ((a : ℕ) → ¬ HoldsNode t a) → (a : ℕ) → MayKeep t allowed a → ⊥
nobody t allowed none a (holds has) = none a has
nobody t allowed none a (finds keeps there) = nobody t allowed none _ keeps
nobody t allowed none a (handed keeps there) = nobody t allowed none _ keeps

pub returns-clause-none : goal.returns-clause-none
returns-clause-none c = λ t allowed none a keeps. nobody t allowed none a keeps
