-- That the table's verdict is one on its boot state, which exists and has the authority that the table declares.
use Rattle.{table.proofs.BootState.{boot_state, boot_state_is}, policy.specs.Policy.allows}
use Rattle.verdict.proofs.BootPlaces.{boot_confined, broken_outside, confined_accepted, confined_unexceeded}
use Rattle.verdict.proofs.BootPlaces.{first_closed, first_outside, least_broken, outside_declared}
use Rattle.verdict.proofs.RuleSets.{accepted_closed, accepted_sharp, none_exceeded, sharply_accepted}
use Rattle.verdict.specs.declared.rules.Rules.TheVariants as rules
use Rattle.verdict.proofs.laws.a_verdict_is_on_the_boot_state.Goals as goal

pub returns-clause-place : goal.returns-clause-place
returns-clause-place c = λ t allowed boot denial place lawful booted. broken_outside t boot lawful booted allowed denial place

pub returns-clause-each : goal.returns-clause-each
returns-clause-each c = λ t allowed boot place lawful booted out.
    let denied = outside_declared t boot lawful booted allowed place out in (denied.0, denied.1)

pub returns-clause-first : goal.returns-clause-first
returns-clause-first c = λ t allowed boot denial place lawful booted is. (
  λ least. (first_closed t allowed denial place is least, first_outside t boot lawful booted allowed denial place is least),
  λ both. least_broken t boot lawful booted allowed denial place is both.0 both.1,
)

pub returns-clause-accepted : goal.returns-clause-accepted
returns-clause-accepted c = λ t edges lawful. (
  λ accepted. (
    accepted_closed t (allows edges) accepted,
    λ boot booted. boot_confined t boot lawful booted (allows edges) (none_exceeded rules.Closed t (allows edges) accepted),
  ),
  λ both.
      let boot = boot_state t in
      let booted = boot_state_is t in
      confined_accepted t boot lawful booted (allows edges) both.0 (both.1 boot booted),
)

pub returns-clause-sharply : goal.returns-clause-sharply
returns-clause-sharply c = λ t edges lawful. (
  λ accepted. (
    accepted_sharp t (allows edges) accepted,
    λ boot booted. boot_confined t boot lawful booted (allows edges) (none_exceeded rules.Sharp t (allows edges) accepted),
  ),
  λ both.
      let boot = boot_state t in
      let booted = boot_state_is t in
      sharply_accepted t (allows edges) both.0 (confined_unexceeded t boot lawful booted (allows edges) (both.1 boot booted)),
)
