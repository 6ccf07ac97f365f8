-- A policy that is accepted by the sharp rules is sharply closed, and has all authority of the boot state.
use Rattle.{policy.specs.Policy.allows, verdict.proofs.{BootPlaces.boot_confined, RuleSets.{accepted_sharp, none_exceeded}}}
use Rattle.verdict.specs.declared.rules.Rules.TheVariants as rules
use Rattle.verdict.proofs.safe.sharply_accepted_systems_are_safe.Goals as goal

pub returns : goal.returns
returns c = λ t edges lawful accepted.
    c.sharply_confined_systems_are_safe.ensures.keepers t (allows edges) lawful (accepted_sharp t (allows edges) accepted)
    (λ boot booted. boot_confined t boot lawful booted (allows edges) (none_exceeded rules.Sharp t (allows edges) accepted))
