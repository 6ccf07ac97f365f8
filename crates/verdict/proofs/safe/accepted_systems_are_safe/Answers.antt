-- An accepted policy is closed, and has all authority of the boot state.
use Rattle.{policy.specs.Policy.allows, verdict.proofs.{BootPlaces.boot_confined, RuleSets.{accepted_closed, none_exceeded}}}
use Rattle.verdict.specs.declared.rules.Rules.TheVariants as rules
use Rattle.verdict.proofs.safe.accepted_systems_are_safe.Goals as goal

pub returns : goal.returns
returns c = λ t edges lawful accepted.
    c.confined_systems_are_safe.ensures t (allows edges) lawful (accepted_closed t (allows edges) accepted)
    (λ boot booted. boot_confined t boot lawful booted (allows edges) (none_exceeded rules.Closed t (allows edges) accepted))
