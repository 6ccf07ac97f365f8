use Rattle.{policy.specs.Policy.allows, verdict.proofs.BindingPlaces.NothingBroken}
use Rattle.verdict.proofs.bindings.first_binding.Given as goal

abbrev pub invariant-loop-binding : goal.invariant-loop-binding
invariant-loop-binding l = NothingBroken l.table (allows l.policy) l.binding-index
