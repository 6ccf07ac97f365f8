use Rattle.policy.{specs.Policy.allows, proofs.ClosingSets.{contexts_missing, either_missing, given_missing}}
use Rattle.policy.proofs.closing.missing.Goals as goal

pub returns-in-Derive : goal.returns-in-Derive
returns-in-Derive c =
    rw c.in-Derive.is (either_missing _ _ _ _ _ _ c.not_derived_in_domain.ensures c.not_derived.ensures c.union.ensures)

pub returns-in-Runs : goal.returns-in-Runs
returns-in-Runs c =
    let unbound = contexts_missing (allows c.args.policy.now) c.args.from _ _ _ c.row.ensures c.row-in-Runs.ensures c.difference.ensures in
    rw c.in-Runs.is (either_missing _ _ _ _ _ _ unbound c.not_lent.ensures c.union-in-Runs.ensures)

pub returns-in-Holds : goal.returns-in-Holds
returns-in-Holds c = rw c.in-Holds.is c.not_held.ensures

pub returns-in_default : goal.returns-in_default
returns-in_default c =
    given_missing (allows c.args.policy.now) c.args.from c.args.kind _ _ _ c.in_default.not-Derive c.in_default.not-Runs c.in_default.not-Holds
    c.given.ensures c.row-in_default.ensures c.difference-in_default.ensures
