use Rattle.{base.specs.Labels.is_in, policy.specs.{Policy.allows, Sharp.Told}, sharp.proofs.AskedSets.{given_asked, missing_told}}
use Rattle.sharp.proofs.asked.missing.Goals as goal

pub returns-in-Derive : goal.returns-in-Derive
returns-in-Derive c =
    missing_told (allows c.args.policy.now) (Told (is_in c.args.keeping)) (Told (is_in c.args.sharing)) c.args.from c.args.kind _ _ _
    c.row-there.ensures c.difference.ensures (rw c.in-Derive.is c.derived.ensures)

pub returns-in-Runs : goal.returns-in-Runs
returns-in-Runs c =
    missing_told (allows c.args.policy.now) (Told (is_in c.args.keeping)) (Told (is_in c.args.sharing)) c.args.from c.args.kind _ _ _
    c.row-there.ensures c.difference-in-Runs.ensures (rw c.in-Runs.is c.run.ensures)

pub returns-in-Holds : goal.returns-in-Holds
returns-in-Holds c =
    missing_told (allows c.args.policy.now) (Told (is_in c.args.keeping)) (Told (is_in c.args.sharing)) c.args.from c.args.kind _ _ _
    c.row-there.ensures c.difference-in-Holds.ensures (rw c.in-Holds.is c.held.ensures)

pub returns-in_default : goal.returns-in_default
returns-in_default c =
    let test = allows c.args.policy.now in
    let keeps = Told (is_in c.args.keeping) in
    let shares = Told (is_in c.args.sharing) in
    missing_told test keeps shares c.args.from c.args.kind _ _ _ c.row-there.ensures c.difference-in_default.ensures
    (given_asked test keeps shares c.args.from c.args.kind _ c.in_default.not-Derive c.in_default.not-Runs c.in_default.not-Holds c.given.ensures)
