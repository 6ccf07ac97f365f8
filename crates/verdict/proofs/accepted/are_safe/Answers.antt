use Rattle.verdict.proofs.accepted.are_safe.Goals as goal

pub returns : goal.returns
returns c =
    c.accepted_systems_are_safe.ensures c.args.table.now c.args.policy.now c.keeps_rules.ensures c.requires
