use Rattle.captext.proofs.DraftLaws.{placed}
use Rattle.captext.proofs.drafts.add_edge.Goals as goal

pub returns-in-Ok-clause-added : goal.returns-in-Ok-clause-added
returns-in-Ok-clause-added c =
    placed c.args.policy.now c.add.new.self c.args.edge c.edges_rise.ensures.rising c.add.ensures.rising c.in-Ok.ensures.added
