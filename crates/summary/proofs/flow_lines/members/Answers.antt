use Rattle.{std.proofs.{Common.ap, lemmas.Iterator.{Consumers.YieldsList-from_first, items_from_collect}}, base.specs.Labels.members_of}
use Rattle.summary.proofs.flow_lines.members.Goals as goal

pub returns : goal.returns
returns c =
    items_from_collect c.collect.result c.collect.ensures.ran
    (YieldsList-from_first (λ x. x) (λ members. members_of members.rest) (members_of c.args.set) (ap members_of c.iter.ensures))
