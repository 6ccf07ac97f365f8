-- A chain that goes through none of the set's labels goes through none of the list's.
use Rattle.{std.proofs.Common.{refl, subst}, reach.specs.Extents.limits_of, flows.specs.Flowing.{FilterTest, FlowLeads}}
use Rattle.claims.proofs.deciding.through_failure.Goals as goal

pub returns-clause-some : goal.returns-clause-some
returns-clause-some c = (
  refl,
  subst (λ (filters : FilterTest). FlowLeads (limits_of c.args.flows.now) filters c.args.from c.args.to) (λ i l. c.set.ensures l i)
      (c.goes_through.ensures.leads c.if-goes_through.false),
)
