use Rattle.{std.proofs.Common.{refl, subst, sym}, machine.specs.declared.call.Outcome.Outcome, kernel.specs.Legal.Follows}
use Rattle.kernel.proofs.replaying.follow.Goals as goal

-- the log claims that memory was lacking
pub returns-then-is_lack-clause-followed : goal.returns-then-is_lack-clause-followed
returns-then-is_lack-clause-followed c =
    subst (λ (told : Outcome). Follows c.args.state.now c.args.event.now told c.args.state.now c.could_lack.result)
    (sym ((c.if-is_lack.ensures.0 refl).1)) c.could_lack.ensures
