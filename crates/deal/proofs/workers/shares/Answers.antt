-- Each worker's share was worked, so that each has arrived.
use Rattle.{std.proofs.Common.{Err, IfOk, Ok, Result}, base.specs.Refusals.out_of_memory}
use Rattle.deal.proofs.workers.shares.Goals as goal

if_ok : {T E : Type 0} (r : Result T E) (P : Type 0) → P → IfOk r (λ _. P)
if_ok (Ok x) P holds = holds
if_ok (Err e) P holds = tt

pub returns-clause-arrived : goal.returns-clause-arrived
returns-clause-arrived g c =
    if_ok c.joined.result _ (λ worker below. (c.in-Ok.ensures.each worker (Err out_of_memory) below).1.met.2)
