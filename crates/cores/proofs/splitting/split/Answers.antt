use Rattle.{std.proofs.lemmas.Result.IfOk-weaker, machine.specs.{Boot.IsBoot, Machine.Machine}, cores.specs.SplitRun.IsSplitRun}
use Rattle.cores.proofs.splitting.split.Goals as goal

pub returns-clause-split : goal.returns-clause-split
returns-clause-split g c =
    let boot = c.in_ok-opened.opened.boot in
    let events = c.args.events.now in
    IfOk-weaker c.split_named.result (λ log. (last : Machine) × IsSplitRun boot events log.items last)
    (λ log. (boot : Machine) × (last : Machine) × IsBoot c.args.accepted.now.table boot × IsSplitRun boot events log.items last)
    (λ log ran. (boot, ran.0, c.in_ok-opened.ensures.opened.0, ran.1))
    c.split_named.ensures.split
