use Rattle.{std.proofs.Common.{List, subst}, cores.{specs.Seats.{Closes, Known}, proofs.AllCores.{all_fresh, is_split}}}
use Rattle.cores.proofs.splitting.split_named.Goals as goal

pub all_workers-requires-clause-fresh : goal.all_workers-requires-clause-fresh
all_workers-requires-clause-fresh g c κs within = all_fresh g.J.Naming.ticket c.args.seats.items c.requires.new c.requires.of

pub returns-clause-split : goal.returns-clause-split
returns-clause-split g c =
    let t = g.J.Naming.ticket in
    let state = c.in-Ok-close._state in
    let log = c.in-Ok-close.log.items in
    let closed = c.close.new.seats in (
      state,
      is_split t c.args.events.now c.args.seats.items c.in-Ok.seats.items closed state log
          (record {
            all = c.requires.cores;
            new = c.requires.new;
            below = c.busy_cores-busy.ensures.below;
            room = c.requires.room;
            count = c.in-Ok.ensures.count;
            each = c.in-Ok.ensures.worked;
            closes = subst (λ (seats : List Known). Closes t state log seats closed) c.as_mut_slice.ensures.value c.in-Ok-close.ensures.ok;
          }),
    )
