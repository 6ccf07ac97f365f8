-- Each turn deals one seat more.
use Rattle.std.{specs.Prelude.slice_get, proofs.Common.{ℕ, ◌+◌, ◌∙◌, ◌≡◌, List, Some, ap, arith, length, refl, subst, sym}}
use Rattle.{std.proofs.lemmas.{List.length_push, Option.{slice_get_read, slice_get_within}}, atomic_table.specs.Seated.TableId}
use Rattle.cores.specs.{declared.view.{About.About, View.View}, Moves.after_deal}
use Rattle.cores.{specs.Seats.{CanDeal, Known, about_in, new_seat}, proofs.{Seating.each_more, Visiting.Knowing}}
use Rattle.cores.proofs.opened.all_seats.Goals as goal

pub deal-requires-clause-next : goal.deal-requires-clause-next
deal-requires-clause-next c =
    let cores = c.args.cores.now in
    let deals = c.loop-number.invariant.deals in
    let core = c.index-cores-number.result in
    let here : slice_get cores c.loop-number.number ≡ Some core =
    slice_get_read cores (length cores) c.loop-number.number core refl c.loop-number-test.true c.index-cores-number.is in
    record {
      start = deals.start;
      view = deals.view;
      on_core = subst (λ (list : List ℕ). slice_get list c.loop-number.number ≡ Some core) (sym deals.of) here;
    }

pub loop-number-preserved : goal.loop-number-preserved
loop-number-preserved c =
    let loop = c.loop-number in
    let cores = c.args.cores.now in
    let deals = loop.invariant.deals in
    let core = c.index-cores-number.result in
    let here : slice_get cores loop.number ≡ Some core =
    slice_get_read cores (length cores) loop.number core refl c.loop-number-test.true c.index-cores-number.is in
    let me = c.deal.ensures.keeper.1 in
    let seat : TableId → About → Known = λ table start. new_seat table start c.args.name loop.number core in
    record {
      at = (loop.invariant.at.0, c.deal.ensures.keeper.0.0 ∙ loop.invariant.at.1, ap (λ (m : Knowing). m.1) me);
      table = c.deal.ensures.keeper.0.0 ∙ loop.invariant.table;
      deals = record { start = deals.start; of = deals.of; view = ap (λ (m : Knowing). m.0) me ∙ ap after_deal deals.view };
      start = ap (λ (m : Knowing). about_in m.0) me ∙ loop.invariant.start;
      count =
          ap length c.push_reserved.ensures.items ∙ length_push loop.seats.items c.deal.result ∙ ap (λ n. n + 1) loop.invariant.count;
      dealt =
          let old = each_more loop.seats.items c.deal.result loop.number cores
          (λ number core. new_seat c.args.keeper.now.table_id (about_in c.args.keeper.now.me.0) c.args.name number core) core loop.invariant.count here
          (c.deal.ensures.seat ∙ ap (λ table. seat table (about_in loop.keeper.me.0)) loop.invariant.table
          ∙ ap (seat c.args.keeper.now.table_id) loop.invariant.start)
          loop.invariant.dealt in
          rw c.push_reserved.ensures.items old;
      room = omega arith;
    }

pub returns-clause-seats : goal.returns-clause-seats
returns-clause-seats c =
    let loop = c.loop-number in
    let cores = c.args.cores.now in
    let first = c.requires.first in
    let start = about_in c.args.keeper.now.me.0 in
    let of : start.cores ≡ cores = ap (λ (v : View). (about_in v).cores) first.view ∙ first.of in
    let all : loop.number ≡ length cores = omega (arith, c.loop-number-test.false, loop.auto.number-end) in
    record {
      count = loop.invariant.count ∙ all ∙ ap length (sym of);
      each =
          λ number core at.
          let here : slice_get cores number ≡ Some core = subst (λ (list : List ℕ). slice_get list number ≡ Some core) of at in
          loop.invariant.dealt number core (omega (arith, all, slice_get_within cores number core here)) here;
    }

pub returns-clause-dealt : goal.returns-clause-dealt
returns-clause-dealt c =
    let loop = c.loop-number in
    let all : loop.number ≡ length c.args.cores.now = omega (arith, c.loop-number-test.false, loop.auto.number-end) in
    (subst (CanDeal loop.keeper.me.0 c.args.cores.now) all loop.invariant.deals, loop.invariant.start)
