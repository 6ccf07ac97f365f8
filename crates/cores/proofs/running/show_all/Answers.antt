-- Each turn, one seat more has seen the whole history.
use Rattle.std.proofs.{Common.{◌<◌, ◌∙◌, ◌≡◌, arith, length, slice_index_or, subst, sym}, lemmas.List.{get_or_default, length-set}}
use Rattle.cores.{specs.Seats.{Known, Looks}, proofs.Closing.{done_further, left_further}}
use Rattle.cores.proofs.running.show_all.Goals as goal

pub loop-number-preserved : goal.loop-number-preserved
loop-number-preserved g c =
    let loop = c.loop-number in
    let seats = loop.seats in
    let inside : loop.number < length seats = omega (arith, c.loop-number-test.true, loop.invariant.count) in
    let seat = c.index-seats-number.result in
    let here : (d : Known) → slice_index_or c.args.seats.now loop.number d ≡ slice_index_or seats loop.number seat =
    λ d. sym (loop.invariant.left loop.number d (omega arith)) ∙ get_or_default seats loop.number d seat inside in
    record {
      same = c.look.ensures.same ∙ loop.invariant.same;
      count = length-set seats loop.number c.look.new.seat ∙ loop.invariant.count;
      done =
          done_further (λ before after. Looks before after × (after.seen ≡ c.args.desk.now)) c.args.seats.now seats loop.number c.look.new.seat inside
          loop.invariant.done
          (λ d. (
            subst (λ (k : Known). Looks k c.look.new.seat) (sym (here d)) c.look.ensures.looks,
            c.look.ensures.whole ∙ loop.invariant.same,
          ));
      left = left_further c.args.seats.now seats loop.number c.look.new.seat loop.invariant.left;
    }

pub returns-clause-looks : goal.returns-clause-looks
returns-clause-looks g c i d below = (c.loop-number.invariant.done i d (omega (arith, below, c.loop-number-test.false))).0
