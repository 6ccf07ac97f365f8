-- Each turn finds one way more, without the labels of those before.
use Rattle.std.{specs.Option.MatchOption, proofs.Common.{◌≡◌, arith, subst}}
use Rattle.base.specs.Labels.{is_in}
use Rattle.flows.{specs.{Stages.AreBetween, Ways.Way}, proofs.Staging.{ArePacked, all_packed, more_packed, too_many}}
use Rattle.flows.proofs.searching.useful.Goals as goal

pub loop-count-preserved : goal.loop-count-preserved
loop-count-preserved c =
    let rows = c.args.rows.now in
    let from = c.args.question.now.from in
    let to = c.args.question.now.to in
    let set = c.loop-count.set in
    more_packed rows from to c.args.stage.now c.requires.stage set c.loop-count.count c.loop-count.invariant c.in-Some.between
    (subst (λ found. MatchOption found (¬ Way rows (is_in set) from to) (AreBetween rows (is_in set) from to)) c.in-Some.is c.in_ok-between.ensures)
    c.union-set.result c.union-set.ensures

pub returns-in-Some-2 : goal.returns-in-Some-2
returns-in-Some-2 c =
    let rows = c.args.rows.now in
    let from = c.args.question.now.from in
    let to = c.args.question.now.to in
    let set = c.loop-count.set in
    let all : c.loop-count.count ≡ c.args.stage.now.room = omega arith in
    too_many rows from to c.args.stage.now c.requires.stage set (subst (ArePacked rows from to c.args.stage.now set) all c.loop-count.invariant)
    c.in-Some-2.field-0
    (subst (λ found. MatchOption found (¬ Way rows (is_in set) from to) (AreBetween rows (is_in set) from to)) c.in-Some-2.is c.in_ok-way.ensures)

pub returns-in-None : goal.returns-in-None
returns-in-None c =
    let rows = c.args.rows.now in
    let from = c.args.question.now.from in
    let to = c.args.question.now.to in
    let set = c.loop-count.set in
    let all : c.loop-count.count ≡ c.args.stage.now.room = omega arith in
    all_packed rows from to c.args.stage.now c.requires.stage set (subst (ArePacked rows from to c.args.stage.now set) all c.loop-count.invariant)
    (subst (λ found. MatchOption found (¬ Way rows (is_in set) from to) (AreBetween rows (is_in set) from to)) c.in-None.is c.in_ok-way.ensures)
    c.intersection-in-None.result c.intersection-in-None.ensures
