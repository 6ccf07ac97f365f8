-- That the answer is by the reach of the table.
use Rattle.{std.proofs.{Common.{ℕ, refl, subst}, lemmas.Result.IfOk-weaker}, machine.specs.Layout.Layout}
use Rattle.report.proofs.showing.run_answer.Goals as goal
use Rattle.report.specs.Shows as shows

pub returns-clause-right : goal.returns-clause-right
returns-clause-right c =
    let reach = c.args.reach.now in
    let question = shows.question_of c.args.sought c.args.actor c.args.object in
    let bound = c.extent-bound.result in
    IfOk-weaker c.bounded_answer.result _ _
    (λ answer told. record {
      reach = reach;
      is_reach = record { of_table = refl; is = c.bounds_runs.ensures.reach };
      bound = bound;
      goes = c.extent-bound.ensures.extent;
      kept = c.extent-bound.ensures.kept;
      told =
          subst (λ (most : ℕ). shows.TellsRun reach.table question bound most answer) c.most_calls.ensures
          (subst (λ (t : Layout). shows.TellsRun t question bound c.most_calls.result answer) c.table.ensures told);
    })
    c.bounded_answer.ensures.told
