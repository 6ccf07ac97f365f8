-- That the answer is about the labels of the two names.
use Rattle.std.proofs.Common.{◌∙◌, subst, sym}
use Rattle.machine.specs.Layout.{Layout}
use Rattle.report.specs.Shows as shows
use Rattle.report.proofs.showing.shown.Goals as goal

pub returns : goal.returns
returns c =
    let of_actor = sym c.label_named.ensures.label ∙ c.in-Some.is in
    let of_object = sym c.label_named-2.ensures.label ∙ c.in-Some-label_named.is in
    let answer = c.in_ok-run_answer in
    rw (of_actor, of_object) (
      record {
        of_actor = c.in-Some.actor;
        of_object = c.in-Some-label_named.object;
        actor_named = of_actor;
        object_named = of_object;
        shows =
            subst
            (λ (t : Layout). shows.ShowsRun c.args.sought t c.in-Some.actor c.in-Some-label_named.object answer.field-0)
            c.in_ok-reach.ensures.table answer.ensures.right;
      },
      answer.ensures.exit,
    )
