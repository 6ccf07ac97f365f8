-- That the explanation is by the reach of the table.
use Rattle.std.proofs.Common.{◌∙◌, arith, sym}
use Rattle.report.proofs.asking.explained.Goals as goal

pub returns : goal.returns
returns c =
    let of_actor = sym c.label_named.ensures.label ∙ c.in-Some.is in
    let of_object = sym c.label_named-2.ensures.label ∙ c.in-Some-label_named.is in
    let plain = c.plain.ensures.plain in
    rw (of_actor, of_object) (
      record {
        so = rw plain.text (record {
          reach = c.in_ok-reach.reach;
          is_reach = c.in_ok-reach.ensures.reach;
          kept = c.in_ok-reach.ensures.kept;
          so = record {
            of_actor = c.in-Some.actor;
            of_object = c.in-Some-label_named.object;
            actor_named = of_actor;
            object_named = of_object;
            authority = c.in_ok-why.why;
            is_why = c.in_ok-why.ensures;
            told = c.in_ok-told.ensures;
          };
        });
        status = plain.status;
        bare = plain.bare;
      },
      omega (arith, plain.status),
    )
