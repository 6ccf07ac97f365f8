-- That the users are by the reach of the table.
use Rattle.std.proofs.Common.{◌∙◌, arith, sym}
use Rattle.report.proofs.using.users_told.Goals as goal

pub returns : goal.returns
returns c =
    let of_object = sym c.label_named.ensures.label ∙ c.in-Some.is in
    let plain = c.plain.ensures.plain in
    rw of_object (
      record {
        so = rw plain.text (record {
          of_object = c.in-Some.object;
          object_named = of_object;
          reach = c.in_ok-reach.reach;
          is_reach = c.in_ok-reach.ensures.reach;
          kept = c.in_ok-reach.ensures.kept;
          told = c.in_ok-users_text.ensures;
        });
        status = plain.status;
        bare = plain.bare;
      },
      omega (arith, plain.status),
    )
