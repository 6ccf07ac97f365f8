-- That the flows are by the reach of the table.
use Rattle.std.proofs.Common.{◌∙◌, arith, sym}
use Rattle.report.proofs.flowing.flows_told.Goals as goal

pub returns : goal.returns
returns c =
    let of_from = sym c.label_named.ensures.label ∙ c.in-Some.is in
    let of_to = sym c.label_named-2.ensures.label ∙ c.in-Some-label_named.is in
    let plain = c.plain.ensures.plain in
    rw (of_from, of_to) (
      record {
        so = rw plain.text (record {
          of_from = c.in-Some.from;
          of_to = c.in-Some-label_named.to;
          from_named = of_from;
          to_named = of_to;
          reach = c.in_ok-reach.reach;
          is_reach = record { of_table = c.in_ok-reach.ensures.table; is = c.in_ok-reach.ensures.reach };
          told = c.in_ok-flow_text.ensures;
        });
        status = plain.status;
        bare = plain.bare;
      },
      omega (arith, plain.status),
    )
