-- That the explanation is by the policy, with each label as one that acts.
use Rattle.std.proofs.Common.{◌∙◌, arith, refl, sym}
use Rattle.reach.specs.Extents.{limits_by}
use Rattle.report.proofs.asking.explained_by.Goals as goal

pub returns : goal.returns
returns c =
    let of_actor = sym c.label_named.ensures.label ∙ c.in-Some.is in
    let of_object = sym c.label_named-2.ensures.label ∙ c.in-Some-label_named.is in
    let plain = c.plain.ensures.plain in
    rw (of_actor, of_object) (
      record {
        so = rw plain.text (record {
          limits = limits_by c.args.policy.now c.all.result;
          are_limits = record { test = refl; acts = c.all.ensures };
          so = record {
            of_actor = c.in-Some.actor;
            of_object = c.in-Some-label_named.object;
            actor_named = of_actor;
            object_named = of_object;
            authority = c.in_ok-why.why;
            is_why = c.in_ok-why.ensures;
            told = c.in_ok-told.ensures;
          };
        });
        status = plain.status;
        bare = plain.bare;
      },
      omega (arith, plain.status),
    )
