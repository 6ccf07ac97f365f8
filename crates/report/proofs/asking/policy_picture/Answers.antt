use Rattle.{std.proofs.{Common.refl, lemmas.Result.IfOk-weaker}, reach.specs.Extents.limits_by}
use Rattle.report.proofs.asking.policy_picture.Goals as goal

pub returns : goal.returns
returns c =
    IfOk-weaker c.picture_text.result _ _
    (λ text drawn. record {
      limits = limits_by c.args.policy.now c.all.result;
      are_limits = record { test = refl; acts = c.all.ensures };
      so = drawn;
    })
    c.picture_text.ensures
