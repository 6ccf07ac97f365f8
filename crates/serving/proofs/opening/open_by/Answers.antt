use Rattle.std.proofs.Common.{refl}
use Rattle.serving.proofs.opening.open_by.Goals as goal

pub returns-clause-opened : goal.returns-clause-opened
returns-clause-opened g c = record {
  given = c.opener.result;
  by_name = record { shown = _; shows = refl; says = record { met = c.opener.ensures } };
  is = c.open_result.ensures;
}
