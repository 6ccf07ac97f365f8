use mathlib.Core.Bool.{false≢true}
use Rattle.{std.proofs.Common.{Bool, IsTrue, false, not, refl, true}, runs.proofs.Seen.{same_by_sights, sights_by_same}}
use Rattle.runs.proofs.comparing.differs.Goals as goal

other_truth : (b : Bool) → IsTrue (not b) → ¬ (IsTrue b)
other_truth true denied given = false≢true denied
other_truth false denied given = false≢true given

untrue : (b : Bool) → ¬ (IsTrue b) → IsTrue (not b)
untrue true denied = absurd (denied refl)
untrue false denied = refl

pub returns : goal.returns
returns c m next id g h = (
  λ yes same.
      other_truth c.are_alike.result yes
      (c.are_alike.ensures.1 (sights_by_same m next id c.args.was.now c.args.is.now g h same)),
  λ apart.
      untrue c.are_alike.result
      (λ alike. apart (same_by_sights m next id c.args.was.now c.args.is.now g h (c.are_alike.ensures.0 alike))),
)
