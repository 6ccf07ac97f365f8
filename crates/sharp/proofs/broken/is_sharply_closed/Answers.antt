use Rattle.std.{specs.{Option.is_some, Prelude.IsTrue}, proofs.Common.{◌↔◌, ◌≡◌, Bool, None, Option, Some, false, not, refl, sym, true}}
use Rattle.base.specs.Labels.{is_in}
use Rattle.policy.specs.{Domain.EdgeTest, Places.FindsLeast, Policy.allows, Sharp.{IsSharplyClosed, Keepers, Told}}
use Rattle.sharp.specs.{declared.broken.SharpBroken.SharpBroken, Broken.{IsSharplyBrokenAt, sharp_place}}
use Rattle.sharp.proofs.Unbroken.{sharply_closed_if, unbroken}
use Rattle.sharp.proofs.broken.is_sharply_closed.Goals as goal
use mathlib.Core.Bool.{false≢true}

-- no place is found exactly if no rule is broken
decides :
    (test : EdgeTest) (Keeps : Keepers) (found : Option SharpBroken) (none : Bool) → is_some found ≡ not none
    → FindsLeast sharp_place (IsSharplyBrokenAt test Keeps) found → IsTrue none ↔ IsSharplyClosed test Keeps
decides test Keeps None true is nobody = (λ e. sharply_closed_if test Keeps nobody, λ closed. refl)
decides test Keeps None false is nobody = absurd (false≢true is)
decides test Keeps (Some place) true is least = absurd (false≢true (sym is))
decides test Keeps (Some place) false is least = (λ e. absurd (false≢true e), λ closed. absurd (unbroken test Keeps closed place least.has))

pub returns : goal.returns
returns c =
    decides (allows c.args.policy.now) (Told (is_in c.args.keeping)) c.first_broken.result c.is_none.result c.is_none.ensures
    c.first_broken.ensures
