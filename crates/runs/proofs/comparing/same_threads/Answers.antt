use Rattle.{std.proofs.Common.{IsTrue, rules, subst, sym}, runs.proofs.Equalities.{Tells, members_same, same_by_members}}
use Rattle.base.specs.contracts.ids.ObjIdPartialEq.TheImpl as id_equal
use Rattle.runs.proofs.comparing.same_threads.Goals as goal

id_tells : Tells id_equal.eq-value.it
id_tells a b = search rules

pub returns : goal.returns
returns c = (
  λ h. same_by_members id_equal.eq-value.it id_tells c.args.is.now c.args.was.now (subst IsTrue c.eq.ensures h),
  λ same. subst IsTrue (sym c.eq.ensures) (members_same id_equal.eq-value.it id_tells c.args.is.now c.args.was.now same),
)
