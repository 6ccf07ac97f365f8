-- A context that a thread gives back as it answers may be handed over to the called thread.
use Rattle.std.{specs.Prelude.{None, Option, Some, option_map}, proofs.{Common.{◌∙◌, ◌≡◌, ◌≢◌, refl, sym, true}, lemmas.Option.none-some}}
use Rattle.base.specs.declared.ids.ObjId.{ObjId}
use Rattle.machine.specs.declared.{object.{Object.{Object, Object as o}, ObjectKind.ObjectKind as kind}, thread.Lent.Lent}
use Rattle.machine.specs.{Machine.{Machine, object_of}, Objects.kind_of_object, Step.{Bind.context_under, Reply.{gives_back, loan_in}}}
use Rattle.{machine.specs.WellFormed.kind_of, steps.proofs.Lending.{GivesBack, gives_back_is}}

-- a lender is a thread
lender_is : (content : Option Object) (lent : Lent) → loan_in content ≡ Some lent → option_map kind_of_object content ≡ Some kind.Tcb
lender_is (Some (o.Tcb tcb)) lent e = refl
lender_is None lent e = absurd (none-some lent e)
lender_is (Some _) lent e = absurd (none-some lent e)

module _ (m : Machine) (invoker called : ObjId) (gives : gives_back m invoker called ≡ true) where
  given : GivesBack m invoker called
  given = gives_back_is m invoker called gives

  pub invoker_runs : context_under (object_of m invoker) ≢ None
  invoker_runs none = none-some given.context (sym none ∙ given.runs)

  pub called_there : kind_of m called ≡ Some kind.Tcb
  called_there = lender_is (object_of m called) _ given.lent

  pub called_free : context_under (object_of m called) ≡ None
  called_free = given.free
