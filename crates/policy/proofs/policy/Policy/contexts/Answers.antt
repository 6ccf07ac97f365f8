use Rattle.{std.proofs.Common.{inl, inr}, base.specs.{declared.kind.Kind.TheVariants.{Control, SchedControl}, Labels.is_in}}
use Rattle.policy.specs.{Change.MayChangeContext.{binds, configures, lends, returns as returns_it}, Policy.allows}
use Rattle.policy.proofs.Gathering.{either, first_joined, joined_either, second_joined, told_as}
use Rattle.policy.proofs.policy.Policy.contexts.Goals as goal

pub returns : goal.returns
returns c object =
    let test = allows c.args.self.now in
    let actor = c.args.actor in
    told_as (is_in c.union.result object)
    (either (is_in c.union.result object) (is_in c.row_beside-bound.result object) (is_in c.moved.result object) (c.row_beside-bound.ensures object)
    (c.moved.ensures object) (c.union.ensures object))
    (λ w. elim w [
      | inl bound ↦ elim (joined_either test SchedControl Control actor bound.1.0 bound.1.1) [
        | inl governs ↦ configures bound.1.0 bound.0 governs
        | inr control ↦ binds bound.1.0 bound.0 control
      ]
      | inr moved ↦ elim moved.1 [ inl lent ↦ lends moved.0 lent | inr borrowed ↦ returns_it moved.0 borrowed ]
    ])
    (λ may. elim may [
      | configures core uses governs ↦ inl (uses, (core, first_joined test SchedControl Control actor core governs))
      | binds thread uses control ↦ inl (uses, (thread, second_joined test SchedControl Control actor thread control))
      | lends runs lent ↦ inr (runs, inl lent)
      | returns_it runs borrowed ↦ inr (runs, inr borrowed)
    ])
