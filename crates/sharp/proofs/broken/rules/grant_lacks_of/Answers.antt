use Rattle.std.proofs.{Common.{◌∙◌, arith, sym}, lemmas.Option.slice_get-get_or}
use Rattle.base.specs.Labels.{is_in}
use Rattle.policy.{specs.{Policy.allows, Sharp.Told}, proofs.{KindNumbers.all_kinds, Places.{least_here, none_at_all, none_more}}}
use Rattle.sharp.proofs.BrokenPlaces.{grant_kinds, grant_of_kind, no_grant_of_kind}
use Rattle.sharp.proofs.broken.rules.grant_lacks_of.Goals as goal

pub returns-in-Some : goal.returns-in-Some
returns-in-Some c =
    let test = allows c.args.policy.now in
    let keeps = Told (is_in c.args.keeping) in
    least_here (grant_kinds test keeps c.args.giver c.args.taker) c.loop-kind.kind-index _ (slice_get-get_or all_kinds c.loop-kind.kind-index _ (omega arith))
    c.loop-kind.invariant _
    (grant_of_kind test keeps c.args.giver c.args.taker (sym c.has.ensures ∙ c.if-not-has.false) (c.may_be_granted.ensures.0 c.if-not-may_be_granted.false) _ c.use_lacks.result c.use_lacks.ensures c.in-Some.target c.in-Some.ensures.some)

pub loop-kind-preserved : goal.loop-kind-preserved
loop-kind-preserved c =
    let test = allows c.args.policy.now in
    let keeps = Told (is_in c.args.keeping) in
    none_more (grant_kinds test keeps c.args.giver c.args.taker) c.loop-kind.kind-index _ (slice_get-get_or all_kinds c.loop-kind.kind-index _ (omega arith))
    c.loop-kind.invariant
    (no_grant_of_kind test keeps c.args.giver c.args.taker (sym c.has.ensures ∙ c.if-not-has.false) (c.may_be_granted.ensures.0 c.if-not-may_be_granted.false) _ c.use_lacks.result c.use_lacks.ensures c.in_default.ensures.none)

pub returns : goal.returns
returns c =
    none_at_all (grant_kinds (allows c.args.policy.now) (Told (is_in c.args.keeping)) c.args.giver c.args.taker) c.loop-kind.kind-index (omega arith)
    c.loop-kind.invariant
