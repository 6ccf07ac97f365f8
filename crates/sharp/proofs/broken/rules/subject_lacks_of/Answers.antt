use Rattle.{std.proofs.{Common.arith, lemmas.Option.slice_get-get_or}, base.specs.Labels.is_in}
use Rattle.policy.{specs.{Policy.allows, Sharp.Told}, proofs.{KindNumbers.all_kinds, Places.{least_here, none_at_all, none_more}}}
use Rattle.sharp.proofs.BrokenPlaces.{no_subject_of_kind, subject_kinds, subject_of_kind}
use Rattle.sharp.proofs.broken.rules.subject_lacks_of.Goals as goal

pub returns-in-Some : goal.returns-in-Some
returns-in-Some c =
    let test = allows c.args.policy.now in
    let keeps = Told (is_in c.args.keeping) in
    least_here (subject_kinds test keeps c.args.subject c.args.other) c.loop-kind.kind-index _ (slice_get-get_or all_kinds c.loop-kind.kind-index _ (omega arith))
    c.loop-kind.invariant _
    (subject_of_kind test keeps c.args.subject c.args.other (c.gives_use.ensures.0 c.if-not-gives_use.false) _ c.use_lacks.result c.use_lacks.ensures c.in-Some.target c.in-Some.ensures.some)

pub loop-kind-preserved : goal.loop-kind-preserved
loop-kind-preserved c =
    let test = allows c.args.policy.now in
    let keeps = Told (is_in c.args.keeping) in
    none_more (subject_kinds test keeps c.args.subject c.args.other) c.loop-kind.kind-index _ (slice_get-get_or all_kinds c.loop-kind.kind-index _ (omega arith))
    c.loop-kind.invariant
    (no_subject_of_kind test keeps c.args.subject c.args.other (c.gives_use.ensures.0 c.if-not-gives_use.false) _ c.use_lacks.result c.use_lacks.ensures c.in_default.ensures.none)

pub returns : goal.returns
returns c =
    none_at_all (subject_kinds (allows c.args.policy.now) (Told (is_in c.args.keeping)) c.args.subject c.args.other) c.loop-kind.kind-index (omega arith)
    c.loop-kind.invariant
