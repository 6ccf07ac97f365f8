-- The parent of one slot becomes that of another, which gets the rank of the first.
use Rattle.std.proofs.Common.{◌∙◌, ap, subst, sym}
use Rattle.{machine.specs.{Machine.with_parent, Tree.IsRanked}, objects.proofs.PairLemmas.place-without_parent}
use Rattle.derivation.{specs.Moving.StandsNoLower, proofs.Moves.{lifted-none, lifted-some, slot_without_parent}}
use Rattle.derivation.proofs.{Pairs.root_without_parent, Ranks.{lifted_root, lifted_under}}
use Rattle.derivation.proofs.tree.lift.Goals as goal

pub attach-requires-clause-below : goal.attach-requires-clause-below
attach-requires-clause-below c =
    rw c.detach.ensures (slot_without_parent c.args.state.now c.args.from c.args.to c.requires.target)

pub attach-requires-clause-above : goal.attach-requires-clause-above
attach-requires-clause-above c =
    rw c.detach.ensures
    (slot_without_parent c.args.state.now c.args.from c.in-Some.parent
    (c.keeps_a_forest.ensures.above c.args.from c.in-Some.parent (sym c.in-Some.ensures)))

pub attach-requires-clause-low : goal.attach-requires-clause-low
attach-requires-clause-low c = rw c.detach.ensures (place-without_parent c.args.state.now c.args.from c.args.to c.requires.filled)

pub attach-requires-clause-high : goal.attach-requires-clause-high
attach-requires-clause-high c =
    rw c.detach.ensures
    (place-without_parent c.args.state.now c.args.from c.in-Some.parent
    (c.keeps_a_forest.ensures.paired.above c.args.from c.in-Some.parent (sym c.in-Some.ensures)))

pub attach-requires-clause-root : goal.attach-requires-clause-root
attach-requires-clause-root c =
    rw c.detach.ensures (root_without_parent c.args.state.now c.args.from c.args.to c.requires.alone.root)

pub attach-requires-clause-ranked : goal.attach-requires-clause-ranked
attach-requires-clause-ranked c =
    subst (λ m. IsRanked (with_parent m c.args.to c.in-Some.parent)) (sym c.detach.ensures)
    (lifted_under c.args.state.now c.keeps_a_forest.ensures.ranked c.args.from c.args.to c.requires.alone c.in-Some.parent
    (sym c.in-Some.ensures)).0

pub returns-in-Some-clause-value : goal.returns-in-Some-clause-value
returns-in-Some-clause-value c =
    c.attach.ensures
    ∙ ap (λ m. with_parent m c.args.to c.in-Some.parent) c.detach.ensures
    ∙ sym (lifted-some c.args.state.now c.args.from c.args.to c.in-Some.parent (sym c.in-Some.ensures))

pub returns-in-Some-clause-place : goal.returns-in-Some-clause-place
returns-in-Some-clause-place c =
    subst (λ m. StandsNoLower m c.args.to c.args.from)
    (sym (c.attach.ensures ∙ ap (λ m. with_parent m c.args.to c.in-Some.parent) c.detach.ensures))
    (lifted_under c.args.state.now c.keeps_a_forest.ensures.ranked c.args.from c.args.to c.requires.alone c.in-Some.parent
    (sym c.in-Some.ensures))

pub returns-in_default-clause-value : goal.returns-in_default-clause-value
returns-in_default-clause-value c =
    c.detach.ensures ∙ sym (lifted-none c.args.state.now c.args.from c.args.to (sym c.in_default.ensures))

pub returns-in_default-clause-place : goal.returns-in_default-clause-place
returns-in_default-clause-place c =
    subst (λ m. StandsNoLower m c.args.to c.args.from) (sym c.detach.ensures)
    (lifted_root c.args.state.now c.keeps_a_forest.ensures.ranked c.args.from c.args.to c.requires.alone)
