-- Each turn, a child is handed over from the one parent to the other, which is no lower.
use Rattle.std.{specs.FinMap.keys, proofs.Common.{◌<◌, ◌∙◌, ap, subst, sym}}
use Rattle.machine.specs.{Machine.{with_parent, without_parent}, Tree.IsRanked}
use Rattle.objects.proofs.PairLemmas.{place-with_parent, place-without_parent}
use Rattle.derivation.{specs.Moving.{StandsNoLower, handed_over}, proofs.Children.{among_first, children_among, one_less, still_apart}}
use Rattle.derivation.proofs.{Moves.{handed_over-none, handed_over-step, slot_with_parent, slot_without_parent}, Pairs.taken_from_parent}
use Rattle.derivation.proofs.Ranks.{handed_no_lower}
use Rattle.derivation.proofs.tree.hand_over.Goals as goal

pub attach-requires-clause-below : goal.attach-requires-clause-below
attach-requires-clause-below c =
    rw c.detach.ensures
    (slot_without_parent c.loop-child.state c.in-Some.child c.in-Some.child
    (c.keeps_a_forest.ensures.below c.in-Some.child c.args.from c.in-Some.ensures.some))

pub attach-requires-clause-above : goal.attach-requires-clause-above
attach-requires-clause-above c =
    rw c.detach.ensures (slot_without_parent c.loop-child.state c.in-Some.child c.args.to c.loop-child.invariant.target)

pub attach-requires-clause-low : goal.attach-requires-clause-low
attach-requires-clause-low c =
    rw c.detach.ensures
    (place-without_parent c.loop-child.state c.in-Some.child c.in-Some.child
    (c.keeps_a_forest.ensures.paired.below c.in-Some.child c.args.from c.in-Some.ensures.some))

pub attach-requires-clause-high : goal.attach-requires-clause-high
attach-requires-clause-high c =
    rw c.detach.ensures (place-without_parent c.loop-child.state c.in-Some.child c.args.to c.loop-child.invariant.filled)

pub attach-requires-clause-root : goal.attach-requires-clause-root
attach-requires-clause-root c = rw c.detach.ensures (taken_from_parent c.loop-child.state c.in-Some.child)

pub attach-requires-clause-ranked : goal.attach-requires-clause-ranked
attach-requires-clause-ranked c =
    subst (λ m. IsRanked (with_parent m c.in-Some.child c.args.to)) (sym c.detach.ensures)
    (handed_no_lower c.loop-child.state c.args.from c.args.to c.in-Some.child c.loop-child.invariant.place
    c.in-Some.ensures.some).0

pub loop-child-smaller : goal.loop-child-smaller
loop-child-smaller c =
    subst
    (λ m.
    children_among m c.args.from (keys c.args.state.now.parents)
    < children_among c.loop-child.state c.args.from (keys c.args.state.now.parents))
    (sym (c.attach.ensures ∙ ap (λ m. with_parent m c.in-Some.child c.args.to) c.detach.ensures))
    (one_less c.loop-child.state c.args.from c.args.to c.in-Some.child
    (still_apart c.args.state.now c.loop-child.state c.args.from c.args.to c.in-Some.child c.loop-child.invariant.same
    c.in-Some.ensures.some c.requires.apart)
    c.in-Some.ensures.some
    (keys c.args.state.now.parents)
    (among_first c.args.state.now c.loop-child.state c.args.from c.args.to c.in-Some.child c.loop-child.invariant.same
    c.in-Some.ensures.some))

pub loop-child-preserved : goal.loop-child-preserved
loop-child-preserved c =
    let now = c.attach.ensures ∙ ap (λ m. with_parent m c.in-Some.child c.args.to) c.detach.ensures in
    record {
      target =
          rw now
          (slot_with_parent (without_parent c.loop-child.state c.in-Some.child) c.in-Some.child c.args.to c.args.to
          (slot_without_parent c.loop-child.state c.in-Some.child c.args.to c.loop-child.invariant.target));
      filled =
          rw now
          (place-with_parent (without_parent c.loop-child.state c.in-Some.child) c.in-Some.child c.args.to c.args.to
          (place-without_parent c.loop-child.state c.in-Some.child c.args.to c.loop-child.invariant.filled));
      same =
          ap (λ m. handed_over m c.args.from c.args.to) now
          ∙ handed_over-step c.loop-child.state c.args.from c.args.to c.in-Some.child c.in-Some.ensures.some
          ∙ c.loop-child.invariant.same;
      place =
          subst (λ m. StandsNoLower m c.args.to c.args.from) (sym now)
          (handed_no_lower c.loop-child.state c.args.from c.args.to c.in-Some.child c.loop-child.invariant.place
          c.in-Some.ensures.some);
    }

pub returns : goal.returns
returns c =
    sym (handed_over-none c.loop-child.state c.args.from c.args.to c.in_default.ensures.none) ∙ c.loop-child.invariant.same
