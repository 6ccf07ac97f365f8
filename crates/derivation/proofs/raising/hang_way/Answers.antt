-- Each turn hangs one slot, and goes on to the parent that it had.
use Rattle.std.{specs.Prelude.Some, proofs.Common.{◌∙◌, ◌≡◌, sym, true}}
use Rattle.{machine.specs.Machine.parent_of, objects.proofs.Ways.way_shortens}
use Rattle.derivation.{specs.Raising.is_empty, proofs.Hangs.{below_heir, below_next, filled_raised, parent_as_first}}
use Rattle.derivation.proofs.{Hangs.{rest_raised, root_raised, seen_empty, way_next}, raising.hang_way.Goals.In-Some}
use Rattle.derivation.proofs.raising.hang_way.Goals as goal

pub hang-requires : goal.hang-requires
hang-requires c = below_heir c.loop-heir.state c.loop-heir.at c.args.heir c.loop-heir.invariant.way
    (seen_empty c.loop-heir.state c.loop-heir.at c.cap.ensures c.is_none.ensures c.loop-heir-test.true)

pub returns : goal.returns
returns c =
    c.loop-heir.invariant.all c.loop-heir.state
    (filled_raised c.loop-heir.state c.loop-heir.at
    (seen_empty c.loop-heir.state c.loop-heir.at c.cap.ensures c.is_none.ensures c.loop-heir-test.false))

pub returns-in_default : goal.returns-in_default
returns-in_default c =
    c.loop-heir.invariant.all c.hang.new.state
    (root_raised c.loop-heir.state c.hang.new.state c.loop-heir.at c.args.heir
    (seen_empty c.loop-heir.state c.loop-heir.at c.cap.ensures c.is_none.ensures c.loop-heir-test.true)
    c.loop-heir.invariant.way c.hang.ensures (sym c.parent-parent.ensures ∙ c.in_default.is))

over : (c : In-Some) → parent_of c.loop-heir.state c.loop-heir.at ≡ Some c.in-Some.next
over c = sym c.parent-parent.ensures ∙ c.in-Some.is

over_first : (c : In-Some) → parent_of c.args.state.now c.loop-heir.at ≡ Some c.in-Some.next
over_first c =
    parent_as_first c.args.state.now c.loop-heir.state c.hang.new.state c.loop-heir.at c.in-Some.next c.args.heir c.hang.ensures
    c.loop-heir.invariant.below c.keeps_a_forest.ensures.acyclic (over c)

pub loop-heir-smaller : goal.loop-heir-smaller
loop-heir-smaller c = way_shortens c.args.state.now c.keeps_a_forest.ensures.ranked c.loop-heir.at c.in-Some.next (over_first c)

pub loop-heir-preserved : goal.loop-heir-preserved
loop-heir-preserved c =
    let here : is_empty c.loop-heir.state c.loop-heir.at ≡ true =
    seen_empty c.loop-heir.state c.loop-heir.at c.cap.ensures c.is_none.ensures c.loop-heir-test.true in
    record {
      all =
          λ last raised.
          c.loop-heir.invariant.all last
          (rest_raised c.loop-heir.state c.hang.new.state c.loop-heir.at c.args.heir here c.loop-heir.invariant.way c.hang.ensures
          c.in-Some.next (over c) last raised);
      way =
          way_next c.loop-heir.state c.hang.new.state c.loop-heir.at c.args.heir here c.loop-heir.invariant.way c.hang.ensures
          c.in-Some.next (over c);
      below =
          below_next c.args.state.now c.loop-heir.state c.hang.new.state c.loop-heir.at c.in-Some.next c.args.heir c.hang.ensures
          c.loop-heir.invariant.below (over_first c);
    }
