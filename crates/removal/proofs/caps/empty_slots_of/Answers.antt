-- Each slot that there is has been emptied.
use Rattle.std.{specs.Prelude.{Contains, IsTrue, None, Some}, proofs.Common.{◌∙◌, ◌≡◌, ap, arith, inr, refl, subst, sym}}
use Rattle.{base.specs.declared.ids.SlotRef.SlotRef, machine.specs.{declared.cap.Cap.Cap, Machine.{Machine, cap_of, has_slot}}}
use Rattle.removal.{specs.UnderWay.{emptied, emptied_below, slots_at}, proofs.{Cascading.below_more, Turns.{all_hollow, listed_on}}}
use Rattle.removal.proofs.caps.empty_slots_of.Goals as goal

pub empty_slot-requires-clause-place : goal.empty_slot-requires-clause-place
empty_slot-requires-clause-place c = inr c.loop-index.invariant.listed

pub loop-index-init : goal.loop-index-init
loop-index-init c = record { emptied = refl; going = c.requires.going; listed = c.requires.listed }

pub loop-index-preserved : goal.loop-index-preserved
loop-index-preserved c =
    let slot : SlotRef = record { holder = c.args.id; index = c.loop-index.index } in
    record {
      emptied =
          c.empty_slot.ensures.value ∙ ap (λ (m : Machine). emptied m slot) c.loop-index.invariant.emptied
          ∙ sym (below_more c.args.state.now c.args.id c.loop-index.index);
      going = c.empty_slot.ensures.going;
      listed =
          subst (λ (m : Machine). Contains m.going c.args.id) (sym c.empty_slot.ensures.value)
          (listed_on c.loop-index.state slot c.args.id c.loop-index.invariant.listed);
    }

pub returns-clause-hollow : goal.returns-clause-hollow
returns-clause-hollow c =
    let all : c.loop-index.index ≡ slots_at c.args.state.now c.args.id = omega (arith, c.loop-index-test.false, c.loop-index.auto.index-end, c.slot_count-count.ensures) in
    let is : c.loop-index.state ≡ emptied_below c.args.state.now c.args.id (slots_at c.args.state.now c.args.id) =
    c.loop-index.invariant.emptied ∙ ap (emptied_below c.args.state.now c.args.id) all in
    subst (λ (m : Machine). (slot : SlotRef) → slot.holder ≡ c.args.id → cap_of m slot ≡ None) (sym is)
    (all_hollow c.args.state.now c.args.id
    (subst (λ (m : Machine). (slot : SlotRef) (held : Cap) → cap_of m slot ≡ Some held → IsTrue (has_slot m slot)) is
    c.caps_are_in_slots.ensures))
