-- That the loop keeps the least denial with each slot.
use Rattle.std.proofs.Common.{◌+◌, ◌<◌, ◌∙◌, ◌≡◌, ◌≤◌, Some, ap, arith, get_or, length, slice_get, subst, sym}
use Rattle.std.proofs.lemmas.Option.{slice_get-get_or}
use Rattle.machine.specs.declared.layout.Filled.{Filled}
use Rattle.policy.specs.{Places.FindsLeast, Policy.allows}
use Rattle.verdict.{specs.Verdict.place_of, proofs.{LeastByRule.{least_kept, least_new}, LeastOfSlots.{BrokenAmong, least_at, least_of_all_slots, looks}}}
use Rattle.verdict.proofs.{SlotPlaces.BreaksAt, slots.SlotCheck.first_denial.Goals.{else-rule_number, then-rule_number}}
use Rattle.verdict.proofs.slots.SlotCheck.first_denial.Goals as goal

pub loop-index-preserved : goal.loop-index-preserved
loop-index-preserved c =
    let t = c.args.self.now.table.now in
    let allowed = allows c.args.self.now.policy.now in
    let n = c.loop-index.index in
    let next = c.denial_of-denial.result in
    let first = c.loop-index.first in
    let caps : c.caps-caps.result.now ≡ t.caps = c.caps-caps.ensures.caps in
    let size : length c.caps-caps.result.now ≡ length t.caps = ap length caps in
    let test = c.loop-index-test.true in
    let within : n < length t.caps = omega (arith, test, size) in
    let edge = c.index-missing-index.result in
    let filled : Filled = get_or c.caps-caps.result.now n _ in
    let here : slice_get t.caps n ≡ Some filled = ap (λ caps. slice_get caps n) (sym caps) ∙ slice_get-get_or c.caps-caps.result.now n _ test in
    let least : FindsLeast place_of (BreaksAt t allowed filled.slot) next =
    subst (FindsLeast place_of (BreaksAt t allowed filled.slot)) (sym c.denial_of-denial.ensures)
    (least_at t allowed c.caps-caps.ensures.lawful c.args.missing.now c.requires n filled here edge c.index-missing-index.is) in
    let lawful = c.caps-caps.ensures.lawful in
    elim c.if-rule_number.branch [
      | then-rule_number w ↦
          subst (FindsLeast place_of (BrokenAmong t allowed (n + 1))) (sym w.first-is)
          (least_new _ _ _ (looks t allowed lawful n filled here) first next least c.loop-index.invariant (let lt = w.if-rule_number.true in omega (arith, lt)))
      | else-rule_number w ↦
          subst (FindsLeast place_of (BrokenAmong t allowed (n + 1))) (sym w.first-is)
          (least_kept _ _ _ (looks t allowed lawful n filled here) first next least c.loop-index.invariant (let le = w.if-rule_number.false in omega (arith, le)))
    ]

pub returns : goal.returns
returns c =
    let t = c.args.self.now.table.now in
    let size : length c.caps-caps.result.now ≡ length t.caps = ap length c.caps-caps.ensures.caps in
    let end = c.loop-index-test.false in
    let all : length t.caps ≤ c.loop-index.index = omega (arith, end, size) in
    least_of_all_slots t (allows c.args.self.now.policy.now) c.loop-index.index all c.caps-caps.ensures.lawful c.loop-index.first c.loop-index.invariant
