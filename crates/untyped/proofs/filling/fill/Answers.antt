-- That the slots are filled one by one, and that the later ones stay free.
use Rattle.std.proofs.Common.{◌≡◌, ◌≢◌, ap, arith, suc, zero}
use Rattle.base.specs.declared.ids.SlotRef.{SlotRef}
use Rattle.untyped.proofs.Filled.{alone_stays, filling_stays, object_stays, other_stays, slot_stays}
use Rattle.untyped.proofs.filling.fill.Goals as goal

pub fill_below-requires-clause-there : goal.fill_below-requires-clause-there
fill_below-requires-clause-there c =
    let within = c.loop-index-test.true in
    let end = c.loop-index.auto.index-end in
    (c.loop-index.invariant.2 c.loop-index.index (omega arith) (omega (arith, within, end))).0

pub fill_below-requires-clause-vacant : goal.fill_below-requires-clause-vacant
fill_below-requires-clause-vacant c =
    let within = c.loop-index-test.true in
    let end = c.loop-index.auto.index-end in
    (c.loop-index.invariant.2 c.loop-index.index (omega arith) (omega (arith, within, end))).1

pub fill_below-requires-clause-alone : goal.fill_below-requires-clause-alone
fill_below-requires-clause-alone c =
    let within = c.loop-index-test.true in
    let end = c.loop-index.auto.index-end in
    (c.loop-index.invariant.2 c.loop-index.index (omega arith) (omega (arith, within, end))).2

pub fill_below-requires-clause-object : goal.fill_below-requires-clause-object
fill_below-requires-clause-object c =
    let within = c.loop-index-test.true in
    let end = c.loop-index.auto.index-end in
    let numbered = c.loop-index.invariant.0 in
    rw c.new_cap.ensures (c.loop-index.invariant.4 c.loop-index.number (omega arith) (omega (arith, within, end, numbered)))

pub fill_below-requires-clause-above : goal.fill_below-requires-clause-above
fill_below-requires-clause-above c = c.loop-index.invariant.3

pub loop-index-preserved : goal.loop-index-preserved
loop-index-preserved c =
    let a = c.args in
    let index = c.loop-index.index in
    let slot : SlotRef = record { holder = a.window.node; index = index } in
    let inv = c.loop-index.invariant in
    let numbered = inv.0 in (
      omega (arith, numbered),
      λ left at. rw (c.fill_below.ensures, c.new_cap.ensures) (inv.1 (suc left) (omega (arith, at))),
      λ later low high.
          let q : SlotRef = record { holder = a.window.node; index = later } in
          let was = inv.2 later (omega (arith, low)) high in
          let apart : q ≢ slot =
          λ same. (let one : later ≡ index = ap (λ (s : SlotRef). s.index) same in absurd (omega (arith, one, low))) in
          rw c.fill_below.ensures (
            slot_stays c.loop-index.state slot a.parent c.new_cap.result q was.0,
            other_stays c.loop-index.state slot a.parent c.new_cap.result q apart was.1,
            alone_stays c.loop-index.state slot a.parent c.new_cap.result inv.3 q apart was.1 was.2,
          ),
      rw c.fill_below.ensures (filling_stays c.loop-index.state slot a.parent c.new_cap.result a.parent inv.3),
      λ number low high.
          rw c.fill_below.ensures
          (object_stays c.loop-index.state slot a.parent c.new_cap.result (record { 0 = number })
          (inv.4 number (omega (arith, low)) high)),
    )

pub returns : goal.returns
returns c =
    let past = c.loop-index-test.false in
    let most = c.loop-index.auto.index-end in
    c.loop-index.invariant.1 zero (omega (arith, past, most))
