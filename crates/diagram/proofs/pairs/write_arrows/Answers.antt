-- That the arrows from the next label are written after those from the labels before.
use Rattle.{std.proofs.Common.{arith, length, string_bytes, subst, sym}, reach.specs.Extents.limits_by}
use Rattle.diagram.{specs.Drawing.{AddsArrows, pairs_with}, proofs.PairArrows.{adds_label, label_is, label_there}}
use Rattle.diagram.proofs.pairs.write_arrows.Goals.{in-Some+in_ok-write_arrows_from, in_default}
use Rattle.diagram.proofs.pairs.write_arrows.Goals as goal

pub loop-number-preserved : goal.loop-number-preserved
loop-number-preserved c =
    let test = limits_by c.args.policy.now c.args.actors in
    let t = c.args.table.now in
    let count = length t.labels in
    let n = c.loop-number.number in
    let old = string_bytes c.args.text.now in
    let mid = string_bytes c.loop-number.text in
    elim c.match-new.branch [
      | in-Some+in_ok-write_arrows_from w ↦
          let same = label_is c.new.result w.in-Some.actor n w.in-Some.is c.new.ensures.value in
          let from = subst (λ a. AddsArrows test t (pairs_with count a) mid (string_bytes w.write_arrows_from.new.text)) same w.in_ok-write_arrows_from.ensures in
          adds_label test t count n old mid (string_bytes c.match-new.text) c.loop-number.invariant
          (subst (λ text. AddsArrows test t (pairs_with count n) mid (string_bytes text)) (sym w.text-is) from)
      | in_default w ↦ absurd (label_there c.new.result w.in_default.is (c.new.ensures.valid.1 (omega (arith, c.keeps_rules.ensures.draft.labels.few))))
    ]
