use Rattle.std.proofs.Common.{[], ◌∷◌, arith, string_bytes, subst, sym}
use Rattle.reach.specs.Extents.{limits_by}
use Rattle.diagram.{specs.Drawing.AddsArrows, proofs.PairArrows.{adds_pair, label_is, label_there}}
use Rattle.diagram.proofs.pairs.write_arrows_from.Goals.{in-Some+in_ok-write_arrow_of, in_default}
use Rattle.diagram.proofs.pairs.write_arrows_from.Goals as goal

-- the arrow to the next label comes after those before
pub loop-number-preserved : goal.loop-number-preserved
loop-number-preserved c =
    let test = limits_by c.args.policy.now c.args.actors in
    let t = c.args.table.now in
    let a = c.args.actor in
    let n = c.loop-number.number in
    let old = string_bytes c.args.text.now in
    let mid = string_bytes c.loop-number.text in
    elim c.match-new.branch [
      | in-Some+in_ok-write_arrow_of w ↦
          let same = label_is c.new.result w.in-Some.object n w.in-Some.is c.new.ensures.value in
          let one = subst (λ l. AddsArrows test t ((a, l) ∷ []) mid (string_bytes w.write_arrow_of.new.text)) same w.in_ok-write_arrow_of.ensures in
          adds_pair test t a n old mid (string_bytes c.match-new.text) c.loop-number.invariant
          (subst (λ text. AddsArrows test t ((a, n) ∷ []) mid (string_bytes text)) (sym w.text-is) one)
      | in_default w ↦ absurd (label_there c.new.result w.in_default.is (c.new.ensures.valid.1 (omega (arith, c.keeps_rules.ensures.draft.labels.few))))
    ]
