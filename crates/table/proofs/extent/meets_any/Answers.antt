-- If any extent meets the new one, the last that starts below its end does.
use Rattle.std.proofs.{Common.{ℕ, ◌∙◌, ◌≡◌, ◌≤◌, arith, false, nat_lt, sym}, lemmas.Bool.Decides.nat_tests}
use Rattle.table.proofs.ApartLemmas.{last_below, none_below}
use Rattle.table.proofs.extent.meets_any.Goals as goal

none : (count : ℕ) → count ≤ 0 → nat_lt 0 count ≡ false
none count zero = grind (arith, nat_tests)

pub returns-then-count-gt0 : goal.returns-then-count-gt0
returns-then-count-gt0 c =
    c.meets.ensures
    ∙ sym
    (last_below c.args.rising.now c.args.extent.now c.count_below-count.result c.requires c.count_below-count.ensures.bound
    c.count_below-count.ensures.parted _ c.if-count-gt0.true)

pub returns-else-count-gt0 : goal.returns-else-count-gt0
returns-else-count-gt0 c =
    none c.count_below-count.result c.if-count-gt0.false
    ∙ sym
    (none_below c.args.rising.now c.args.extent.now c.count_below-count.result c.requires c.count_below-count.ensures.bound
    c.count_below-count.ensures.parted (omega (arith, c.if-count-gt0.false)))
