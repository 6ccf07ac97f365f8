use Rattle.std.proofs.{Common.{◌-◌, ◌/◌, ◌^◌, ◌∙◌, ◌≡◌, ◌≤◌, ap, arith, bit_and}, lemmas.Nat.{and_mask, Bits.ones_shr}}
use Rattle.cspace.proofs.word.field.Goals as goal

pub returns : goal.returns
returns c =
    let size = c.args.size in
    let shifted = c.args.word / 2 ^ c.args.low in
    let within : size ≤ 64 = omega arith in
    let kept : 64 - (64 - size) ≡ size = omega arith in
    let ones = ones_shr 64 (64 - size) (omega arith) ∙ ap (λ n. 2 ^ n - 1) kept in
    ap (bit_and shifted) ones ∙ and_mask shifted size
