-- A value masked by as many ones as bits are taken.
use Rattle.std.proofs.{Common.{◌-◌, ◌^◌, ◌∙◌, ◌≡◌, ap, arith, bit_and}, lemmas.Nat.{and_mask, Bits.ones_shr}}
use Rattle.cnodeops.proofs.minting.low_bits.Goals as goal

pub returns : goal.returns
returns c =
    let size = c.args.size in
    let kept : 64 - (64 - size) ≡ size = omega arith in
    let ones = ones_shr 64 (64 - size) (omega arith) ∙ ap (λ n. 2 ^ n - 1) kept in
    ap (bit_and c.args.value) ones ∙ and_mask c.args.value size
