-- That the watermark after all objects is below 17 * 2^48, and decides.
use Rattle.std.proofs.{Common.{ℕ, ◌%◌, ◌*◌, ◌+◌, ◌<◌, ◌^◌, ◌≡◌, ◌≤◌, Err, Ok, arith, suc, zero}, Math.{Nat.mod-eq_of_lt, Pow.pow_mono}}
use Rattle.{std.proofs.lemmas.Bool.Decides.nat_tests, base.specs.declared.refusal.Cause.TheVariants.NotEnoughMemory}
use Rattle.machine.specs.{declared.object.Untyped.Untyped, Memory.all_taken, Step.Retype.roomy}
use Rattle.untyped.proofs.room.roomy.Goals as goal

fits :
    (memory : Untyped) (size count mark : ℕ) → mark ≡ (all_taken count size memory).watermark
    → mark ≤ memory.base + 2 ^ memory.bits → Ok tt ≡ roomy memory size count
fits memory size count mark same within = grind (arith, nat_tests)

exceeds :
    (memory : Untyped) (size count mark : ℕ) → mark ≡ (all_taken count size memory).watermark
    → memory.base + 2 ^ memory.bits < mark → Err NotEnoughMemory ≡ roomy memory size count
exceeds memory size count mark same past = grind (arith, nat_tests)

pub loop-preserved : goal.loop-preserved
loop-preserved c =
    let inv = c.loop.invariant in
    let least = c.next_multiple_of.ensures.upper_bound in
    let most = c.requires.most in
    let so_far = inv.1 in (
      λ left at. rw c.next_multiple_of.ensures.value (inv.0 (suc left) (omega (arith, at))),
      omega (arith, so_far, least, most),
    )

pub returns-then-mark-memory : goal.returns-then-mark-memory
returns-then-mark-memory c =
    let past = c.loop-test.false in
    let ended = c.loop.auto.counter-end in
    let at_most : 2 ^ c.args.memory.bits ≤ 2 ^ 47 = pow_mono c.requires.bits in
    let size : 1 * 2 ^ c.args.memory.bits % 2 ^ 64 ≡ 1 * 2 ^ c.args.memory.bits = mod-eq_of_lt (omega (arith, at_most)) in
    let compared = c.if-mark-memory.true in
    fits c.args.memory c.args.size c.args.count c.loop.mark (c.loop.invariant.0 zero (omega (arith, past, ended)))
    (omega (arith, size, compared))

pub returns-else-mark-memory : goal.returns-else-mark-memory
returns-else-mark-memory c =
    let past = c.loop-test.false in
    let ended = c.loop.auto.counter-end in
    let at_most : 2 ^ c.args.memory.bits ≤ 2 ^ 47 = pow_mono c.requires.bits in
    let size : 1 * 2 ^ c.args.memory.bits % 2 ^ 64 ≡ 1 * 2 ^ c.args.memory.bits = mod-eq_of_lt (omega (arith, at_most)) in
    let compared = c.if-mark-memory.false in
    exceeds c.args.memory c.args.size c.args.count c.loop.mark (c.loop.invariant.0 zero (omega (arith, past, ended)))
    (omega (arith, size, compared))
