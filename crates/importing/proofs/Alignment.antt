-- The next multiple of a power of two: it is a multiple, and isn't below the number.
use Rattle.std.proofs.Common.{ℕ, ◌%◌, ◌*◌, ◌+◌, ◌-◌, ◌/◌, ◌<◌, ◌^◌, ◌≡◌, ◌≤◌, arith}
use Rattle.{std.proofs.{Math.Nat.{div-add-mod, mod-lt, mul-mod_left, mul_comm}, lemmas.Nat.pow_pos}, importing.specs.Objects.aligned_up}

pub is_multiple : (next bits : ℕ) → aligned_up next bits % 2 ^ bits ≡ 0
is_multiple next bits = mul-mod_left ((next + (2 ^ bits - 1)) / 2 ^ bits) (2 ^ bits)

-- a number plus one less than the size reaches the next multiple
reaches : (next size : ℕ) → 0 < size → next ≤ (next + (size - 1)) / size * size
reaches next size some =
    let whole : size * ((next + (size - 1)) / size) + (next + (size - 1)) % size ≡ next + (size - 1) = div-add-mod _ _ in
    let rest : (next + (size - 1)) % size < size = mod-lt (next + (size - 1)) some in
    let turned : (next + (size - 1)) / size * size ≡ size * ((next + (size - 1)) / size) = mul_comm _ _ in
    omega (arith, whole, rest, turned)

pub is_above : (next bits : ℕ) → next ≤ aligned_up next bits
is_above next bits = reaches next (2 ^ bits) (pow_pos bits)
