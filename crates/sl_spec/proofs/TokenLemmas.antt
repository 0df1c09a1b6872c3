-- Room for the bytes of a token in 64 bits.
use Rattle.std.proofs.Common.{ℕ, ◌+◌, ◌*◌, ◌^◌, ◌<◌, ◌≤◌, arith}
use Rattle.std.proofs.Math.Nat.{pow-le-pow_right}

-- where there are at most seven bytes, there is room for one more in 64 bits
pub room_for_byte : (n i b : ℕ) → n < 256 ^ i → i < 8 → b < 256 → n * 256 + b < 2 ^ 64
room_for_byte n i b small below byte =
    let some : 0 < 256 = omega arith in
    let within : i ≤ 7 = omega arith in
    let most : 256 ^ i ≤ 256 ^ 7 = pow-le-pow_right some within in
    omega (arith, most)
