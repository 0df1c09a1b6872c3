-- Numbers in so many bits.
use Rattle.std.proofs.Common.{◌≡◌, ℕ, ◌+◌, ◌-◌, ◌*◌, ◌%◌, ◌^◌, ◌<◌, ◌≤◌, sym, ap, ◌∙◌, arith}
use Rattle.std.proofs.Math.Nat.{mul-mod_left, mul_assoc, pow-le-pow_right}
use Rattle.std.proofs.Math.Nat.{mod-eq_of_lt}
use Rattle.std.proofs.Math.Pow.{pow_mono}
use Rattle.std.proofs.lemmas.Nat.{pow-add}
use Rattle.sl_word.proofs.Powers.{bytes-bits}

-- what is moved up by 64 bits or more
pub all_out : (n low : ℕ) → 64 ≤ low → 0 ≡ n * 2 ^ low % 2 ^ 64
all_out n low h =
    let split : low ≡ (low - 64) + 64 = omega arith in
    let power : 2 ^ low ≡ 2 ^ (low - 64) * 2 ^ 64 =
    ap (λ k. 2 ^ k) split ∙ pow-add 2 (low - 64) 64 in
    sym (ap (λ m. n * m % 2 ^ 64) power ∙ ap (λ m. m % 2 ^ 64) (sym (mul_assoc n (2 ^ (low - 64)) (2 ^ 64)))
    ∙ mul-mod_left (n * 2 ^ (low - 64)) (2 ^ 64))

-- where there are at most fifteen bytes, there is room for one more in 128 bits
pub room_for_byte : (n i b : ℕ) → n < 256 ^ i → i < 16 → b < 256 → n * 256 + b < 2 ^ 128
room_for_byte n i b small below byte =
    let some : 0 < 256 = omega arith in
    let within : i ≤ 15 = omega arith in
    let most : 256 ^ i ≤ 256 ^ 15 = pow-le-pow_right some within in
    omega (arith, most)

-- a number of so many bytes, by the remainder
pub wrapped_number : (number bytes k : ℕ) → k ≡ bytes → bytes ≤ 8
    → number % (1 * 2 ^ (8 * k) % 340282366920938463463374607431768211456) ≡ number % 256 ^ bytes
wrapped_number number bytes k e h =
    let small : 2 ^ (8 * k) ≤ 2 ^ 64 = pow_mono {i = 8 * k} {j = 64} (omega arith) in
    let below : 1 * 2 ^ (8 * k) < 340282366920938463463374607431768211456 = omega (arith, small) in
    let once : 1 * 2 ^ (8 * k) ≡ 2 ^ (8 * k) = omega arith in
    ap (λ m. number % m) (mod-eq_of_lt below ∙ once ∙ ap (λ j. 2 ^ (8 * j)) e ∙ sym (bytes-bits bytes))
