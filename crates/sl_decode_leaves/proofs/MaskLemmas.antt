-- The bits of a field lie in 64.
use Rattle.std.proofs.Common.{◌≡◌, ℕ, ◌+◌, ◌-◌, ◌*◌, ◌%◌, ◌^◌, ◌≤◌, ap, ◌∙◌, arith}
use Rattle.std.proofs.lemmas.Nat.{pow-add, pow_pos}
use Rattle.std.proofs.Math.Pow.{pow_mono}
use Rattle.std.proofs.Math.Nat.{mod-eq_of_lt, add-mul}

mask_kept : (w l : ℕ) → l + w ≤ 64 → (2 ^ w - 1) * 2 ^ l % 2 ^ 64 ≡ (2 ^ w - 1) * 2 ^ l
mask_kept w l h =
    let p : 2 ^ (w + l) ≡ 2 ^ w * 2 ^ l = pow-add 2 w l in
    let q : 2 ^ (w + l) ≤ 2 ^ 64 = pow_mono {i = w + l} {j = 64} (omega arith) in
    let r = pow_pos w in
    let s = pow_pos l in
    let t : 2 ^ w ≡ (2 ^ w - 1) + 1 = omega arith in
    let u : 2 ^ w * 2 ^ l ≡ (2 ^ w - 1) * 2 ^ l + 1 * 2 ^ l =
    ap (λ m. m * 2 ^ l) t ∙ add-mul (2 ^ w - 1) 1 (2 ^ l) in
    mod-eq_of_lt (omega arith)

pub mask_is : (w l r : ℕ) → l + w ≤ 64 → r + 1 ≡ 2 ^ w → r * 2 ^ l % 2 ^ 64 ≡ (2 ^ w - 1) * 2 ^ l
mask_is w l r h is =
    let e : r ≡ 2 ^ w - 1 = omega arith in
    ap (λ m. m * 2 ^ l % 2 ^ 64) e ∙ mask_kept w l h
