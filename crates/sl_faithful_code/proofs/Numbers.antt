-- Bits of numbers by shifts, and numbers of 64 bits at more bytes.
use Rattle.std.proofs.Common.{◌≡◌, ℕ, ◌+◌, ◌-◌, ◌*◌, ◌/◌, ◌%◌, ◌^◌, ◌<◌, ◌≤◌, false, refl, sym, ap, ◌∙◌, subst, arith, pos, negsuc}
use Rattle.std.specs.Prelude.{if◌then◌else◌, nat_lt}
use Rattle.std.proofs.lemmas.Bool.Decides.{nat_tests}
use Rattle.std.proofs.lemmas.Nat.{pow-add, field_of, mod-pow-add, pow_pos, mod_below}
use Rattle.std.proofs.Math.Nat.{mul-div-mul_right, mul-div_cancel, mul-mod_left, div-add-mod', mul_assoc, mul-le-mul_right, div-lt_iff_lt-mul, mul_comm, mod-eq_of_lt, pow-le-pow_right}
use Rattle.sl_section_equations.specs.Equations.{size_at}
use Rattle.sl_meaning_sections.specs.Values.{bits_of, with_bits}
use Rattle.sl_meaning_sections.specs.Values as mine
use Rattle.sl_pcode.specs.Machine as machine
use Rattle.sl_word.specs.Numbers.{residue, signed_value}
use Rattle.sl_word.specs.declared.operation.Op2.{Op2}
use Rattle.sl_word.specs.declared.operation.Op2.TheVariants.{IntDiv, IntRem, IntSdiv, IntSrem}
use Rattle.sl_word.proofs.Powers.{bytes-bits, bytes_pos}

-- left by what is above, right by all but count: the count bits from low on
pub field_shifts : (v c l a : ℕ) → (v * 2 ^ a) % 2 ^ (c + (l + a)) / 2 ^ (l + a) ≡ v / 2 ^ l % 2 ^ c
field_shifts v c l a =
    field_of (v * 2 ^ a) c (l + a)
    ∙ ap (λ d. v * 2 ^ a / d % 2 ^ c) (pow-add 2 l a)
    ∙ ap (λ q. q % 2 ^ c) (mul-div-mul_right v (2 ^ l) (pow_pos a))

-- left by all but count, right by what is above: the low count bits, from low on
pub placed_shifts : (v c l a : ℕ) → (v * 2 ^ (l + a)) % 2 ^ (c + l + a) / 2 ^ a ≡ (v % 2 ^ c) * 2 ^ l
placed_shifts v c l a =
    let p = pow_pos l in
    let e : v * 2 ^ (l + a) ≡ v * 2 ^ l * 2 ^ a = ap (λ d. v * d) (pow-add 2 l a) ∙ sym (mul_assoc v (2 ^ l) (2 ^ a)) in
    field_of (v * 2 ^ (l + a)) (c + l) a
    ∙ ap (λ d. d / 2 ^ a % 2 ^ (c + l)) e
    ∙ ap (λ q. q % 2 ^ (c + l)) (mul-div_cancel (v * 2 ^ l) (pow_pos a))
    ∙ mod-pow-add (v * 2 ^ l) c l
    ∙ ap (λ q. q % 2 ^ c * 2 ^ l + v * 2 ^ l % 2 ^ l) (mul-div_cancel v p)
    ∙ ap (λ q. v % 2 ^ c * 2 ^ l + q) (mul-mod_left v (2 ^ l))
    ∙ omega arith

-- the old bits taken out and new ones put in stay within the number's bits
pub replaced_below : (old v c l a : ℕ) → old < 2 ^ (c + l + a) → ((old / 2 ^ l % 2 ^ c) * 2 ^ l ≤ old) × (old - (old / 2 ^ l % 2 ^ c) * 2 ^ l + (v % 2 ^ c) * 2 ^ l < 2 ^ (c + l + a))
replaced_below old v c l a lt =
    let low : old % 2 ^ (c + l) ≡ (old / 2 ^ l % 2 ^ c) * 2 ^ l + old % 2 ^ l = mod-pow-add old c l in
    let whole : old / 2 ^ (c + l) * 2 ^ (c + l) + old % 2 ^ (c + l) ≡ old = div-add-mod' old (2 ^ (c + l)) in
    let split : 2 ^ (c + l + a) ≡ 2 ^ (c + l) * 2 ^ a = pow-add 2 (c + l) a in
    let split' : 2 ^ (c + l) ≡ 2 ^ c * 2 ^ l = pow-add 2 c l in
    let rest : old % 2 ^ l < 2 ^ l = mod_below old (2 ^ l) (pow_pos l) in
    let new : v % 2 ^ c < 2 ^ c = mod_below v (2 ^ c) (pow_pos c) in
    let high : old / 2 ^ (c + l) < 2 ^ a = (div-lt_iff_lt-mul (pow_pos (c + l))).1 (let s : old < 2 ^ a * 2 ^ (c + l) = omega (arith, split, mul_comm (2 ^ (c + l)) (2 ^ a)) in s) in
    let top : (old / 2 ^ (c + l) + 1) * 2 ^ (c + l) ≤ 2 ^ a * 2 ^ (c + l) = mul-le-mul_right (2 ^ (c + l)) (omega arith) in
    let fits : (v % 2 ^ c + 1) * 2 ^ l ≤ 2 ^ c * 2 ^ l = mul-le-mul_right (2 ^ l) (omega arith) in
    let up : (old / 2 ^ (c + l) + 1) * 2 ^ (c + l) ≡ old / 2 ^ (c + l) * 2 ^ (c + l) + 2 ^ (c + l) = grind arith in
    let up' : (v % 2 ^ c + 1) * 2 ^ l ≡ v % 2 ^ c * 2 ^ l + 2 ^ l = grind arith in
    let swap = mul_comm (2 ^ (c + l)) (2 ^ a) in
    (omega arith, omega arith)

-- the bits above a field of numbers of n bytes
abbrev above : (n low count : ℕ) → ℕ
above n low count = 8 * n - (low + count)

pub bits_read : (n v low count : ℕ) → low + count ≤ 8 * n → (v * 2 ^ above n low count) % 256 ^ n / 2 ^ (8 * n - count) ≡ bits_of low count v
bits_read n v low count fits =
    let a : ℕ = 8 * n - (low + count) in
    let w : count + (low + a) ≡ 8 * n = omega arith in
    let k : 8 * n - count ≡ low + a = omega arith in
    ap (λ m. (v * 2 ^ a) % m / 2 ^ (8 * n - count)) (bytes-bits n ∙ ap (λ e. 2 ^ e) (sym w))
    ∙ ap (λ e. (v * 2 ^ a) % 2 ^ (count + (low + a)) / 2 ^ e) k
    ∙ field_shifts v count low a

pub bits_placed : (n v low count : ℕ) → low + count ≤ 8 * n → (v * 2 ^ (8 * n - count)) % 256 ^ n / 2 ^ above n low count ≡ (v % 2 ^ count) * 2 ^ low
bits_placed n v low count fits =
    let a : ℕ = 8 * n - (low + count) in
    let w : count + low + a ≡ 8 * n = omega arith in
    let k : 8 * n - count ≡ low + a = omega arith in
    ap (λ m. (v * 2 ^ (8 * n - count)) % m / 2 ^ a) (bytes-bits n ∙ ap (λ e. 2 ^ e) (sym w))
    ∙ ap (λ e. (v * 2 ^ e) % 2 ^ (count + low + a) / 2 ^ a) k
    ∙ placed_shifts v count low a

pub bits_below : (n v low count : ℕ) → count ≤ 8 * n → bits_of low count v < 256 ^ n
bits_below n v low count fits =
    let under : bits_of low count v < 2 ^ count = mod_below (v / 2 ^ low) (2 ^ count) (pow_pos count) in
    let more : 2 ^ count ≤ 2 ^ (8 * n) = pow-le-pow_right (omega arith) fits in
    omega (arith, bytes-bits n)

-- the field in its place is within the old value, and the new value within its bytes
pub with_bits_below : (n old v low count : ℕ) → low + count ≤ 8 * n → old < 256 ^ n → (bits_of low count old * 2 ^ low ≤ old) × (with_bits low count old v < 256 ^ n)
with_bits_below n old v low count fits lt =
    let a : ℕ = 8 * n - (low + count) in
    let w : count + low + a ≡ 8 * n = omega arith in
    let whole : 256 ^ n ≡ 2 ^ (count + low + a) = bytes-bits n ∙ ap (λ e. 2 ^ e) (sym w) in
    let r = replaced_below old v count low a (subst (λ m. old < m) whole lt) in
    (r.0, subst (λ m. with_bits low count old v < m) (sym whole) r.1)

pub placed_below : (n v low count : ℕ) → low + count ≤ 8 * n → (v % 2 ^ count) * 2 ^ low < 256 ^ n
placed_below n v low count fits =
    let r = with_bits_below n 0 v low count fits (bytes_pos n) in
    omega (arith, r.1)

-- ---- numbers of 64 bits

pub eight : (size_at 8).bytes ≡ 8
unfolding size_at
eight = refl

pub four : (size_at 4).bytes ≡ 4
unfolding size_at
four = refl

-- sign-extended from 8 bytes
pub extended : (v n : ℕ) → v < 2 ^ 63 → residue n (signed_value 8 (residue 8 (negsuc v))) ≡ residue n (negsuc v)
extended v n lt =
    let small : v % 256 ^ 8 ≡ v = mod-eq_of_lt (omega arith) in
    let r : residue 8 (negsuc v) ≡ 256 ^ 8 - 1 - v = ap (λ x. 256 ^ 8 - 1 - x) small in
    ap (λ x. residue n (signed_value 8 x)) r ∙ ap (residue n) (negative (256 ^ 8 - 1 - v) (omega arith))
    ∙ ap (λ x. residue n (negsuc x)) (let e : 256 ^ 8 - 1 - (256 ^ 8 - 1 - v) ≡ v = omega arith in e)
  where
    negative : (x : ℕ) → 256 ^ 8 ≤ 2 * x → signed_value 8 x ≡ negsuc (256 ^ 8 - 1 - x)
    negative x more = ap (λ b. if b then pos x else negsuc (256 ^ 8 - 1 - x)) (let e : nat_lt (2 * x) (256 ^ 8) ≡ false = grind (arith, nat_tests) in e)

-- ---- divisions

pub no_value_same : (f : Op2) (b : ℕ) → machine.has_no_value f b ≡ mine.has_no_value f b
no_value_same IntDiv b = refl
no_value_same IntRem b = refl
no_value_same IntSdiv b = refl
no_value_same IntSrem b = refl
no_value_same _ b = refl
