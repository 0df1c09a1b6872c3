-- Bits of numbers by masks: those of a field are taken or replaced, all others stay.
use Rattle.std.proofs.Common.{◌≡◌, ℕ, ◌+◌, ◌-◌, ◌*◌, ◌/◌, ◌%◌, ◌^◌, ◌<◌, ◌≤◌, bit_and, bit_or, sym, ap, ◌∙◌, subst, arith}
use Rattle.std.proofs.lemmas.Nat.{and-not, and_assoc, and_comm, and_mask, mod-pow-add, pow-add, pow_pos}
use Rattle.std.proofs.lemmas.Nat.Bits.{and_high}
use Rattle.std.proofs.Math.Nat.{div-lt_iff_lt-mul, mod-eq_of_lt, mod-mod, mul-div_cancel, mul-mod_left, pow-le-pow_right}
use Rattle.std.proofs.Math.Pow.{mod-mod-pow}
use lib.Bits.{and_zero_r, or_add_and, or_disjoint}
use Rattle.sl_faithful_code.specs.Bits.{mask, ones}
use Rattle.sl_faithful_code.proofs.Numbers.{placed_below, with_bits_below}
use Rattle.sl_meaning_sections.specs.Values.{bits_of, with_bits}
use Rattle.sl_word.proofs.Powers.{bytes-bits}

-- the numbers of a field's bits fit the bytes that have it
pub field_below : (n low count : ℕ) → low + count ≤ 8 * n → 2 ^ (count + low) ≤ 256 ^ n
field_below n low count fits =
    let le : 2 ^ (count + low) ≤ 2 ^ (8 * n) = pow-le-pow_right (omega arith) (omega arith) in
    omega (arith, bytes-bits n)

pub mask_below : (n low count : ℕ) → low + count ≤ 8 * n → mask low count < 256 ^ n
mask_below n low count fits =
    let le = field_below n low count fits in
    let some : 0 < 2 ^ low = pow_pos low in
    let some' : 0 < 2 ^ (count + low) = pow_pos (count + low) in
    omega arith

-- what stays of a value
pub others_are : (n y low count : ℕ) → low + count ≤ 8 * n → y < 256 ^ n → bit_and y (256 ^ n - 1 - mask low count) ≡ y - bits_of low count y * 2 ^ low
others_are n y low count fits hy =
    let w : 256 ^ n ≡ 2 ^ (8 * n) = bytes-bits n in
    let small : mask low count < 2 ^ (8 * n) = subst (λ k. mask low count < k) w (mask_below n low count fits) in
    let less : y < 2 ^ (8 * n) = subst (λ k. y < k) w hy in
    let both = and-not (8 * n) (mask low count) y small less in
    let taken : bit_and (mask low count) y ≡ bits_of low count y * 2 ^ low = and_comm (mask low count) y ∙ and_high y count low in
    let turned : bit_and y (256 ^ n - 1 - mask low count) ≡ bit_and (2 ^ (8 * n) - 1 - mask low count) y = ap (λ k. bit_and y (k - 1 - mask low count)) w ∙ and_comm y (2 ^ (8 * n) - 1 - mask low count) in
    turned ∙ omega (arith, both, taken)

-- bits in their place are all within the mask, and none is among the others
pub placed_within : (x low count : ℕ) → bit_and (x % 2 ^ count * 2 ^ low) (mask low count) ≡ x % 2 ^ count * 2 ^ low
placed_within x low count =
    and_high (x % 2 ^ count * 2 ^ low) count low
    ∙ ap (λ q. q % 2 ^ count * 2 ^ low) (mul-div_cancel (x % 2 ^ count) (pow_pos low))
    ∙ ap (λ q. q * 2 ^ low) (mod-mod x (2 ^ count))

apart : (n x low count : ℕ) → low + count ≤ 8 * n → bit_and (256 ^ n - 1 - mask low count) (x % 2 ^ count * 2 ^ low) ≡ 0
apart n x low count fits =
    let w : 256 ^ n ≡ 2 ^ (8 * n) = bytes-bits n in
    let p : ℕ = x % 2 ^ count * 2 ^ low in
    let small : mask low count < 2 ^ (8 * n) = subst (λ k. mask low count < k) w (mask_below n low count fits) in
    let less : p < 2 ^ (8 * n) = subst (λ k. p < k) w (placed_below n x low count fits) in
    let both = and-not (8 * n) (mask low count) p small less in
    let all : bit_and (mask low count) p ≡ p = and_comm (mask low count) p ∙ placed_within x low count in
    ap (λ k. bit_and (k - 1 - mask low count) p) w ∙ omega (arith, both, all)

-- new bits beside the others
pub joined : (n y x low count : ℕ) → low + count ≤ 8 * n → y < 256 ^ n → bit_or (y - bits_of low count y * 2 ^ low) (x % 2 ^ count * 2 ^ low) ≡ with_bits low count y x
joined n y x low count fits hy =
    let keep : ℕ = 256 ^ n - 1 - mask low count in
    let p : ℕ = x % 2 ^ count * 2 ^ low in
    let none : bit_and (bit_and y keep) p ≡ 0 = and_assoc p y keep ∙ ap (bit_and y) (apart n x low count fits) ∙ and_zero_r y in
    let stays : bit_and y keep ≡ y - bits_of low count y * 2 ^ low = others_are n y low count fits hy in
    ap (λ a. bit_or a p) (sym stays) ∙ or_disjoint (bit_and y keep) p none ∙ ap (λ a. a + p) stays

-- all of them set, and none
pub all_set : (n y x low count : ℕ) → low + count ≤ 8 * n → y < 256 ^ n → x % 2 ^ count * 2 ^ low ≡ mask low count → bit_or y (x % 2 ^ count * 2 ^ low) ≡ with_bits low count y x
all_set n y x low count fits hy is =
    let sum = or_add_and y (mask low count) in
    let taken : bit_and y (mask low count) ≡ bits_of low count y * 2 ^ low = and_high y count low in
    let le = (with_bits_below n y x low count fits hy).0 in
    ap (bit_or y) is ∙ (let e : bit_or y (mask low count) ≡ y - bits_of low count y * 2 ^ low + mask low count = omega (arith, sum, taken, le) in e)
    ∙ ap (λ p. y - bits_of low count y * 2 ^ low + p) (sym is)

pub none_set : (n y x low count : ℕ) → low + count ≤ 8 * n → y < 256 ^ n → x % 2 ^ count * 2 ^ low ≡ 0 → bit_and y (256 ^ n - 1 - mask low count) ≡ with_bits low count y x
none_set n y x low count fits hy is =
    others_are n y low count fits hy ∙ (let e : y - bits_of low count y * 2 ^ low ≡ y - bits_of low count y * 2 ^ low + 0 = omega arith in e)
    ∙ ap (λ p. y - bits_of low count y * 2 ^ low + p) (sym is)

-- ---- values that are moved to their place

-- what has no other bits is cut by nothing
pub few_bits : (x count : ℕ) → x < 2 ^ count → x % 2 ^ count ≡ x
few_bits x count lt = mod-eq_of_lt lt

pub raised_few : (n x low count : ℕ) → low + count ≤ 8 * n → x < 2 ^ count → (x * 2 ^ low) % 256 ^ n ≡ x % 2 ^ count * 2 ^ low
raised_few n x low count fits lt =
    let same : x % 2 ^ count ≡ x = few_bits x count lt in
    ap (λ q. (q * 2 ^ low) % 256 ^ n) (sym same) ∙ mod-eq_of_lt (placed_below n x low count fits)

pub raised_cut : (n x low count : ℕ) → low + count ≤ 8 * n → (x % 2 ^ count * 2 ^ low) % 256 ^ n ≡ x % 2 ^ count * 2 ^ low
raised_cut n x low count fits = mod-eq_of_lt (placed_below n x low count fits)

-- at the top the move cuts by itself
pub raised_top : (n x low count : ℕ) → low + count ≡ 8 * n → (x * 2 ^ low) % 256 ^ n ≡ x % 2 ^ count * 2 ^ low
raised_top n x low count top =
    let w : 256 ^ n ≡ 2 ^ (count + low) = bytes-bits n ∙ ap (λ k. 2 ^ k) (let e : 8 * n ≡ count + low = omega arith in e) in
    ap (λ m. (x * 2 ^ low) % m) w ∙ mod-pow-add (x * 2 ^ low) count low
    ∙ ap (λ q. q % 2 ^ count * 2 ^ low + (x * 2 ^ low) % 2 ^ low) (mul-div_cancel x (pow_pos low))
    ∙ ap (λ q. x % 2 ^ count * 2 ^ low + q) (mul-mod_left x (2 ^ low)) ∙ omega arith

-- ---- bits that are taken

pub lowest : (x count : ℕ) → bit_and x (ones count) ≡ x % 2 ^ count
lowest x count = and_mask x count

-- the bits above those that stay don't matter
pub cut_lowest : (x n count : ℕ) → count ≤ 8 * n → x % 256 ^ n % 2 ^ count ≡ x % 2 ^ count
cut_lowest x n count few =
    let whole : (8 * n - count) + count ≡ 8 * n = omega arith in
    let w : 256 ^ n ≡ 2 ^ ((8 * n - count) + count) = bytes-bits n ∙ ap (λ k. 2 ^ k) (sym whole) in
    ap (λ m. x % m % 2 ^ count) w ∙ mod-mod-pow x (8 * n - count) count

-- from a field at the top nothing is above
pub top_field : (n v low count : ℕ) → low + count ≡ 8 * n → v < 256 ^ n → v / 2 ^ low < 2 ^ count
top_field n v low count top lt =
    let w : 256 ^ n ≡ 2 ^ count * 2 ^ low = bytes-bits n ∙ ap (λ k. 2 ^ k) (let e : 8 * n ≡ count + low = omega arith in e) ∙ pow-add 2 count low in
    (div-lt_iff_lt-mul (pow_pos low)).1 (subst (λ m. v < m) w lt)
