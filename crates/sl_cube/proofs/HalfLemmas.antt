-- The highest bit of a number, the halves of a set of numbers at a bit, and bits that are cleared.
use Rattle.std.proofs.Common.{◌≡◌, ℕ, ◌+◌, ◌-◌, ◌*◌, ◌/◌, ◌%◌, ◌<◌, ◌≤◌, ◌^◌, ◌⊎◌, suc, min, max, bit_and, bit_or, bit_xor, arith, sym, ◌∙◌, ap, refl, inl, inr, subst}
use Rattle.std.specs.Int.{bit_at, Width, bit_not}
use Rattle.std.specs.Int.Count.{count_leading_zeros}
use mir.Val.{bits}
use Rattle.std.proofs.Math.Nat.{div-lt_iff_lt-mul}
use Rattle.std.proofs.lemmas.Nat.{and_le_r, le_or_l, shr-shr, shr_split, le-div, div_below, leading_top, one_shl, pow_pos}
use Rattle.std.proofs.lemmas.Nat.Bits.{bit_at_and, bit_at_or, bit_at_xor, bit_at_not, bit_at-lt, bit_at-zero, same_from_bits, same_from_bits_below, bit_at_above, bit_at-pow_same, and_pow}
use Rattle.std.proofs.lemmas.Bool.{cases_lt, cases_eq}
use Rattle.sl_cube.specs.Bits.{Agrees}
use Rattle.sl_cube.specs.TopBits.{IsTopBit}
use Rattle.sl_cube.proofs.BitLemmas.{within_bit, clash, pow_bit}

-- ---- the bits of `!n`

not_below : (w : Width) → (n : ℕ) → bit_not w n < 2 ^ bits w
not_below w n = omega (arith, pow_pos (bits w))

was_off : (a b : ℕ) → a < 2 → b ≡ 1 - a → b ≡ 1 → a ≡ 0
was_off a b s e on = omega arith

was_on : (a b : ℕ) → a < 2 → b ≡ 1 - a → b ≡ 0 → a ≡ 1
was_on a b s e off = omega arith

pub off_from_not : (w : Width) → (n i : ℕ) → n < 2 ^ bits w → bit_at (bit_not w n) i ≡ 1 → bit_at n i ≡ 0
off_from_not w n i fits on = elim (cases_lt i (bits w)) [
  | inl below ↦ was_off (bit_at n i) (bit_at (bit_not w n) i) (bit_at-lt n i) (bit_at_not w n i fits below) on
  | inr above ↦ absurd (clash (bit_at (bit_not w n) i) (bit_at_above (bit_not w n) (bits w) i (not_below w n) above) on)
]

pub on_from_not : (w : Width) → (n i : ℕ) → n < 2 ^ bits w → i < bits w → bit_at (bit_not w n) i ≡ 0 → bit_at n i ≡ 1
on_from_not w n i fits below off = was_on (bit_at n i) (bit_at (bit_not w n) i) (bit_at-lt n i) (bit_at_not w n i fits below) off

-- ---- the highest bit

shift_of : (z j k : ℕ) → z + suc j ≡ suc k → k - z ≡ j
shift_of z j k e = omega arith

one_of : (q : ℕ) → 1 ≤ q → q < 2 → q % 2 ≡ 1
one_of q a b = omega arith

top_at : (n j : ℕ) → 2 ^ j ≤ n → n < 2 ^ suc j → IsTopBit n (2 ^ j)
top_at n j low high = (
  j,
  refl,
  one_of (n / 2 ^ j) (le-div 1 n (2 ^ j) (pow_pos j) (omega arith)) (div_below n (2 ^ j) 2 (pow_pos j) (omega arith)),
  λ i above. bit_at_above n (suc j) i high above,
)

pub top_from_leading : (n : ℕ) → 0 < n → n < 2 ^ 128 → IsTopBit n (1 * 2 ^ (127 - count_leading_zeros 128 n) % 2 ^ 128)
top_from_leading n pos fits =
    let t = leading_top 128 n pos fits in
    let shift : 127 - count_leading_zeros 128 n ≡ t.0 = shift_of (count_leading_zeros 128 n) t.0 127 t.1 in
    let below : t.0 < 128 = omega arith in
    let value : 1 * 2 ^ (127 - count_leading_zeros 128 n) % 2 ^ 128 ≡ 2 ^ t.0 =
    ap (λ x. 1 * 2 ^ x % 2 ^ 128) shift ∙ one_shl t.0 128 below in
    subst (λ b. IsTopBit n b) (sym value) (top_at n t.0 t.2 t.3)

pub top_le : (n b : ℕ) → IsTopBit n b → b ≤ n
top_le n b t = elim (cases_lt n (2 ^ t.0)) [
  | inl below ↦ absurd (clash (bit_at n t.0) (bit_at_above n t.0 t.0 below (omega arith)) t.2)
  | inr above ↦ subst (λ (x : ℕ). x ≤ n) (sym t.1) above
]

-- ---- the two sides of a bit

place : (b k i : ℕ) → b ≡ 2 ^ k → bit_at b i ≡ 1 → i ≡ k
place b k i e on = pow_bit k i (ap (λ x. bit_at x i) (sym e) ∙ on)

here : (b k : ℕ) → b ≡ 2 ^ k → bit_at b k ≡ 1
here b k e = ap (λ x. bit_at x k) e ∙ bit_at-pow_same k

not_zero : (b : ℕ) → b < 2 → (b ≡ 0 → ⊥) → b ≡ 1
not_zero b a h = grind arith

pub side_of : (n b q : ℕ) → IsTopBit n b → Agrees b 0 q ⊎ Agrees b b q
side_of n b q t = elim (cases_eq (bit_at q t.0) 0) [
  | inl off ↦ inl (λ i on. ap (λ x. bit_at q x) (place b t.0 i t.1 on) ∙ off ∙ sym (bit_at-zero i))
  | inr other ↦ inr (λ i on. ap (λ x. bit_at q x) (place b t.0 i t.1 on) ∙ not_zero (bit_at q t.0) (bit_at-lt q t.0) other ∙ sym on)
]

pub none_agrees : (b v q : ℕ) → b ≡ 0 → Agrees b v q
none_agrees b v q e = λ i on. absurd (clash (bit_at b i) (ap (λ x. bit_at x i) e ∙ bit_at-zero i) on)

no_times : (x : ℕ) → 0 * x ≡ 0
no_times x = omega arith

pub open_at : (m n b : ℕ) → ((i : ℕ) → bit_at n i ≡ 1 → bit_at m i ≡ 0) → IsTopBit n b → bit_and m b ≡ 0
open_at m n b off t = ap (bit_and m) t.1 ∙ and_pow m t.0 ∙ ap (λ x. x * 2 ^ t.0) (off t.0 t.2) ∙ no_times (2 ^ t.0)

and_nothing : (m : ℕ) → bit_and m 0 ≡ 0
and_nothing m = omega (arith, and_le_r m 0)

pub open_none : (m b : ℕ) → b ≡ 0 → bit_and m b ≡ 0
open_none m b e = ap (bit_and m) e ∙ and_nothing m

-- what a value has under bits that the mask leaves open, any other value has too
pub open_shared : (m v b x : ℕ) → bit_and m b ≡ 0 → bit_and v (bit_and m b) ≡ bit_and x (bit_and m b)
open_shared m v b x e = ap (bit_and v) e ∙ and_nothing v ∙ sym (and_nothing x) ∙ ap (bit_and x) (sym e)

grown_bit : (m b j : ℕ) → m ≡ 0 → b ≡ 1 → j ≡ max m b → m ≡ j → ⊥
grown_bit m b j e f g h = omega arith

pub grown : (m n b : ℕ) → ((i : ℕ) → bit_at n i ≡ 1 → bit_at m i ≡ 0) → IsTopBit n b → m < bit_or m b
grown m n b off t = elim (cases_eq m (bit_or m b)) [
  | inl same ↦ absurd (grown_bit (bit_at m t.0) (bit_at b t.0) (bit_at (bit_or m b) t.0) (off t.0 t.2) (here b t.0 t.1) (bit_at_or m b t.0)
      (ap (λ x. bit_at x t.0) same))
  | inr other ↦ omega (arith, le_or_l m b)
]

-- ---- the order of the two sides

bit_at-shr : (p j i : ℕ) → bit_at (p / 2 ^ j) i ≡ bit_at p (j + i)
bit_at-shr p j i = ap (λ x. x % 2) (shr-shr p j i)

odd_after_even : (a b : ℕ) → a / 2 ≡ b / 2 → a % 2 ≡ 0 → b % 2 ≡ 1 → a < b
odd_after_even a b e f g = omega arith

below_from_shr : (p q k : ℕ) → p / 2 ^ k < q / 2 ^ k → p < q
below_from_shr p q k h =
    let up : p < q / 2 ^ k * 2 ^ k = (div-lt_iff_lt-mul (pow_pos k)).0 h in
    omega (arith, shr_split q k)

pub less_from_bits : (k p q : ℕ) → ((i : ℕ) → k < i → bit_at p i ≡ bit_at q i) → bit_at p k ≡ 0 → bit_at q k ≡ 1 → p < q
less_from_bits k p q same off on =
    let high : p / 2 ^ (k + 1) ≡ q / 2 ^ (k + 1) =
    same_from_bits _ _ (λ i. bit_at-shr p (k + 1) i ∙ same (k + 1 + i) (omega arith) ∙ sym (bit_at-shr q (k + 1) i)) in
    below_from_shr p q k (odd_after_even _ _ (shr-shr p k 1 ∙ high ∙ sym (shr-shr q k 1)) off on)

-- numbers that agree with a mask which fixes each bit above the highest open one
pub sides_in_order : (w : Width) → (m v b p q : ℕ) → m < 2 ^ bits w → p < 2 ^ bits w → q < 2 ^ bits w → IsTopBit (bit_not w m) b
    → Agrees m v p → Agrees m v q → Agrees b 0 p → Agrees b b q → p < q
sides_in_order w m v b p q mk pk qk t in_p in_q low high = less_from_bits t.0 p q
    (λ i above. elim (cases_lt i (bits w)) [
      | inl below ↦ let on = on_from_not w m i mk below (t.3 i above) in in_p i on ∙ sym (in_q i on)
      | inr past ↦ bit_at_above p (bits w) i pk past ∙ sym (bit_at_above q (bits w) i qk past)
    ])
    (low t.0 (here b t.0 t.1) ∙ bit_at-zero t.0)
    (high t.0 (here b t.0 t.1) ∙ here b t.0 t.1)

-- numbers that agree with a mask which fixes each bit
pub same_under_full : (w : Width) → (m v p q : ℕ) → m < 2 ^ bits w → p < 2 ^ bits w → q < 2 ^ bits w → bit_not w m ≡ 0
    → Agrees m v p → Agrees m v q → p ≡ q
same_under_full w m v p q mk pk qk full in_p in_q = same_from_bits_below (bits w) p q pk qk (λ i below.
    let on = on_from_not w m i mk below (ap (λ x. bit_at x i) full ∙ bit_at-zero i) in
    in_p i on ∙ sym (in_q i on))

-- ---- bits that are cleared

clear_bit : (m v z q s : ℕ) → m < 2 → z < 2 → s < 2 → v ≡ min v m → (s ≡ 1 → z ≡ 0) → (m ≡ 1 → q ≡ v) → v < 2 → max m s ≡ 1
    → min q (max m z) ≡ v
clear_bit m v z q s a b c d e f g on = grind arith

bit_at_cleared : (q m z i : ℕ) → bit_at (bit_and q (bit_or m z)) i ≡ min (bit_at q i) (max (bit_at m i) (bit_at z i))
bit_at_cleared q m z i = bit_at_and q (bit_or m z) i ∙ ap (λ x. min (bit_at q i) x) (bit_at_or m z i)

-- a number of the set, with the bits cleared that neither the mask nor the zeros have
pub cleared_agrees : (w : Width) → (m v z q : ℕ) → z < 2 ^ bits w → bit_and v m ≡ v → Agrees m v q
    → Agrees (bit_or m (bit_not w z)) v (bit_and q (bit_or m z))
cleared_agrees w m v z q zk a agrees = λ i on.
    bit_at_cleared q m z i
    ∙ clear_bit (bit_at m i) (bit_at v i) (bit_at z i) (bit_at q i) (bit_at (bit_not w z) i) (bit_at-lt m i) (bit_at-lt z i) (bit_at-lt (bit_not w z) i)
    (within_bit m v i a) (off_from_not w z i zk) (agrees i) (bit_at-lt v i) (sym (bit_at_or m (bit_not w z) i) ∙ on)

restored_bit : (m z q v r : ℕ) → q < 2 → v < 2 → m < 2 → r ≡ min q (max m z) → r ≡ v → (v ≡ 0 → z ≡ 1) → q ≡ v
restored_bit m z q v r a b c d e f = grind arith

-- a set that has the cleared number has the number, where the zeros have each bit that it fixes to 0
pub cleared_from : (m z q n w : ℕ) → ((i : ℕ) → bit_at n i ≡ 1 → bit_at w i ≡ 0 → bit_at z i ≡ 1)
    → Agrees n w (bit_and q (bit_or m z)) → Agrees n w q
cleared_from m z q n w zeros agrees = λ i on.
    restored_bit (bit_at m i) (bit_at z i) (bit_at q i) (bit_at w i) _ (bit_at-lt q i) (bit_at-lt w i) (bit_at-lt m i)
    (bit_at_cleared q m z i) (agrees i on) (zeros i on)

widened_bit : (v m s : ℕ) → v ≡ min v m → min v (max m s) ≡ v
widened_bit v m s e = omega arith

pub widened_within : (v m s : ℕ) → bit_and v m ≡ v → bit_and v (bit_or m s) ≡ v
widened_within v m s a = same_from_bits _ _ (λ i.
    bit_at_and v (bit_or m s) i ∙ ap (λ x. min (bit_at v i) x) (bit_at_or m s i) ∙ widened_bit (bit_at v i) (bit_at m i) (bit_at s i) (within_bit m v i a))

max_left : (m s : ℕ) → s < 2 → m ≡ 1 → max m s ≡ 1
max_left m s a e = omega arith

pub widened_agrees : (m s v p : ℕ) → Agrees (bit_or m s) v p → Agrees m v p
widened_agrees m s v p agrees = λ i on. agrees i (bit_at_or m s i ∙ max_left (bit_at m i) (bit_at s i) (bit_at-lt s i) on)

both_on : (a b c : ℕ) → b < 2 → c ≡ min a b → c ≡ 1 → b ≡ 1
both_on a b c l e on = omega arith

-- a bit that one mask has and another lacks
pub open_bit : (w : Width) → (n m i : ℕ) → m < 2 ^ bits w → bit_at (bit_and n (bit_not w m)) i ≡ 1 → bit_at m i ≡ 0
open_bit w n m i mk on = off_from_not w m i mk (both_on (bit_at n i) (bit_at (bit_not w m) i) _ (bit_at-lt (bit_not w m) i) (bit_at_and n (bit_not w m) i) on)

-- ---- the bits that are fixed to 0

or_keeps : (a b : ℕ) → b < 2 → a ≡ 1 → max a b ≡ 1
or_keeps a b l e = omega arith

or_adds : (a b : ℕ) → a < 2 → b ≡ 1 → max a b ≡ 1
or_adds a b l e = omega arith

one_more : (m v : ℕ) → m ≡ 1 → v ≡ 0 → (m + v) % 2 ≡ 1
one_more m v a b = omega arith

pub or_bit_left : (a b i : ℕ) → bit_at a i ≡ 1 → bit_at (bit_or a b) i ≡ 1
or_bit_left a b i on = bit_at_or a b i ∙ or_keeps (bit_at a i) (bit_at b i) (bit_at-lt b i) on

pub or_zeros : (a m v i : ℕ) → bit_at m i ≡ 1 → bit_at v i ≡ 0 → bit_at (bit_or a (bit_xor m v)) i ≡ 1
or_zeros a m v i on off = bit_at_or a (bit_xor m v) i
    ∙ or_adds (bit_at a i) (bit_at (bit_xor m v) i) (bit_at-lt a i) (bit_at_xor m v i ∙ one_more (bit_at m i) (bit_at v i) on off)
