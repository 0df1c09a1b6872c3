-- Both halves of a region by a bit: the lists whose byte is in a cube that fixes that bit alone.
use Rattle.std.proofs.Common.{◌≡◌, ℕ, ◌+◌, ◌-◌, ◌*◌, ◌^◌, ◌<◌, ◌≤◌, ◌%◌, List, get_or, Option, Some, None, MatchOption, arith, sym, ap, ◌∙◌}
use Rattle.std.specs.Int.{bit_at}
use Rattle.std.proofs.lemmas.Nat.{pow_pos}
use Rattle.std.proofs.lemmas.Nat.Bits.{bit_at-pow_same, bit_at-zero, bit_at_cat_high, bit_at_lowest}
use Rattle.sl_asm_fit.proofs.BitLemmas.{HasByteOf}
use Rattle.sl_asm_fit.proofs.WindowLemmas.{bytes_read, reads_bytes}
use Rattle.sl_asm_fit.specs.Regions.{IsOf, Misses, Narrows}
use Rattle.sl_asm_fit.specs.Windows.{ReadsIn}
use Rattle.sl_asm_fit.specs.declared.Cell.{Cell}
use Rattle.sl_asm_known.specs.OpenBits.{HasNoHalf, IsHalf}
use Rattle.sl_asm_known.specs.declared.Bit.{Bit}
use Rattle.sl_cube.proofs.BitLemmas.{pow_bit}
use Rattle.sl_cube.specs.declared.Cube.{Cube}

bit_here : (b k : ℕ) → b < 2 → bit_at (b * 2 ^ k) k ≡ b
bit_here b k small =
    let whole : b * 2 ^ k ≡ b * 2 ^ k + 0 = omega arith in
    let none : k - k ≡ 0 = omega arith in
    let last : b % 2 ≡ b = omega (arith, small) in
    let same : k ≤ k = omega arith in
    ap (λ (x : ℕ). bit_at x k) whole ∙ bit_at_cat_high b k 0 k (pow_pos k) same ∙ ap (bit_at b) none ∙ bit_at_lowest b ∙ last

module _ (cube : Cube) (place b : ℕ) (low : place < 8) (small : b < 2) (mask : cube.mask ≡ 2 ^ (120 + place)) (value : cube.value ≡ b * 2 ^ (120 + place)) where
  only : (i : ℕ) → bit_at cube.mask i ≡ 1 → i ≡ 120 + place
  only i on = pow_bit (120 + place) i (sym (ap (λ (x : ℕ). bit_at x i) mask) ∙ on)

  fixed : bit_at cube.mask (120 + place) ≡ 1
  fixed = ap (λ (x : ℕ). bit_at x (120 + place)) mask ∙ bit_at-pow_same (120 + place)

  given : bit_at cube.value (120 + place) ≡ b
  given = ap (λ (x : ℕ). bit_at x (120 + place)) value ∙ bit_here b (120 + place) small

  pub bit_from_byte : (x : ℕ) → HasByteOf cube 0 x → bit_at x place ≡ b
  bit_from_byte x has = has place low fixed ∙ given

  pub byte_from_bit : (x k : ℕ) → k < 16 → (k ≡ 0 → bit_at x place ≡ b) → HasByteOf cube k x
  byte_from_bit x k lt has = λ j below on.
      let is : 8 * (15 - k) + j ≡ 120 + place = only (8 * (15 - k) + j) on in
      let first : k ≡ 0 = omega (arith, is, low, below, lt) in
      let here : j ≡ place = omega (arith, is, first) in
      ap (bit_at x) here ∙ has first ∙ sym given ∙ sym (ap (bit_at cube.value) is)

module _ (cube : Cube) (region : List Cell) (bit : Bit) (b : ℕ) (low : bit.place < 8) (small : b < 2) (mask : cube.mask ≡ 2 ^ (120 + bit.place))
    (value : cube.value ≡ b * 2 ^ (120 + bit.place)) (none : cube.ctx_mask ≡ 0) (fits : cube.mask < 2 ^ 128) (at : bit.index ≤ 255) where
  first_byte : (xs : List ℕ) → get_or xs (bit.index + 0) 0 ≡ get_or xs bit.index 0
  first_byte xs = let e : bit.index + 0 ≡ bit.index = omega arith in ap (λ (i : ℕ). get_or xs i 0) e

  nothing_fixed : (i : ℕ) → bit_at cube.ctx_mask i ≡ 1 → ⊥
  nothing_fixed i on = omega (arith, sym (ap (λ (x : ℕ). bit_at x i) none ∙ bit_at-zero i) ∙ on)

  reads : (xs : List ℕ) → IsOf region xs → bit_at (get_or xs bit.index 0) bit.place ≡ b → ReadsIn bit.index 0 cube xs
  reads xs inside e =
      bytes_read cube xs bit.index 0 at inside.are_bytes fits
      (λ k lt. byte_from_bit cube bit.place b low small mask value (get_or xs (bit.index + k) 0) k lt
      (λ is. ap (λ (i : ℕ). bit_at (get_or xs (bit.index + i) 0) bit.place) is ∙ ap (λ (x : ℕ). bit_at x bit.place) (first_byte xs) ∙ e))
      (λ i on. absurd (nothing_fixed i on))

  pub is_half : (half : List Cell) → Narrows region bit.index 0 cube half → IsHalf region bit b half
  is_half half n = record {
    long = n.long;
    within = n.within;
    has = λ xs inside.
        sym (ap (λ (x : ℕ). bit_at x bit.place) (first_byte xs))
        ∙ bit_from_byte cube bit.place b low small mask value (get_or xs (bit.index + 0) 0)
        (reads_bytes cube xs bit.index 0 at (n.within xs inside).are_bytes (n.reads xs inside) 0 (omega arith));
    all = λ xs inside e. n.all xs inside (reads xs inside e);
  }

  pub has_no_half : Misses region bit.index 0 cube → HasNoHalf region bit b
  has_no_half misses = λ xs inside e. misses xs inside (reads xs inside e)

  pub half_or_none : {X : Type 0} (items : X → List Cell) (answer : Option X)
      → MatchOption answer (Misses region bit.index 0 cube) (λ x. Narrows region bit.index 0 cube (items x))
      → MatchOption answer (HasNoHalf region bit b) (λ x. IsHalf region bit b (items x))
  half_or_none items (Some x) n = is_half (items x) n
  half_or_none items None misses = has_no_half misses
