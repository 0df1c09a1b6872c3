-- Numbers of which all, some or no bits are known.
use Rattle.std.proofs.Common.{◌≡◌, ◌↔◌, ℕ, ◌+◌, ◌-◌, ◌%◌, ◌^◌, ◌<◌, min, bit_and, bit_or, bit_xor, Bool, true, false, IsTrue, arith, sym, ap, ◌∙◌, refl, subst}
use Rattle.std.specs.Prelude.{ℤ, FitsSigned, not}
use Rattle.std.specs.Int.{bit_at, cast_signed, cast_unsigned, w64}
use Rattle.std.proofs.Math.Facts.{Fits-of_lt, Fits-of_z, sfits_to_z}
use Rattle.std.proofs.Math.Nat.{mod-eq_of_lt}
use Rattle.std.proofs.lemmas.Int.{of_z-to_z, to_z-of_z}
use Rattle.std.proofs.lemmas.Bool.{false≢true}
use Rattle.std.proofs.lemmas.Nat.{and_comm, and_le_l, and_mask}
use Rattle.std.proofs.lemmas.Nat.Bits.{bit_at_and, bit_at-lt}
use Rattle.sl_asm_bits.proofs.BitLemmas.{same_at}
use Rattle.sl_asm_bits.specs.Known.{Has, HasBits, IsSameBelow}
use Rattle.sl_asm_bits.specs.declared.Known.{Known}
use Rattle.sl_cube.specs.Bits.{Agrees}
use Rattle.sl_cube.proofs.BitLemmas.{agrees_from_and, agrees_joined, and_from_agrees, and_within, mask_included, narrower_agrees, shared_from_common, value_included}

-- ---- the bits of a number under a mask

min_here : (a b : ℕ) → a < 2 → b ≡ 1 → min a b ≡ a
min_here a b small on = omega (arith, small, on)

masked_bit : (mask v i : ℕ) → bit_at mask i ≡ 1 → bit_at (bit_and v mask) i ≡ bit_at v i
masked_bit mask v i on = bit_at_and v mask i ∙ min_here (bit_at v i) (bit_at mask i) (bit_at-lt v i) on

pub masked : (mask v n : ℕ) → Agrees mask v n ↔ Agrees mask (bit_and v mask) n
masked mask v n = (
  λ f i on. f i on ∙ sym (masked_bit mask v i on),
  λ f i on. f i on ∙ masked_bit mask v i on,
)

-- ---- both directions of two's complement

pub unsigned_fits : (z : ℤ) → FitsSigned w64 z → cast_unsigned w64 z < 2 ^ 64
unsigned_fits z fits = (Fits-of_z {w = w64} {z = z} fits).fits

pub signed_has : (k : Known) (n : ℕ) → n < 2 ^ 64 → Has k n → HasBits k (cast_signed w64 n)
signed_has k n small f = record {
  fits = sfits_to_z {w = w64} {n = n} (Fits-of_lt {w = w64} {n = n} small);
  bits = subst (λ (x : ℕ). Has k x) (sym (of_z-to_z w64 n small)) f;
}

pub and_fits : (m n : ℕ) → m < 2 ^ 64 → n < 2 ^ 64 → bit_and m n < 2 ^ 64
and_fits m n a b = omega (arith, and_le_l m n, a)

-- a number all of whose bits are known
pub all_bits : (v : ℕ) (z : ℤ) → v < 2 ^ 64 → FitsSigned w64 z → Agrees (2 ^ 64 - 1) v (cast_unsigned w64 z) → z ≡ cast_signed w64 v
all_bits v z small fits f =
    let n : ℕ = cast_unsigned w64 z in
    let masked_v : bit_and v (2 ^ 64 - 1) ≡ v = and_mask v 64 ∙ mod-eq_of_lt small in
    let masked_n : bit_and n (2 ^ 64 - 1) ≡ n = and_mask n 64 ∙ mod-eq_of_lt (unsigned_fits z fits) in
    let same : n ≡ v = sym masked_n ∙ and_from_agrees (2 ^ 64 - 1) v n masked_v f in
    sym (to_z-of_z w64 z fits) ∙ ap (cast_signed w64) same

-- ---- the lowest bits

pub low_has : (count n v : ℕ) → Agrees (2 ^ count - 1) v n ↔ (n % 2 ^ count ≡ v % 2 ^ count)
low_has count n v =
    let mask : ℕ = 2 ^ count - 1 in (
      λ f. sym (and_mask n count) ∙ and_from_agrees mask (bit_and v mask) n (and_within v mask) ((masked mask v n).0 f) ∙ and_mask v count,
      λ e. (masked mask v n).1 (agrees_from_and mask (bit_and v mask) n (and_mask n count ∙ e ∙ sym (and_mask v count))),
    )

module _ (count : ℕ) (n z : ℤ) (k : Known) (mask value : ℕ) (me : mask ≡ 2 ^ count - 1) (ve : value ≡ cast_unsigned w64 n)
    (iff : (m : ℕ) → Agrees mask value m ↔ Has k m) where
  pub low_bits_has : FitsSigned w64 z → HasBits k z ↔ IsSameBelow count z n
  low_bits_has fits =
      let y : ℕ = cast_unsigned w64 z in
      let x : ℕ = cast_unsigned w64 n in
      let said = low_has count y x in (
        λ h. said.0 (subst (λ (v : ℕ). Agrees (2 ^ count - 1) v y) ve (subst (λ (m : ℕ). Agrees m value y) me ((iff y).1 h.bits))),
        λ e. record {
          fits = fits;
          bits = (iff y).0 (subst (λ (m : ℕ). Agrees m value y) (sym me) (subst (λ (v : ℕ). Agrees (2 ^ count - 1) v y) (sym ve) (said.1 e)));
        },
      )

-- ---- one or the other

joint_left : (am bm av bv n : ℕ) → am < 2 → bm < 2 → av < 2 → bv < 2 → (am ≡ 1 → n ≡ av) → (min am bm + min (min am bm) ((av + bv) % 2)) % 2 ≡ 1 → n ≡ av
joint_left am bm av bv n a b c d f on = grind arith

joint_right : (am bm av bv n : ℕ) → am < 2 → bm < 2 → av < 2 → bv < 2 → (bm ≡ 1 → n ≡ bv) → (min am bm + min (min am bm) ((av + bv) % 2)) % 2 ≡ 1 → n ≡ av
joint_right am bm av bv n a b c d f on = grind arith

module _ (am av bm bv n : ℕ) where
  abbrev joint_mask : ℕ
  joint_mask = bit_xor (bit_and am bm) (bit_and (bit_and am bm) (bit_xor av bv))

  joint_at : (i : ℕ) → bit_at joint_mask i ≡ (min (bit_at am i) (bit_at bm i) + min (min (bit_at am i) (bit_at bm i)) ((bit_at av i + bit_at bv i) % 2)) % 2
  joint_at i = same_at (bit_and am bm) av bv i ∙ ap (λ (s : ℕ). (s + min s ((bit_at av i + bit_at bv i) % 2)) % 2) (bit_at_and am bm i)

  pub left_has : Agrees am av n → Agrees joint_mask av n
  left_has f = λ i on. joint_left (bit_at am i) (bit_at bm i) (bit_at av i) (bit_at bv i) (bit_at n i) (bit_at-lt am i) (bit_at-lt bm i) (bit_at-lt av i) (bit_at-lt bv i) (f i) (sym (joint_at i) ∙ on)

  pub right_has : Agrees bm bv n → Agrees joint_mask av n
  right_has f = λ i on. joint_right (bit_at am i) (bit_at bm i) (bit_at av i) (bit_at bv i) (bit_at n i) (bit_at-lt am i) (bit_at-lt bm i) (bit_at-lt av i) (bit_at-lt bv i) (f i) (sym (joint_at i) ∙ on)

-- ---- what is known of two numbers

pub not_true : (b : Bool) → (b ≡ true → ⊥) → IsTrue (not b)
not_true true ne = absurd (ne refl)
not_true false ne = refl

pub not_false : (b : Bool) → IsTrue (not b) → b ≡ true → ⊥
not_false true t e = false≢true t
not_false false t e = false≢true e

pub apart : (a b : Known) → (bit_and a.value (bit_and a.mask b.mask) ≡ bit_and b.value (bit_and a.mask b.mask) → ⊥) → (n : ℕ) → Has a n → Has b n → ⊥
apart a b ne n f g = ne (shared_from_common a.mask a.value b.mask b.value n a.within b.within f g)

-- where both agree on what both know, there is a number that has the bits of both
pub not_apart : (a b : Known) → bit_and a.value (bit_and a.mask b.mask) ≡ bit_and b.value (bit_and a.mask b.mask) → ((n : ℕ) → Has a n → Has b n → ⊥) → ⊥
not_apart a b e none =
    let v : ℕ = bit_or a.value b.value in
    let both = (agrees_joined a.mask a.value b.mask b.value v a.within b.within e).0 (λ i on. refl) in
    none v both.0 both.1

pub implied : (a b : Known) → bit_and a.value b.mask ≡ b.value → bit_and a.mask b.mask ≡ b.mask → (n : ℕ) → Has a n → Has b n
implied a b v m n f = narrower_agrees b.mask b.value a.mask a.value n (and_comm b.mask a.mask ∙ m) v f

module _ (a b : Known) (va : a.value < 2 ^ 64) (mb : b.mask < 2 ^ 64) (all : (n : ℕ) → Has a n → Has b n) where
  pub value_implied : bit_and a.value b.mask ≡ b.value
  value_implied = value_included 64 b.mask b.value a.mask a.value va b.within (λ x small f. all x f)

  pub mask_implied : bit_and a.mask b.mask ≡ b.mask
  mask_implied = and_comm a.mask b.mask ∙ mask_included 64 b.mask b.value a.mask a.value mb va a.within (λ x small f. all x f)
