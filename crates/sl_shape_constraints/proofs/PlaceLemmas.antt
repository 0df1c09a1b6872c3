-- Bits that a loop fixes one after the other.
use Rattle.std.proofs.Common.{◌≡◌, ◌≢◌, ◌↔◌, ℕ, ◌+◌, ◌*◌, ◌%◌, ◌^◌, ◌<◌, ◌≤◌, min, bit_and, bit_or, sym, subst, ◌∙◌, arith, inl, inr}
use Rattle.std.specs.Int.{bit_at, w128}
use Rattle.std.proofs.lemmas.Nat.Bits.{bit_at_and, bit_at-lt, same_from_bits, bit_at-zero, bit_at_set_same, bit_at_set_other}
use Rattle.std.proofs.lemmas.Bool.{cases_lt, cases_eq}
use Rattle.sl_shape_constraints.proofs.FieldLemmas.{below_from_bits}
use Rattle.sl_cube.specs.Bits.{Agrees}
use Rattle.sl_shape_constraints.specs.Homes.{place_of}
use Rattle.sl_shape_constraints.specs.Rooms.{room}
use Rattle.sl_shape_constraints.specs.FixedBits.{FixesBits}
use Rattle.sl_shape_constraints.specs.declared.homes.Home.{Home}
use Rattle.sl_shape_constraints.specs.declared.homes.Home.TheVariants.{Context, Token}
use Rattle.sl_word.specs.declared.word.Endian.TheVariants.{Little, Big}

-- the number with one bit more, as `1 << k` writes it
abbrev set : ℕ → ℕ → ℕ
set n k = bit_or n (1 * 2 ^ k % 2 ^ 128)

set_same : (n k : ℕ) → k < 128 → bit_at (set n k) k ≡ 1
set_same n k lt = bit_at_set_same w128 n k lt

set_other : (n k j : ℕ) → k < 128 → j ≢ k → bit_at (set n k) j ≡ bit_at n j
set_other n k j lt ne = bit_at_set_other w128 n k lt j ne

set_keeps : (n k j : ℕ) → k < 128 → bit_at n j ≡ 1 → bit_at (set n k) j ≡ 1
set_keeps n k j lt h = elim (cases_eq j k) [
  | inl e ↦ subst (λ (i : ℕ). bit_at (set n k) i ≡ 1) (sym e) (set_same n k lt)
  | inr ne ↦ set_other n k j lt ne ∙ h
]

pub zero_or_one : (b : ℕ) → b < 2 → (b ≡ 1 → ⊥) → b ≡ 0
zero_or_one b lt h = grind arith

module _ (place : ℕ → ℕ) (value n mask fixed : ℕ) (lt : place n < 128) (apart : (r : ℕ) → r < n → place r ≢ place n) (h : FixesBits place value n mask fixed) where
  -- the masked places, one more
  masked_more : (r : ℕ) → r < n + 1 → bit_at (set mask (place n)) (place r) ≡ 1
  masked_more r small = elim (cases_lt r n) [
    | inl below ↦ set_keeps mask (place n) (place r) lt (h.masked r below)
    | inr above ↦ let e : r ≡ n = omega arith in subst (λ (i : ℕ). bit_at (set mask (place n)) (place i) ≡ 1) (sym e) (set_same mask (place n) lt)
  ]

  only_more : (j : ℕ) → bit_at (set mask (place n)) j ≡ 1 → (r : ℕ) × (r < n + 1) × (j ≡ place r)
  only_more j on = elim (cases_eq j (place n)) [
    | inl e ↦ (n, omega arith, e)
    | inr ne ↦ let p = h.only j (sym (set_other mask (place n) j lt ne) ∙ on) in (p.0, omega (arith, p.1), p.2)
  ]

  -- the bit that comes next is in no place so far
  next_is_open : bit_at fixed (place n) ≡ 0
  next_is_open = zero_or_one (bit_at fixed (place n)) (bit_at-lt fixed (place n)) (λ on.
      let p = h.only (place n) (h.within (place n) on) in apart p.0 p.1 (sym p.2))

  pub fix_one : bit_at value n ≡ 1 → FixesBits place value (n + 1) (set mask (place n)) (set fixed (place n))
  fix_one bit = record {
    masked = masked_more;
    only = only_more;
    as_value = λ r small. elim (cases_lt r n) [
      | inl below ↦ set_other fixed (place n) (place r) lt (apart r below) ∙ h.as_value r below
      | inr above ↦ let e : r ≡ n = omega arith in subst (λ (i : ℕ). bit_at (set fixed (place n)) (place i) ≡ bit_at value i) (sym e) (set_same fixed (place n) lt ∙ sym bit)
    ];
    within = λ j on. elim (cases_eq j (place n)) [
      | inl e ↦ subst (λ (i : ℕ). bit_at (set mask (place n)) i ≡ 1) (sym e) (set_same mask (place n) lt)
      | inr ne ↦ set_keeps mask (place n) j lt (h.within j (sym (set_other fixed (place n) j lt ne) ∙ on))
    ];
  }

  pub fix_zero : bit_at value n ≡ 0 → FixesBits place value (n + 1) (set mask (place n)) fixed
  fix_zero bit = record {
    masked = masked_more;
    only = only_more;
    as_value = λ r small. elim (cases_lt r n) [
      | inl below ↦ h.as_value r below
      | inr above ↦ let e : r ≡ n = omega arith in subst (λ (i : ℕ). bit_at fixed (place i) ≡ bit_at value i) (sym e) (next_is_open ∙ sym bit)
    ];
    within = λ j on. set_keeps mask (place n) j lt (h.within j on);
  }

-- ---- the cube

within_bit : (f m : ℕ) → f < 2 → m < 2 → (f ≡ 1 → m ≡ 1) → min f m ≡ f
within_bit f m a b h = grind arith

pub fixed_within : (place : ℕ → ℕ) (value n mask fixed : ℕ) → FixesBits place value n mask fixed → bit_and fixed mask ≡ fixed
fixed_within place value n mask fixed h = same_from_bits _ _ (λ j.
    bit_at_and fixed mask j ∙ within_bit (bit_at fixed j) (bit_at mask j) (bit_at-lt fixed j) (bit_at-lt mask j) (h.within j))

-- ---- places

pub apart : (home : Home) (a b : ℕ) → room home ≤ 64 → a < room home → b < room home → a ≢ b → place_of home a ≢ place_of home b
apart Context a b few x y ne = ne
apart (Token Little bytes) a b few x y ne = λ e. ne (omega (arith, e))
apart (Token Big bytes) a b few x y ne = λ e. ne (omega (arith, e))

off : (n i : ℕ) → bit_at 0 i ≡ 1 → ⊥
off n i h = let z : bit_at 0 i ≡ 0 = bit_at-zero i in omega arith

pub agrees_fixed : (place : ℕ → ℕ) (value n mask fixed x : ℕ) → FixesBits place value n mask fixed
    → Agrees mask fixed x ↔ ((r : ℕ) → r < n → bit_at x (place r) ≡ bit_at value r)
agrees_fixed place value n mask fixed x h = (
  λ agrees r lt. agrees (place r) (h.masked r lt) ∙ h.as_value r lt,
  λ same i on.
      let o = h.only i on in
      subst (λ (j : ℕ). bit_at x j ≡ bit_at fixed j) (sym o.2) (same o.0 o.1 ∙ sym (h.as_value o.0 o.1)),
)

pub agrees_zero : (x : ℕ) → Agrees 0 0 x
agrees_zero x = λ i on. absurd (off 0 i on)

pub in_context : (low value n mask fixed : ℕ) → low + n ≤ 64 → FixesBits (λ r. low + r) value n mask fixed → (mask < 2 ^ 64) × (fixed < 2 ^ 64)
in_context low value n mask fixed few h = (
  below_from_bits mask 64 (λ j on. let o = h.only j on in omega (arith, o.1, o.2)),
  below_from_bits fixed 64 (λ j on. let o = h.only j (h.within j on) in omega (arith, o.1, o.2)),
)
