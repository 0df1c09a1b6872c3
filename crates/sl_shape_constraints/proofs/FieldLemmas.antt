-- The bits of a token's integer are bits of the point.
use Rattle.std.proofs.Common.{◌≡◌, ◌↔◌, ℕ, zero, suc, ◌+◌, ◌-◌, ◌*◌, ◌/◌, ◌%◌, ◌^◌, ◌<◌, ◌≤◌, min, List, [], ◌∷◌, length, get_or, take, refl, sym, ap, subst, ◌∙◌, arith, inl, inr}
use Rattle.std.specs.Prelude.{reverse}
use Rattle.std.specs.Int.{bit_at, byte_at, bytes_high_first, w128, to_be_bytes}
use Rattle.std.proofs.Math.Nat.{div-div-eq-div-mul, mod-lt}
use Rattle.std.proofs.lemmas.Nat.{pow-add, pow_pos, div-add-mod'}
use Rattle.std.proofs.lemmas.Nat.Bits.{bit_at-zero, bit_at_cat_low, bit_at_cat_high, bit_at_above, bit_at-lt, same_from_bits}
use Rattle.std.proofs.lemmas.List.{get_or-take, get_or_past, get_or-reverse, length-take, length-reverse}
use Rattle.std.proofs.lemmas.Bool.{cases_lt}
use Rattle.sl_shape_constraints.specs.Homes.{place_of, part, integer}
use Rattle.sl_shape_constraints.specs.Rooms.{room}
use Rattle.sl_spec.specs.FieldValues.{number_from_least, token_integer, bits_of}
use Rattle.sl_shape_constraints.specs.declared.homes.Home.{Home}
use Rattle.sl_shape_constraints.specs.declared.homes.Home.TheVariants.{Context, Token}
use Rattle.sl_word.specs.declared.word.Endian.{Endian}
use Rattle.sl_word.specs.declared.word.Endian.TheVariants.{Little, Big}
use Rattle.sl_cube.specs.declared.Point.{Point}
use Rattle.sl_cube.specs.Points.{InRange}
use Rattle.sl_shape_constraints.specs.Homes.{HasBits}

clash : (b : ℕ) → b ≡ 0 → b ≡ 1 → ⊥
clash b none on = omega arith

zero_then : (b : ℕ) → b < 2 → (b ≡ 1 → ⊥) → b ≡ 0
zero_then b lt h = grind arith

-- ---- one bit of a quotient and of a remainder

pub bit_at_shifted : (n a r : ℕ) → bit_at (n / 2 ^ a) r ≡ bit_at n (a + r)
bit_at_shifted n a r = ap (λ (x : ℕ). x % 2) (div-div-eq-div-mul n (2 ^ a) (2 ^ r)) ∙ ap (λ (x : ℕ). n / x % 2) (sym (pow-add 2 a r))

pub bit_at_below : (m w r : ℕ) → r < w → bit_at (m % 2 ^ w) r ≡ bit_at m r
bit_at_below m w r lt = sym (bit_at_cat_low (m / 2 ^ w) w (m % 2 ^ w) r lt) ∙ ap (λ (x : ℕ). bit_at x r) (div-add-mod' m (2 ^ w))

pub bit_at_bits_of : (low high n r : ℕ) → r < suc high - low → bit_at (bits_of low high n) r ≡ bit_at n (low + r)
bit_at_bits_of low high n r lt = bit_at_below (n / 2 ^ low) (suc high - low) r lt ∙ bit_at_shifted n low r

pub bits_of-lt : (low high n : ℕ) → bits_of low high n < 2 ^ (suc high - low)
bits_of-lt low high n = mod-lt (n / 2 ^ low) (pow_pos (suc high - low))

-- a number whose bits lie below a place is below that power
pub below_from_bits : (n k : ℕ) → ((j : ℕ) → bit_at n j ≡ 1 → j < k) → n < 2 ^ k
below_from_bits n k h =
    let same : n ≡ n % 2 ^ k = same_from_bits _ _ (λ j. elim (cases_lt j k) [
      | inl lt ↦ sym (bit_at_below n k j lt)
      | inr above ↦ zero_then (bit_at n j) (bit_at-lt n j) (λ on. absurd (omega (arith, h j on))) ∙ sym (bit_at_above (n % 2 ^ k) k j (mod-lt n (pow_pos k)) above)
    ]) in
    subst (λ (x : ℕ). x < 2 ^ k) (sym same) (mod-lt n (pow_pos k))

-- ---- bytes of a number

pub power_of_bytes : (i : ℕ) → 256 ^ i ≡ 2 ^ (8 * i)
power_of_bytes zero = refl
power_of_bytes (suc i) =
    let e : 8 * suc i ≡ 8 + 8 * i = omega arith in
    let step : 256 ^ suc i ≡ 256 * 256 ^ i = omega arith in
    step ∙ ap (λ (x : ℕ). 256 * x) (power_of_bytes i) ∙ sym (pow-add 2 8 (8 * i)) ∙ ap (λ (k : ℕ). 2 ^ k) (sym e)

byte_at_is : (i n : ℕ) → byte_at i n ≡ n / 2 ^ (8 * i) % 2 ^ 8
byte_at_is zero n = let one : n / 1 ≡ n = omega arith in ap (λ (x : ℕ). x % 256) (sym one)
byte_at_is (suc i) n = ap (λ (x : ℕ). n / x % 256) (power_of_bytes (suc i))

bit_at_byte : (i n r : ℕ) → r < 8 → bit_at (byte_at i n) r ≡ bit_at n (8 * i + r)
bit_at_byte i n r lt = ap (λ (x : ℕ). bit_at x r) (byte_at_is i n) ∙ bit_at_below (n / 2 ^ (8 * i)) 8 r lt ∙ bit_at_shifted n (8 * i) r

byte_at-lt : (i n : ℕ) → byte_at i n < 256
byte_at-lt i n = subst (λ (x : ℕ). x < 256) (sym (byte_at_is i n)) (mod-lt (n / 2 ^ (8 * i)) (pow_pos 8))

get_or-bytes : (m n i : ℕ) → i < m → get_or (bytes_high_first m n) i 0 ≡ byte_at (m - 1 - i) n
get_or-bytes zero n i lt = absurd (omega arith)
get_or-bytes (suc m) n zero lt = let e : suc m - 1 - 0 ≡ m = omega arith in ap (λ (k : ℕ). byte_at k n) (sym e)
get_or-bytes (suc m) n (suc i) lt =
    let e : m - 1 - i ≡ suc m - 1 - suc i = omega arith in get_or-bytes m n i (omega arith) ∙ ap (λ (k : ℕ). byte_at k n) e

-- ---- a number from its bytes

abbrev AreBytes : List ℕ → Type 0
AreBytes bs = (i : ℕ) → get_or bs i 0 < 256

AreBytes-rest : (b : ℕ) (bs : List ℕ) → AreBytes (b ∷ bs) → AreBytes bs
AreBytes-rest b bs h i = h (suc i)

bit_at_number : (bs : List ℕ) (j : ℕ) → AreBytes bs → bit_at (number_from_least bs) j ≡ bit_at (get_or bs (j / 8) 0) (j % 8)
bit_at_number [] j h = bit_at-zero j ∙ sym (bit_at-zero (j % 8))
bit_at_number (b ∷ bs) j h =
    let n : ℕ = number_from_least bs in
    let split : b + 256 * n ≡ n * 2 ^ 8 + b = omega arith in
    let byte : b < 2 ^ 8 = h 0 in
    ap (λ (x : ℕ). bit_at x j) split ∙ elim (cases_lt j 8) [
      | inl low ↦
          let q : j / 8 ≡ 0 = omega arith in
          let r : j % 8 ≡ j = omega arith in
          bit_at_cat_low n 8 b j low ∙ ap (λ (k : ℕ). bit_at b k) (sym r) ∙ ap (λ (k : ℕ). bit_at (get_or (b ∷ bs) k 0) (j % 8)) (sym q)
      | inr high ↦
          let q : j / 8 ≡ suc ((j - 8) / 8) = omega arith in
          let r : (j - 8) % 8 ≡ j % 8 = omega arith in
          bit_at_cat_high n 8 b j byte high ∙ bit_at_number bs (j - 8) (AreBytes-rest b bs h)
          ∙ ap (λ (k : ℕ). bit_at (get_or bs ((j - 8) / 8) 0) k) r ∙ ap (λ (k : ℕ). bit_at (get_or (b ∷ bs) k 0) (j % 8)) (sym q)
    ]

-- ---- the token of a point

-- the first k bytes of a number of sixteen
abbrev front : ℕ → ℕ → List ℕ
front k n = take k (to_be_bytes w128 n)

length-front : (k n : ℕ) → k ≤ 8 → length (front k n) ≡ k
length-front k n few = let whole : length (to_be_bytes w128 n) ≡ 16 = refl in omega (arith, length-take k (to_be_bytes w128 n))

get_or-front : (k n i : ℕ) → k ≤ 8 → i < k → get_or (front k n) i 0 ≡ byte_at (15 - i) n
get_or-front k n i few lt = get_or-take k (to_be_bytes w128 n) i 0 lt ∙ get_or-bytes 16 n i (omega arith)

bytes-front : (k n : ℕ) → k ≤ 8 → AreBytes (front k n)
bytes-front k n few i = elim (cases_lt i k) [
  | inl lt ↦ subst (λ (x : ℕ). x < 256) (sym (get_or-front k n i few lt)) (byte_at-lt (15 - i) n)
  | inr past ↦ subst (λ (x : ℕ). x < 256) (sym (get_or_past (front k n) i 0 (omega (arith, length-front k n few)))) (omega arith)
]

get_or-turned : (k n i : ℕ) → k ≤ 8 → i < k → get_or (reverse (front k n)) i 0 ≡ byte_at (15 - (k - 1 - i)) n
get_or-turned k n i few lt =
    let size = length-front k n few in
    let last : length (front k n) - 1 - i ≡ k - 1 - i = omega (arith, size) in
    get_or-reverse (front k n) i 0 (omega (arith, size)) ∙ ap (λ (j : ℕ). get_or (front k n) j 0) last ∙ get_or-front k n (k - 1 - i) few (omega arith)

bytes-turned : (k n : ℕ) → k ≤ 8 → AreBytes (reverse (front k n))
bytes-turned k n few i = elim (cases_lt i k) [
  | inl lt ↦ subst (λ (x : ℕ). x < 256) (sym (get_or-turned k n i few lt)) (byte_at-lt (15 - (k - 1 - i)) n)
  | inr past ↦ subst (λ (x : ℕ). x < 256) (sym (get_or_past (reverse (front k n)) i 0 (omega (arith, length-front k n few, length-reverse (front k n))))) (omega arith)
]

-- a bit of the token's integer is the bit of the point at its place
token_bit : (order : Endian) (k n b : ℕ) → k ≤ 8 → b < 8 * k → bit_at (token_integer order (front k n)) b ≡ bit_at n (place_of (Token order k) b)
token_bit Little k n b few lt =
    bit_at_number (front k n) b (bytes-front k n few)
    ∙ ap (λ (x : ℕ). bit_at x (b % 8)) (get_or-front k n (b / 8) few (omega arith))
    ∙ bit_at_byte (15 - b / 8) n (b % 8) (omega arith)
token_bit Big k n b few lt =
    let e : 8 * (15 - (k - 1 - b / 8)) + b % 8 ≡ 8 * (16 - k) + b = omega arith in
    bit_at_number (reverse (front k n)) b (bytes-turned k n few)
    ∙ ap (λ (x : ℕ). bit_at x (b % 8)) (get_or-turned k n (b / 8) few (omega arith))
    ∙ bit_at_byte (15 - (k - 1 - b / 8)) n (b % 8) (omega arith)
    ∙ ap (λ (i : ℕ). bit_at n i) e

pub home_bit : (home : Home) (p : Point) (b : ℕ) → room home ≤ 64 → b < room home → bit_at (integer home p) b ≡ bit_at (part home p) (place_of home b)
home_bit Context p b few lt = refl
home_bit (Token order k) p b few lt = token_bit order k p.bytes b (omega (arith, few)) lt

-- and past the token's end, or that of the context, there is none
token_bit_above : (order : Endian) (k n b : ℕ) → k ≤ 8 → 8 * k ≤ b → bit_at (token_integer order (front k n)) b ≡ 0
token_bit_above Little k n b few le =
    bit_at_number (front k n) b (bytes-front k n few)
    ∙ ap (λ (x : ℕ). bit_at x (b % 8)) (get_or_past (front k n) (b / 8) 0 (omega (arith, length-front k n few)))
    ∙ bit_at-zero (b % 8)
token_bit_above Big k n b few le =
    bit_at_number (reverse (front k n)) b (bytes-turned k n few)
    ∙ ap (λ (x : ℕ). bit_at x (b % 8)) (get_or_past (reverse (front k n)) (b / 8) 0 (omega (arith, length-front k n few, length-reverse (front k n))))
    ∙ bit_at-zero (b % 8)

pub home_bit_above : (home : Home) (p : Point) (b : ℕ) → room home ≤ 64 → InRange p → room home ≤ b → bit_at (integer home p) b ≡ 0
home_bit_above Context p b few range le = bit_at_above p.context 64 b range.1 le
home_bit_above (Token order k) p b few range le = token_bit_above order k p.bytes b (omega (arith, few)) le

-- ---- the code of a field, in a block

module _ (home : Home) (low high size : ℕ) (p : Point) (few : room home ≤ 64) (range : InRange p) where
  abbrev number : ℕ
  number = integer home p

  abbrev pub quotient : ℕ
  quotient = bits_of low high number / 2 ^ size

  bit_low : (r : ℕ) → low + size + r < suc high → low + size + r < room home → bit_at quotient r ≡ bit_at (part home p) (place_of home (low + size + r))
  bit_low r lt below =
      let e : low + (size + r) ≡ low + size + r = omega arith in
      bit_at_shifted (bits_of low high number) size r ∙ bit_at_bits_of low high number (size + r) (omega (arith, lt))
      ∙ ap (λ (k : ℕ). bit_at number k) e ∙ home_bit home p (low + size + r) few below

  bit_high : (r : ℕ) → min (suc high) (room home) ≤ low + size + r → bit_at quotient r ≡ 0
  bit_high r le =
      let e : low + (size + r) ≡ low + size + r = omega arith in
      bit_at_shifted (bits_of low high number) size r ∙ elim (cases_lt (size + r) (suc high - low)) [
        | inl lt ↦
            bit_at_bits_of low high number (size + r) lt ∙ ap (λ (k : ℕ). bit_at number k) e
            ∙ home_bit_above home p (low + size + r) few range (omega (arith, le, lt))
        | inr ge ↦ bit_at_above (bits_of low high number) (suc high - low) (size + r) (bits_of-lt low high number) ge
      ]

  module _ (end from count index : ℕ) (end_is : end ≡ min (suc high) (room home)) (from_is : from ≡ min (low + size) end) (count_is : count ≡ end - from) where
    -- the point has the bits of the index exactly where the code is in the block
    pub in_block : index < 2 ^ count → HasBits home from count index p ↔ (quotient ≡ index)
    in_block small = (
      λ same. same_from_bits quotient index (λ r. elim (cases_lt r count) [
        | inl lt ↦
            let e : from ≡ low + size = omega (arith, end_is, from_is, count_is, lt) in
            bit_low r (omega (arith, end_is, from_is, count_is, lt)) (omega (arith, end_is, from_is, count_is, lt))
            ∙ ap (λ (k : ℕ). bit_at (part home p) (place_of home (k + r))) (sym e) ∙ same r lt
        | inr ge ↦ bit_high r (omega (arith, end_is, from_is, count_is, ge)) ∙ sym (bit_at_above index count r small ge)
      ]),
      λ same r lt.
          let e : from ≡ low + size = omega (arith, end_is, from_is, count_is, lt) in
          ap (λ (k : ℕ). bit_at (part home p) (place_of home (k + r))) e
          ∙ sym (bit_low r (omega (arith, end_is, from_is, count_is, lt)) (omega (arith, end_is, from_is, count_is, lt)))
          ∙ ap (λ (x : ℕ). bit_at x r) same,
    )

    -- and no point is in a block of a greater index
    pub in_no_block : 2 ^ count ≤ index → quotient ≡ index → ⊥
    in_no_block wide same =
        let below = below_from_bits quotient count (λ j on. elim (cases_lt j count) [
          | inl lt ↦ lt
          | inr ge ↦ absurd (clash (bit_at quotient j) (bit_high j (omega (arith, end_is, from_is, count_is, ge))) on)
        ]) in
        omega (arith, wide, same, below)
