-- A point as it is seen from a place, and cubes moved there.
use Rattle.std.proofs.Common.{◌≡◌, ◌↔◌, ℕ, ◌+◌, ◌-◌, ◌*◌, ◌/◌, ◌%◌, ◌^◌, ◌<◌, ◌≤◌, min, bit_and, sym, ◌∙◌, ap, subst, arith, inl, inr}
use Rattle.std.specs.Int.{bit_at}
use Rattle.std.proofs.Math.Nat.{mod-eq_of_lt, mod-lt}
use Rattle.std.proofs.lemmas.Nat.{pow-add, pow_pos, shr-shr}
use Rattle.std.proofs.lemmas.Nat.Bits.{bit_at_and, bit_at-lt, bit_at-zero, bit_at_above, bit_at_cat_low, bit_at_cat_high, same_from_bits}
use Rattle.std.proofs.lemmas.Bool.{cases_lt}
use Rattle.sl_cube.specs.Bits.{Agrees}
use Rattle.sl_cube.specs.declared.Point.{Point}
use Rattle.sl_cube.specs.Points.{InRange}
use Rattle.sl_shape_constraints.specs.Places.{seen}
use Rattle.sl_shape_constraints.proofs.FieldLemmas.{bit_at_shifted, bit_at_below}

-- the second number is the first one moved up by so many bits, of 128 bits
pub record IsUp (s x y : ℕ) : Type 0 where
  pub low : (i : ℕ) → i < 128 → i < s → bit_at y i ≡ 0
  pub high : (i : ℕ) → i < 128 → s ≤ i → bit_at y i ≡ bit_at x (i - s)

up_low : (x k i : ℕ) → i < k → bit_at (x * 2 ^ k) i ≡ 0
up_low x k i lt = let e : x * 2 ^ k ≡ x * 2 ^ k + 0 = omega arith in ap (λ (n : ℕ). bit_at n i) e ∙ bit_at_cat_low x k 0 i lt ∙ bit_at-zero i

up_high : (x k i : ℕ) → k ≤ i → bit_at (x * 2 ^ k) i ≡ bit_at x (i - k)
up_high x k i le = let e : x * 2 ^ k ≡ x * 2 ^ k + 0 = omega arith in ap (λ (n : ℕ). bit_at n i) e ∙ bit_at_cat_high x k 0 i (pow_pos k) le

pub seen_up : (place x : ℕ) → IsUp (8 * min place 16) x (x * 2 ^ (8 * place) % 2 ^ 128)
seen_up place x = record {
  low = λ i small lt. bit_at_below (x * 2 ^ (8 * place)) 128 i small ∙ up_low x (8 * place) i (omega arith);
  high = λ i small le.
      let e : i - 8 * place ≡ i - 8 * min place 16 = omega arith in
      bit_at_below (x * 2 ^ (8 * place)) 128 i small ∙ up_high x (8 * place) i (omega arith) ∙ ap (λ (k : ℕ). bit_at x k) e;
}

no_bit : (b : ℕ) → b ≡ 0 → b ≡ 1 → ⊥
no_bit b p q = omega arith

-- what is moved down agrees with a number exactly where the whole agrees with the number moved up
pub down_agrees : (m v s x y : ℕ) → m < 2 ^ 128 → IsUp s x y → ((i : ℕ) → i < s → bit_at v i ≡ 0)
    → Agrees (m / 2 ^ s) (v / 2 ^ s) x ↔ Agrees m v y
down_agrees m v s x y fits up none = (
  λ agrees i on. elim (cases_lt i 128) [
    | inr above ↦ absurd (no_bit (bit_at m i) (bit_at_above m 128 i fits above) on)
    | inl small ↦ elim (cases_lt i s) [
      | inl lt ↦ up.low i small lt ∙ sym (none i lt)
      | inr le ↦
          let e : s + (i - s) ≡ i = omega arith in
          up.high i small le ∙ agrees (i - s) (bit_at_shifted m s (i - s) ∙ ap (λ (k : ℕ). bit_at m k) e ∙ on)
          ∙ bit_at_shifted v s (i - s) ∙ ap (λ (k : ℕ). bit_at v k) e
    ]
  ],
  λ agrees i on.
      let on_m : bit_at m (s + i) ≡ 1 = sym (bit_at_shifted m s i) ∙ on in
      elim (cases_lt (s + i) 128) [
        | inr above ↦ absurd (no_bit (bit_at m (s + i)) (bit_at_above m 128 (s + i) fits above) on_m)
        | inl small ↦
            let e : s + i - s ≡ i = omega arith in
            ap (λ (k : ℕ). bit_at x k) (sym e) ∙ sym (up.high (s + i) small (omega arith)) ∙ agrees (s + i) on_m ∙ sym (bit_at_shifted v s i)
      ],
)

pub low_zero : (v s i : ℕ) → v / 2 ^ s * 2 ^ s ≡ v → i < s → bit_at v i ≡ 0
low_zero v s i e lt = ap (λ (n : ℕ). bit_at n i) (sym e) ∙ up_low (v / 2 ^ s) s i lt

pub whole_from_zero : (v s : ℕ) → ((i : ℕ) → i < s → bit_at v i ≡ 0) → v / 2 ^ s * 2 ^ s ≡ v
whole_from_zero v s none = same_from_bits _ _ (λ i. elim (cases_lt i s) [
  | inl lt ↦ up_low (v / 2 ^ s) s i lt ∙ sym (none i lt)
  | inr le ↦ let e : s + (i - s) ≡ i = omega arith in up_high (v / 2 ^ s) s i le ∙ bit_at_shifted v s (i - s) ∙ ap (λ (k : ℕ). bit_at v k) e
])

masked_zero : (v m y : ℕ) → v < 2 → m < 2 → v ≡ min v m → y ≡ 0 → (m ≡ 1 → y ≡ v) → v ≡ 0
masked_zero v m y a b c d e = grind arith

-- a cube that has a point seen from the place wants no 1 before it
pub wants_zero : (m v s x y : ℕ) → s ≤ 128 → bit_and v m ≡ v → IsUp s x y → Agrees m v y → (i : ℕ) → i < s → bit_at v i ≡ 0
wants_zero m v s x y small within up agrees i lt =
    masked_zero (bit_at v i) (bit_at m i) (bit_at y i) (bit_at-lt v i) (bit_at-lt m i) (ap (λ (n : ℕ). bit_at n i) (sym within) ∙ bit_at_and v m i)
    (up.low i (omega arith) lt) (agrees i)

down_bit : (v m : ℕ) → v ≡ min v m → min v m ≡ v
down_bit v m e = omega arith

pub down_within : (v m s : ℕ) → bit_and v m ≡ v → bit_and (v / 2 ^ s) (m / 2 ^ s) ≡ v / 2 ^ s
down_within v m s within = same_from_bits _ _ (λ i.
    bit_at_and (v / 2 ^ s) (m / 2 ^ s) i ∙ ap (λ (b : ℕ). min b (bit_at (m / 2 ^ s) i)) (bit_at_shifted v s i) ∙ ap (λ (b : ℕ). min (bit_at v (s + i)) b) (bit_at_shifted m s i)
    ∙ sym (bit_at_and v m (s + i)) ∙ ap (λ (n : ℕ). bit_at n (s + i)) within ∙ sym (bit_at_shifted v s i))

lift_step : (q a b w v : ℕ) → q * (a * b) ≤ v → v < w → 0 < b → q * a % w * b % w ≡ q * (a * b)
lift_step q a b w v le lt pos =
    let e : q * a * b ≡ q * (a * b) = grind arith in
    let f : q * a ≤ q * a * b = at_least (q * a) b pos in
    ap (λ (n : ℕ). n * b % w) (mod-eq_of_lt (less (q * a) (q * a * b) (q * (a * b)) v w f e le lt)) ∙ mod-eq_of_lt (less_more (q * a * b) (q * (a * b)) v w e le lt) ∙ e
  where
    at_least : (n b : ℕ) → 0 < b → n ≤ n * b
    at_least n b pos = grind arith

    less : (x y z v w : ℕ) → x ≤ y → y ≡ z → z ≤ v → v < w → x < w
    less x y z v w a b c d = omega arith

    less_more : (y z v w : ℕ) → y ≡ z → z ≤ v → v < w → y < w
    less_more y z v w b c d = omega arith

-- shifted down and up again by two steps
pub down_up : (v b l : ℕ) → v < 2 ^ 128 → v / 2 ^ b / 2 ^ l * 2 ^ b % 2 ^ 128 * 2 ^ l % 2 ^ 128 ≡ v / 2 ^ (b + l) * 2 ^ (b + l)
down_up v b l fits =
    let q : v / 2 ^ b / 2 ^ l ≡ v / 2 ^ (b + l) = shr-shr v b l in
    let p : 2 ^ b * 2 ^ l ≡ 2 ^ (b + l) = sym (pow-add 2 b l) in
    let le : v / 2 ^ (b + l) * 2 ^ (b + l) ≤ v = quotient_le v (2 ^ (b + l)) in
    ap (λ (n : ℕ). n * 2 ^ b % 2 ^ 128 * 2 ^ l % 2 ^ 128) q
    ∙ lift_step (v / 2 ^ (b + l)) (2 ^ b) (2 ^ l) (2 ^ 128) v (subst (λ (n : ℕ). v / 2 ^ (b + l) * n ≤ v) (sym p) le) fits (pow_pos l)
    ∙ ap (λ (n : ℕ). v / 2 ^ (b + l) * n) p
  where
    quotient_le : (v d : ℕ) → v / d * d ≤ v
    quotient_le v d = omega arith

pub seen_range : (place : ℕ) (p : Point) → InRange p → InRange (seen place p)
seen_range place p range = (mod-lt (p.bytes * 2 ^ (8 * place)) (pow_pos 128), range.1)
