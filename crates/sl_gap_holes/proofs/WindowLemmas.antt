-- Points that lie some bytes behind others, bit by bit.
use Rattle.std.proofs.Common.{◌≡◌, ◌↔◌, ℕ, ◌+◌, ◌-◌, ◌*◌, ◌/◌, ◌%◌, ◌^◌, ◌<◌, ◌≤◌, min, bit_and, sym, ◌∙◌, ap, subst, arith, inl, inr}
use Rattle.std.specs.Int.{bit_at}
use Rattle.std.proofs.Math.Nat.{mod-lt}
use Rattle.std.proofs.lemmas.Bool.{cases_lt}
use Rattle.std.proofs.lemmas.Nat.{pow_pos}
use Rattle.std.proofs.lemmas.Nat.Bits.{bit_at_and, bit_at-lt, bit_at-zero, bit_at_above, bit_at_ones, bit_at_ones_above, bit_at_mask_inside, bit_at_mask_below, bit_at_mask_above, same_from_bits}
use Rattle.sl_cube.specs.Bits.{Agrees}
use Rattle.sl_cube.specs.Points.{InRange, IsIn}
use Rattle.sl_cube.specs.declared.Cube.{Cube}
use Rattle.sl_cube.specs.declared.Point.{Point}
use Rattle.sl_gap_holes.specs.Covered.{tail_of}
use Rattle.sl_gap_holes.specs.Windows.{Follows}
use Rattle.sl_shape_constraints.proofs.FieldLemmas.{bit_at_below, bit_at_shifted}
use Rattle.sl_shape_constraints.proofs.ShiftLemmas.{IsUp, seen_up}

no_bit : (b : ℕ) → b ≡ 0 → b ≡ 1 → ⊥
no_bit b p q = omega arith

-- ---- all bits

-- a number is a value where each bit is compared
agrees_all : (w v x : ℕ) → v < 2 ^ w → x < 2 ^ w → Agrees (2 ^ w - 1) v x ↔ (x ≡ v)
agrees_all w v x v_fits x_fits = (
  λ agrees. same_from_bits x v (λ i. elim (cases_lt i w) [
    | inl lt ↦ agrees i (bit_at_ones w i lt)
    | inr above ↦ bit_at_above x w i x_fits above ∙ sym (bit_at_above v w i v_fits above)
  ]),
  λ same i on. ap (λ (n : ℕ). bit_at n i) same,
)

-- what is compared from a bit on
high_agrees : (k v x : ℕ) → Agrees (2 ^ 128 - 2 ^ k) v x ↔ ((i : ℕ) → k ≤ i → i < 128 → bit_at x i ≡ bit_at v i)
high_agrees k v x = (
  λ agrees i from below. agrees i (bit_at_mask_inside k 128 i from below),
  λ h i on. elim (cases_lt i k) [
    | inl lt ↦ absurd (no_bit (bit_at (2 ^ 128 - 2 ^ k) i) (bit_at_mask_below k 128 i lt) on)
    | inr from ↦ elim (cases_lt i 128) [
      | inl below ↦ h i from below
      | inr above ↦ absurd (no_bit (bit_at (2 ^ 128 - 2 ^ k) i) (bit_at_mask_above k 128 i above) on)
    ]
  ],
)

-- ---- tails

below_pow : (k x : ℕ) → x < 2 ^ 128 → ((i : ℕ) → k ≤ i → i < 128 → bit_at x i ≡ 0) → x < 2 ^ k
below_pow k x fits none =
    let same : x ≡ x % 2 ^ k = same_from_bits x (x % 2 ^ k) (λ i. elim (cases_lt i k) [
      | inl lt ↦ sym (bit_at_below x k i lt)
      | inr from ↦ elim (cases_lt i 128) [
        | inl below ↦ none i from below ∙ sym (bit_at_above (x % 2 ^ k) k i (mod-lt x (pow_pos k)) from)
        | inr above ↦ bit_at_above x 128 i fits above ∙ sym (bit_at_above (x % 2 ^ k) k i (mod-lt x (pow_pos k)) from)
      ]
    ]) in
    subst (λ (n : ℕ). n < 2 ^ k) (sym same) (mod-lt x (pow_pos k))

pub are_tails : (place m v cm cv : ℕ) → m ≡ 2 ^ 128 - 2 ^ (8 * place) → v ≡ 0 → cm ≡ 2 ^ 64 - 1 → cv ≡ 0
    → (q : Point) → InRange q → (Agrees m v q.bytes × Agrees cm cv q.context) ↔ ((q.bytes < 2 ^ (8 * place)) × (q.context ≡ 0))
are_tails place m v cm cv m_is v_is cm_is cv_is q range = (
  λ inside.
      let bytes = (high_agrees (8 * place) 0 q.bytes).0 (subst (λ (n : ℕ). Agrees n 0 q.bytes) m_is (subst (λ (n : ℕ). Agrees m n q.bytes) v_is inside.0)) in
      let context = (agrees_all 64 0 q.context (pow_pos 64) range.1).0 (subst (λ (n : ℕ). Agrees n 0 q.context) cm_is (subst (λ (n : ℕ). Agrees cm n q.context) cv_is inside.1)) in (
        below_pow (8 * place) q.bytes range.0 (λ i from below. bytes i from below ∙ bit_at-zero i),
        context,
      ),
  λ h. (
    subst (λ (n : ℕ). Agrees m n q.bytes) (sym v_is) (subst (λ (n : ℕ). Agrees n 0 q.bytes) (sym m_is)
        ((high_agrees (8 * place) 0 q.bytes).1 (λ i from below. bit_at_above q.bytes (8 * place) i h.0 from ∙ sym (bit_at-zero i)))),
    subst (λ (n : ℕ). Agrees cm n q.context) (sym cv_is) (subst (λ (n : ℕ). Agrees n 0 q.context) (sym cm_is)
        ((agrees_all 64 0 q.context (pow_pos 64) range.1).1 h.1)),
  ),
)

-- ---- followers

-- the first bytes of one number are the last ones of another
pub follows_bits : (k p q : ℕ) → k ≤ 128 → q < 2 ^ 128 → (q / 2 ^ k ≡ p % 2 ^ (128 - k)) ↔ ((i : ℕ) → k ≤ i → i < 128 → bit_at q i ≡ bit_at p (i - k))
follows_bits k p q small fits = (
  λ same i from below.
      let e : k + (i - k) ≡ i = omega arith in
      ap (λ (n : ℕ). bit_at q n) (sym e) ∙ sym (bit_at_shifted q k (i - k)) ∙ ap (λ (n : ℕ). bit_at n (i - k)) same ∙ bit_at_below p (128 - k) (i - k) (omega arith),
  λ h. same_from_bits (q / 2 ^ k) (p % 2 ^ (128 - k)) (λ j. elim (cases_lt j (128 - k)) [
    | inl lt ↦
        let e : k + j - k ≡ j = omega arith in
        bit_at_shifted q k j ∙ h (k + j) (omega arith) (omega (arith, lt)) ∙ ap (λ (n : ℕ). bit_at p n) e ∙ sym (bit_at_below p (128 - k) j lt)
    | inr above ↦
        bit_at_shifted q k j ∙ bit_at_above q 128 (k + j) fits (omega (arith, above))
        ∙ sym (bit_at_above (p % 2 ^ (128 - k)) (128 - k) j (mod-lt p (pow_pos (128 - k))) above)
  ]),
)

moved_up : (place x i : ℕ) → place ≤ 15 → 8 * place ≤ i → i < 128 → bit_at (x * 2 ^ (8 * place) % 2 ^ 128) i ≡ bit_at x (i - 8 * place)
moved_up place x i near from below =
    let e : 8 * min place 16 ≡ 8 * place = omega (arith, near) in
    let up = subst (λ (k : ℕ). IsUp k x (x * 2 ^ (8 * place) % 2 ^ 128)) e (seen_up place x) in
    up.high i below from

pub are_followers : (place : ℕ) (p : Point) (m v cm cv : ℕ) → place ≤ 15 → p.context < 2 ^ 64 → m ≡ 2 ^ 128 - 2 ^ (8 * place)
    → v ≡ p.bytes * 2 ^ (8 * place) % 2 ^ 128 → cm ≡ 2 ^ 64 - 1 → cv ≡ p.context
    → (q : Point) → InRange q → (Agrees m v q.bytes × Agrees cm cv q.context) ↔ Follows place p q
are_followers place p m v cm cv near fits m_is v_is cm_is cv_is q range =
    let up = p.bytes * 2 ^ (8 * place) % 2 ^ 128 in
    let by_bits = follows_bits (8 * place) p.bytes q.bytes (omega (arith, near)) range.0 in
    let high = high_agrees (8 * place) up q.bytes in
    let whole = agrees_all 64 p.context q.context fits range.1 in (
      λ inside. (
        by_bits.1 (λ i from below. high.0 (subst (λ (n : ℕ). Agrees n up q.bytes) m_is (subst (λ (n : ℕ). Agrees m n q.bytes) v_is inside.0)) i from below
            ∙ moved_up place p.bytes i near from below),
        whole.0 (subst (λ (n : ℕ). Agrees n p.context q.context) cm_is (subst (λ (n : ℕ). Agrees cm n q.context) cv_is inside.1)),
      ),
      λ h. (
        subst (λ (n : ℕ). Agrees m n q.bytes) (sym v_is) (subst (λ (n : ℕ). Agrees n up q.bytes) (sym m_is)
            (high.1 (λ i from below. by_bits.0 h.0 i from below ∙ sym (moved_up place p.bytes i near from below)))),
        subst (λ (n : ℕ). Agrees cm n q.context) (sym cv_is) (subst (λ (n : ℕ). Agrees n p.context q.context) (sym cm_is) (whole.1 h.1)),
      ),
    )

-- a number without low bits has none outside of the mask
pub high_within : (k v : ℕ) → v < 2 ^ 128 → ((i : ℕ) → i < k → bit_at v i ≡ 0) → bit_and v (2 ^ 128 - 2 ^ k) ≡ v
high_within k v fits none = same_from_bits (bit_and v (2 ^ 128 - 2 ^ k)) v (λ i. bit_at_and v (2 ^ 128 - 2 ^ k) i ∙ (elim (cases_lt i k) [
  | inl lt ↦ zero_min (bit_at v i) (bit_at (2 ^ 128 - 2 ^ k) i) (none i lt)
  | inr from ↦ elim (cases_lt i 128) [
    | inl below ↦ one_min (bit_at v i) (bit_at (2 ^ 128 - 2 ^ k) i) (bit_at-lt v i) (bit_at_mask_inside k 128 i from below)
    | inr above ↦ zero_min (bit_at v i) (bit_at (2 ^ 128 - 2 ^ k) i) (bit_at_above v 128 i fits above)
  ]
]))
  where
    zero_min : (a b : ℕ) → a ≡ 0 → min a b ≡ a
    zero_min a b e = omega arith

    one_min : (a b : ℕ) → a < 2 → b ≡ 1 → min a b ≡ a
    one_min a b lt e = omega arith

pub up_within : (place x : ℕ) → place ≤ 15 → bit_and (x * 2 ^ (8 * place) % 2 ^ 128) (2 ^ 128 - 2 ^ (8 * place)) ≡ x * 2 ^ (8 * place) % 2 ^ 128
up_within place x near =
    let e : 8 * min place 16 ≡ 8 * place = omega (arith, near) in
    let up = subst (λ (k : ℕ). IsUp k x (x * 2 ^ (8 * place) % 2 ^ 128)) e (seen_up place x) in
    high_within (8 * place) (x * 2 ^ (8 * place) % 2 ^ 128) (mod-lt (x * 2 ^ (8 * place)) (pow_pos 128)) (λ i lt. up.low i (omega (arith, lt, near)) lt)

-- ---- heads and tails of a cube

low_one : (k low i : ℕ) → low + 1 ≡ 2 ^ k → i < k → bit_at low i ≡ 1
low_one k low i is lt = let e : low ≡ 2 ^ k - 1 = omega arith in ap (λ (n : ℕ). bit_at n i) e ∙ bit_at_ones k i lt

low_zero : (k low i : ℕ) → low + 1 ≡ 2 ^ k → k ≤ i → bit_at low i ≡ 0
low_zero k low i is from = let e : low ≡ 2 ^ k - 1 = omega arith in ap (λ (n : ℕ). bit_at n i) e ∙ bit_at_ones_above k i from

min_one : (a b : ℕ) → a < 2 → b ≡ 1 → min a b ≡ a
min_one a b lt e = omega arith

min_ones : (a b : ℕ) → a < 2 → b < 2 → min a b ≡ 1 → (a ≡ 1) × (b ≡ 1)
min_ones a b lt lu e = (omega arith, omega arith)

pub is_moved : (place : ℕ) (cube : Cube) (low hm hv tm tv : ℕ) → place ≤ 15 → cube.mask < 2 ^ 128 → low + 1 ≡ 2 ^ (8 * place)
    → hm ≡ cube.mask / 2 ^ (8 * place) → hv ≡ cube.value / 2 ^ (8 * place) → tm ≡ bit_and cube.mask low → tv ≡ bit_and cube.value low
    → (p q : Point) → InRange p → InRange q → Follows place p q
    → ((Agrees hm hv p.bytes × Agrees cube.ctx_mask cube.ctx_value p.context) × (Agrees tm tv (tail_of place q).bytes × Agrees 0 0 (tail_of place q).context)) ↔ IsIn q cube
is_moved place cube low hm hv tm tv near fits is hm_is hv_is tm_is tv_is p q range_p range_q follows =
    let k = 8 * place in
    let m = cube.mask in
    let v = cube.value in
    let behind = (follows_bits k p.bytes q.bytes (omega (arith, near)) range_q.0).0 follows.0 in (
      λ h. (
        λ i on. elim (cases_lt i k) [
          | inl lt ↦
              let on_tail : bit_at tm i ≡ 1 = ap (λ (n : ℕ). bit_at n i) tm_is ∙ bit_at_and m low i ∙ min_one (bit_at m i) (bit_at low i) (bit_at-lt m i) (low_one k low i is lt) ∙ on in
              sym (bit_at_below q.bytes k i lt) ∙ h.1.0 i on_tail ∙ ap (λ (n : ℕ). bit_at n i) tv_is ∙ bit_at_and v low i
              ∙ min_one (bit_at v i) (bit_at low i) (bit_at-lt v i) (low_one k low i is lt)
          | inr from ↦ elim (cases_lt i 128) [
            | inr above ↦ absurd (no_bit (bit_at m i) (bit_at_above m 128 i fits above) on)
            | inl below ↦
                let e : k + (i - k) ≡ i = omega arith in
                let on_head : bit_at hm (i - k) ≡ 1 = ap (λ (n : ℕ). bit_at n (i - k)) hm_is ∙ bit_at_shifted m k (i - k) ∙ ap (λ (n : ℕ). bit_at m n) e ∙ on in
                behind i from below ∙ h.0.0 (i - k) on_head ∙ ap (λ (n : ℕ). bit_at n (i - k)) hv_is ∙ bit_at_shifted v k (i - k) ∙ ap (λ (n : ℕ). bit_at v n) e
          ]
        ],
        λ i on. ap (λ (n : ℕ). bit_at n i) follows.1 ∙ h.0.1 i on,
      ),
      λ inside. (
        (
          λ j on.
              let on_m : bit_at m (k + j) ≡ 1 = sym (bit_at_shifted m k j) ∙ ap (λ (n : ℕ). bit_at n j) (sym hm_is) ∙ on in
              elim (cases_lt (k + j) 128) [
                | inr above ↦ absurd (no_bit (bit_at m (k + j)) (bit_at_above m 128 (k + j) fits above) on_m)
                | inl below ↦
                    let e : k + j - k ≡ j = omega arith in
                    ap (λ (n : ℕ). bit_at p.bytes n) (sym e) ∙ sym (behind (k + j) (omega arith) below) ∙ inside.0 (k + j) on_m ∙ sym (bit_at_shifted v k j)
                    ∙ ap (λ (n : ℕ). bit_at n j) (sym hv_is)
              ],
          λ i on. ap (λ (n : ℕ). bit_at n i) (sym follows.1) ∙ inside.1 i on,
        ),
        (
          λ i on.
              let both = min_ones (bit_at m i) (bit_at low i) (bit_at-lt m i) (bit_at-lt low i) (sym (bit_at_and m low i) ∙ ap (λ (n : ℕ). bit_at n i) (sym tm_is) ∙ on) in
              elim (cases_lt i k) [
                | inr from ↦ absurd (no_bit (bit_at low i) (low_zero k low i is from) both.1)
                | inl lt ↦
                    bit_at_below q.bytes k i lt ∙ inside.0 i both.0 ∙ sym (min_one (bit_at v i) (bit_at low i) (bit_at-lt v i) both.1) ∙ sym (bit_at_and v low i)
                    ∙ ap (λ (n : ℕ). bit_at n i) (sym tv_is)
              ],
          λ i on. absurd (no_bit (bit_at 0 i) (bit_at-zero i) on),
        ),
      ),
    )

-- what is masked on both sides
pub both_masked : (v m low : ℕ) → bit_and v m ≡ v → bit_and (bit_and v low) (bit_and m low) ≡ bit_and v low
both_masked v m low within = same_from_bits (bit_and (bit_and v low) (bit_and m low)) (bit_and v low) (λ i.
    bit_at_and (bit_and v low) (bit_and m low) i
    ∙ ap (λ (b : ℕ). min b (bit_at (bit_and m low) i)) (bit_at_and v low i) ∙ ap (λ (b : ℕ). min (min (bit_at v i) (bit_at low i)) b) (bit_at_and m low i)
    ∙ min_both (bit_at v i) (bit_at m i) (bit_at low i) (sym (bit_at_and v m i) ∙ ap (λ (n : ℕ). bit_at n i) within)
    ∙ sym (bit_at_and v low i))
  where
    min_both : (a b c : ℕ) → min a b ≡ a → min (min a c) (min b c) ≡ min a c
    min_both a b c e = omega arith

pub ones_within : (w x : ℕ) → x < 2 ^ w → bit_and x (2 ^ w - 1) ≡ x
ones_within w x fits = same_from_bits (bit_and x (2 ^ w - 1)) x (λ i. bit_at_and x (2 ^ w - 1) i ∙ (elim (cases_lt i w) [
  | inl lt ↦ min_one (bit_at x i) (bit_at (2 ^ w - 1) i) (bit_at-lt x i) (bit_at_ones w i lt)
  | inr above ↦ none (bit_at x i) (bit_at (2 ^ w - 1) i) (bit_at_above x w i fits above)
]))
  where
    none : (a b : ℕ) → a ≡ 0 → min a b ≡ a
    none a b e = omega arith
