-- Numbers under masks, bit by bit: a claim is brought down to one bit, and `same_from_bits` lifts it.
use Rattle.std.proofs.Common.{◌≡◌, ℕ, ◌+◌, ◌%◌, ◌<◌, ◌≤◌, ◌^◌, ◌≢◌, ◌⊎◌, min, max, bit_and, bit_or, bit_xor, arith, sym, ◌∙◌, ap, refl, inl, inr, subst}
use Rattle.std.specs.Int.{bit_at}
use Rattle.std.proofs.lemmas.Nat.{and_le_l, or_lt, pow_below}
use Rattle.std.proofs.lemmas.Nat.Bits.{bit_at_and, bit_at_or, bit_at_xor, bit_at-lt, same_from_bits, bit_at_above, bit_at-pow_same, bit_at-pow_other}
use Rattle.std.proofs.lemmas.Bool.{cases_lt, cases_eq}
use Rattle.sl_cube.specs.Bits.{Agrees}
use Rattle.sl_cube.specs.TopBits.{IncludesBelow}

-- ---- a value within a mask

pub within_bit : (m v i : ℕ) → bit_and v m ≡ v → bit_at v i ≡ min (bit_at v i) (bit_at m i)
within_bit m v i h = ap (λ x. bit_at x i) (sym h) ∙ bit_at_and v m i

min_one : (n v m : ℕ) → n < 2 → v ≡ min n m → m ≡ 1 → n ≡ v
min_one n v m _b e on = omega arith

min_masked : (n v m : ℕ) → n < 2 → v < 2 → m < 2 → v ≡ min v m → (m ≡ 1 → n ≡ v) → min n m ≡ v
min_masked n v m a b c e f = grind arith

min_twice : (v m : ℕ) → min (min v m) m ≡ min v m
min_twice v m = omega arith

-- what is left of a value under a mask is within it
pub and_within : (v m : ℕ) → bit_and (bit_and v m) m ≡ bit_and v m
and_within v m = same_from_bits _ _ (λ i.
    bit_at_and (bit_and v m) m i ∙ ap (λ x. min x (bit_at m i)) (bit_at_and v m i) ∙ min_twice (bit_at v i) (bit_at m i) ∙ sym (bit_at_and v m i))

pub agrees_from_and : (m v n : ℕ) → bit_and n m ≡ v → Agrees m v n
agrees_from_and m v n h = λ i on.
    min_one (bit_at n i) (bit_at v i) (bit_at m i) (bit_at-lt n i) (ap (λ x. bit_at x i) (sym h) ∙ bit_at_and n m i) on

pub and_from_agrees : (m v n : ℕ) → bit_and v m ≡ v → Agrees m v n → bit_and n m ≡ v
and_from_agrees m v n h agrees = same_from_bits _ _ (λ i.
    bit_at_and n m i ∙ min_masked (bit_at n i) (bit_at v i) (bit_at m i) (bit_at-lt n i) (bit_at-lt v i) (bit_at-lt m i) (within_bit m v i h) (agrees i))

pub least_agrees : (m v n : ℕ) → bit_and v m ≡ v → Agrees m v n → v ≤ n
least_agrees m v n h agrees = subst (λ (x : ℕ). x ≤ n) (and_from_agrees m v n h agrees) (and_le_l n m)

-- ---- what two masks share

bit_at_shared : (v m n i : ℕ) → bit_at (bit_and v (bit_and m n)) i ≡ min (bit_at v i) (min (bit_at m i) (bit_at n i))
bit_at_shared v m n i = bit_at_and v (bit_and m n) i ∙ ap (λ b. min (bit_at v i) b) (bit_at_and m n i)

common_bit : (v m w n x : ℕ) → v ≡ min v m → w ≡ min w n → m < 2 → n < 2 → (m ≡ 1 → x ≡ v) → (n ≡ 1 → x ≡ w) → min v (min m n) ≡ min w (min m n)
common_bit v m w n x a b c d f g = grind arith

pub shared_from_common : (m v n w x : ℕ) → bit_and v m ≡ v → bit_and w n ≡ w → Agrees m v x → Agrees n w x
    → bit_and v (bit_and m n) ≡ bit_and w (bit_and m n)
shared_from_common m v n w x a b f g = same_from_bits _ _ (λ i.
    bit_at_shared v m n i
    ∙ common_bit (bit_at v i) (bit_at m i) (bit_at w i) (bit_at n i) (bit_at x i) (within_bit m v i a) (within_bit n w i b)
    (bit_at-lt m i) (bit_at-lt n i) (f i) (g i)
    ∙ sym (bit_at_shared w m n i))

join_bit : (v m w n : ℕ) → v ≡ min v m → w ≡ min w n → min (max v w) (max m n) ≡ max v w
join_bit v m w n a b = omega arith

pub join_within : (m v n w : ℕ) → bit_and v m ≡ v → bit_and w n ≡ w → bit_and (bit_or v w) (bit_or m n) ≡ bit_or v w
join_within m v n w a b = same_from_bits _ _ (λ i.
    bit_at_and (bit_or v w) (bit_or m n) i
    ∙ ap (λ x. min x (bit_at (bit_or m n) i)) (bit_at_or v w i)
    ∙ ap (λ x. min (max (bit_at v i) (bit_at w i)) x) (bit_at_or m n i)
    ∙ join_bit (bit_at v i) (bit_at m i) (bit_at w i) (bit_at n i) (within_bit m v i a) (within_bit n w i b)
    ∙ sym (bit_at_or v w i))

join_left_bit : (v m w n x : ℕ) → v ≡ min v m → w ≡ min w n → v < 2 → w < 2 → m < 2 → n < 2 → min v (min m n) ≡ min w (min m n)
    → (max m n ≡ 1 → x ≡ max v w) → m ≡ 1 → x ≡ v
join_left_bit v m w n x a b c d e f s g on = grind arith

join_right_bit : (v m w n x : ℕ) → v ≡ min v m → w ≡ min w n → v < 2 → w < 2 → m < 2 → n < 2 → min v (min m n) ≡ min w (min m n)
    → (max m n ≡ 1 → x ≡ max v w) → n ≡ 1 → x ≡ w
join_right_bit v m w n x a b c d e f s g on = grind arith

join_both_bit : (v m w n x : ℕ) → v ≡ min v m → w ≡ min w n → m < 2 → n < 2 → (m ≡ 1 → x ≡ v) → (n ≡ 1 → x ≡ w) → max m n ≡ 1 → x ≡ max v w
join_both_bit v m w n x a b c d f g on = grind arith

joined_at : (m v n w x i : ℕ) → Agrees (bit_or m n) (bit_or v w) x → max (bit_at m i) (bit_at n i) ≡ 1 → bit_at x i ≡ max (bit_at v i) (bit_at w i)
joined_at m v n w x i agrees on = agrees i (bit_at_or m n i ∙ on) ∙ bit_at_or v w i

shared_at : (m v n w i : ℕ) → bit_and v (bit_and m n) ≡ bit_and w (bit_and m n)
    → min (bit_at v i) (min (bit_at m i) (bit_at n i)) ≡ min (bit_at w i) (min (bit_at m i) (bit_at n i))
shared_at m v n w i s = sym (bit_at_shared v m n i) ∙ ap (λ x. bit_at x i) s ∙ bit_at_shared w m n i

-- the joined mask and value hold of the numbers of which both hold
pub agrees_joined : (m v n w x : ℕ) → bit_and v m ≡ v → bit_and w n ≡ w → bit_and v (bit_and m n) ≡ bit_and w (bit_and m n)
    → (Agrees (bit_or m n) (bit_or v w) x → Agrees m v x × Agrees n w x)
    × (Agrees m v x × Agrees n w x → Agrees (bit_or m n) (bit_or v w) x)
agrees_joined m v n w x a b s = (
  λ agrees. (
    λ i on. join_left_bit (bit_at v i) (bit_at m i) (bit_at w i) (bit_at n i) (bit_at x i) (within_bit m v i a) (within_bit n w i b)
        (bit_at-lt v i) (bit_at-lt w i) (bit_at-lt m i) (bit_at-lt n i) (shared_at m v n w i s) (joined_at m v n w x i agrees) on,
    λ i on. join_right_bit (bit_at v i) (bit_at m i) (bit_at w i) (bit_at n i) (bit_at x i) (within_bit m v i a) (within_bit n w i b)
        (bit_at-lt v i) (bit_at-lt w i) (bit_at-lt m i) (bit_at-lt n i) (shared_at m v n w i s) (joined_at m v n w x i agrees) on,
  ),
  λ both i on.
      join_both_bit (bit_at v i) (bit_at m i) (bit_at w i) (bit_at n i) (bit_at x i) (within_bit m v i a) (within_bit n w i b)
      (bit_at-lt m i) (bit_at-lt n i) (both.0 i) (both.1 i) (sym (bit_at_or m n i) ∙ on) ∙ sym (bit_at_or v w i),
)

-- ---- a bit that all numbers of a set have

pub clash : (b : ℕ) → b ≡ 0 → b ≡ 1 → ⊥
clash b p q = omega arith

max_zero : (a b : ℕ) → b ≡ 0 → max a b ≡ a
max_zero a b e = omega arith

max_one : (w p b : ℕ) → b ≡ max w p → p ≡ 1 → w < 2 → b ≡ 1
max_one w p b e q l = omega arith

pub pow_bit : (k i : ℕ) → bit_at (2 ^ k) i ≡ 1 → i ≡ k
pow_bit k i on = elim (cases_eq i k) [
  | inl e ↦ e
  | inr other ↦ absurd (clash (bit_at (2 ^ k) i) (bit_at-pow_other k i other) on)
]

-- the value with one bit more still agrees where the mask leaves that bit open
set_agrees : (n w i : ℕ) → bit_at n i ≡ 0 → Agrees n w (bit_or w (2 ^ i))
set_agrees n w i off = λ j on.
    let other : j ≢ i = λ (e : j ≡ i). clash (bit_at n i) off (ap (λ k. bit_at n k) (sym e) ∙ on) in
    bit_at_or w (2 ^ i) j ∙ max_zero (bit_at w j) (bit_at (2 ^ i) j) (bit_at-pow_other i j other)

set_bit : (w i : ℕ) → bit_at (bit_or w (2 ^ i)) i ≡ 1
set_bit w i = max_one (bit_at w i) (bit_at (2 ^ i) i) _ (bit_at_or w (2 ^ i) i) (bit_at-pow_same i) (bit_at-lt w i)

must_fix : (n w set bit : ℕ) → n < 2 → w ≡ min w n → w ≡ bit → set ≡ 1 → (n ≡ 0 → set ≡ bit) → n ≡ 1
must_fix n w set bit a b c d f = grind arith

-- a bit that all numbers have which agree with a mask and a value is fixed by the mask
pub fixed_by_all : (k n w i bit : ℕ) → w < 2 ^ k → bit_and w n ≡ w → i < k
    → ((x : ℕ) → x < 2 ^ k → Agrees n w x → bit_at x i ≡ bit) → (bit_at n i ≡ 1) × (bit_at w i ≡ bit)
fixed_by_all k n w i bit wk b ik h =
    let same : bit_at w i ≡ bit = h w wk (λ j on. refl) in (
      must_fix (bit_at n i) (bit_at w i) (bit_at (bit_or w (2 ^ i)) i) bit (bit_at-lt n i) (within_bit n w i b) same (set_bit w i)
          (λ off. h (bit_or w (2 ^ i)) (or_lt k w (2 ^ i) wk (pow_below i k ik)) (set_agrees n w i off)),
      same,
    )

-- ---- one set within another

narrow_bit : (m n : ℕ) → m ≡ min m n → m ≡ 1 → n < 2 → n ≡ 1
narrow_bit m n e on b = omega arith

pub narrower_agrees : (m v n w x : ℕ) → bit_and m n ≡ m → bit_and w m ≡ v → Agrees n w x → Agrees m v x
narrower_agrees m v n w x e f agrees = λ i on.
    agrees i (narrow_bit (bit_at m i) (bit_at n i) (ap (λ y. bit_at y i) (sym e) ∙ bit_at_and m n i) on (bit_at-lt n i))
    ∙ agrees_from_and m v w f i on

pub value_included : (k m v n w : ℕ) → w < 2 ^ k → bit_and v m ≡ v → IncludesBelow k m v n w → bit_and w m ≡ v
value_included k m v n w wk a h = and_from_agrees m v w a (h w wk (λ i on. refl))

narrow_both : (m n : ℕ) → m < 2 → n < 2 → (m ≡ 1 → n ≡ 1) → min m n ≡ m
narrow_both m n a b h = grind arith

pub mask_included : (k m v n w : ℕ) → m < 2 ^ k → w < 2 ^ k → bit_and w n ≡ w → IncludesBelow k m v n w → bit_and m n ≡ m
mask_included k m v n w mk wk b h = same_from_bits _ _ (λ i.
    bit_at_and m n i ∙ narrow_both (bit_at m i) (bit_at n i) (bit_at-lt m i) (bit_at-lt n i) (λ on. elim (cases_lt i k) [
      | inl below ↦ (fixed_by_all k n w i (bit_at v i) wk b below (λ x xk agrees. h x xk agrees i on)).0
      | inr above ↦ absurd (clash (bit_at m i) (bit_at_above m k i mk above) on)
    ]))

-- ---- the hull

abbrev pub hull_mask : ℕ → ℕ → ℕ → ℕ → ℕ
hull_mask m v n w = bit_or (bit_and v w) (bit_and (bit_xor m v) (bit_xor n w))

absorb : (a b : ℕ) → min a (max a b) ≡ a
absorb a b = omega arith

pub and_or_absorb : (a b : ℕ) → bit_and a (bit_or a b) ≡ a
and_or_absorb a b = same_from_bits _ _ (λ i.
    bit_at_and a (bit_or a b) i ∙ ap (λ x. min (bit_at a i) x) (bit_at_or a b i) ∙ absorb (bit_at a i) (bit_at b i))

hull_mask_at : (m v n w i : ℕ) → bit_at (hull_mask m v n w) i
    ≡ max (min (bit_at v i) (bit_at w i)) (min ((bit_at m i + bit_at v i) % 2) ((bit_at n i + bit_at w i) % 2))
hull_mask_at m v n w i =
    bit_at_or (bit_and v w) (bit_and (bit_xor m v) (bit_xor n w)) i
    ∙ ap (λ x. max x (bit_at (bit_and (bit_xor m v) (bit_xor n w)) i)) (bit_at_and v w i)
    ∙ ap (λ x. max (min (bit_at v i) (bit_at w i)) x) (bit_at_and (bit_xor m v) (bit_xor n w) i)
    ∙ ap (λ x. max (min (bit_at v i) (bit_at w i)) (min x (bit_at (bit_xor n w) i))) (bit_at_xor m v i)
    ∙ ap (λ x. max (min (bit_at v i) (bit_at w i)) (min ((bit_at m i + bit_at v i) % 2) x)) (bit_at_xor n w i)

hull_fixes : (m v n w b : ℕ) → m ≡ 1 → n ≡ 1 → b < 2 → v ≡ b → w ≡ b → max (min v w) (min ((m + v) % 2) ((n + w) % 2)) ≡ 1
hull_fixes m v n w b a c d e f = omega arith

min_same : (v w b : ℕ) → v ≡ b → w ≡ b → min v w ≡ b
min_same v w b e f = omega arith

-- a number of the hull has the bit that all numbers of both sets have
pub hull_has : (k m v n w q i bit : ℕ) → v < 2 ^ k → w < 2 ^ k → q < 2 ^ k → bit_and v m ≡ v → bit_and w n ≡ w
    → Agrees (hull_mask m v n w) (bit_and v w) q
    → ((x : ℕ) → x < 2 ^ k → Agrees m v x → bit_at x i ≡ bit)
    → ((x : ℕ) → x < 2 ^ k → Agrees n w x → bit_at x i ≡ bit) → bit_at q i ≡ bit
hull_has k m v n w q i bit vk wk qk a b agrees f g = elim (cases_lt i k) [
  | inr above ↦ bit_at_above q k i qk above ∙ sym (bit_at_above v k i vk above) ∙ f v vk (λ j on. refl)
  | inl below ↦
      let first = fixed_by_all k m v i bit vk a below f in
      let second = fixed_by_all k n w i bit wk b below g in
      let small : bit < 2 = subst (λ (x : ℕ). x < 2) first.1 (bit_at-lt v i) in
      agrees i (hull_mask_at m v n w i ∙ hull_fixes (bit_at m i) (bit_at v i) (bit_at n i) (bit_at w i) bit first.0 second.0 small first.1 second.1)
      ∙ bit_at_and v w i ∙ min_same (bit_at v i) (bit_at w i) bit first.1 second.1
]

hull_first : (m v n w : ℕ) → m < 2 → v < 2 → n < 2 → w < 2 → v ≡ min v m → w ≡ min w n
    → max (min v w) (min ((m + v) % 2) ((n + w) % 2)) ≡ 1 → (m ≡ 1) × (n ≡ 1) × (w ≡ v) × (min v w ≡ v)
hull_first m v n w a b c d e f g = (grind arith, grind arith, grind arith, grind arith)

-- a number that has each bit which all numbers of both sets have is in the hull
pub hull_agrees : (k m v n w q : ℕ) → bit_and v m ≡ v → bit_and w n ≡ w
    → ((i bit : ℕ) → ((x : ℕ) → x < 2 ^ k → Agrees m v x ⊎ Agrees n w x → bit_at x i ≡ bit) → bit_at q i ≡ bit)
    → Agrees (hull_mask m v n w) (bit_and v w) q
hull_agrees k m v n w q a b h = λ i on.
    let fixed = hull_first (bit_at m i) (bit_at v i) (bit_at n i) (bit_at w i) (bit_at-lt m i) (bit_at-lt v i) (bit_at-lt n i) (bit_at-lt w i)
    (within_bit m v i a) (within_bit n w i b) (sym (hull_mask_at m v n w i) ∙ on) in
    let all : (x : ℕ) → x < 2 ^ k → Agrees m v x ⊎ Agrees n w x → bit_at x i ≡ bit_at v i = λ x xk either. elim either [
      | inl agrees ↦ agrees i fixed.0
      | inr agrees ↦ agrees i fixed.1 ∙ fixed.2
    ] in
    h i (bit_at v i) all ∙ sym fixed.3 ∙ sym (bit_at_and v w i)
