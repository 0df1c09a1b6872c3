-- Sums bit by bit with their carries, and products as sums.
use Rattle.std.proofs.Common.{◌≡◌, ℕ, ◌+◌, ◌-◌, ◌*◌, ◌/◌, ◌%◌, ◌^◌, ◌<◌, ◌≤◌, min, max, bit_and, bit_or, bit_xor, arith, sym, ap, ◌∙◌, inl, inr, subst}
use Rattle.std.specs.Int.{bit_at, w64}
use Rattle.std.proofs.Math.Nat.{add-mul-div_right, div-mul-le_self, mod-add-div', mod-eq_of_lt}
use Rattle.std.proofs.lemmas.Bool.{cases_lt}
use Rattle.std.proofs.lemmas.Nat.{and_le_l, and_mod, div_below, le-div, mod-pow-add, mod_below, mul-mod_second, one_shl, pow_pos}
use Rattle.std.proofs.lemmas.Nat.Bits.{and_pow, bit_at_above, bit_at_and, bit_at_not, bit_at_xor, bit_at-lt, bit_at-zero, same_from_bits}
use Rattle.sl_asm_bits.proofs.BitLemmas.{at_or, one_of_64, same_at}
use Rattle.sl_asm_bits.proofs.ShiftLemmas.{low_at}
use Rattle.sl_asm_bits.specs.Known.{Has}
use Rattle.sl_asm_bits.specs.declared.Known.{Known}
use Rattle.sl_cube.specs.Bits.{Agrees}
use Rattle.sl_cube.proofs.BitLemmas.{within_bit}

-- ---- the bits of a sum

-- what the lower bits of two numbers and a carry give to the bit at a place
abbrev carry : ℕ → ℕ → ℕ → ℕ → ℕ
carry x y c i = (x % 2 ^ i + y % 2 ^ i + c) / 2 ^ i

split_sum : (x y c p : ℕ) → x + y + c ≡ (x % p + y % p + c) + (x / p + y / p) * p
split_sum x y c p = omega (arith, mod-add-div' x p, mod-add-div' y p)

parity : (a b s : ℕ) → (s + (a + b)) % 2 ≡ (a % 2 + b % 2 + s) % 2
parity a b s = omega arith

sum_at : (x y c i : ℕ) → bit_at (x + y + c) i ≡ (bit_at x i + bit_at y i + carry x y c i) % 2
sum_at x y c i =
    ap (λ (n : ℕ). n / 2 ^ i % 2) (split_sum x y c (2 ^ i))
    ∙ ap (λ (q : ℕ). q % 2) (add-mul-div_right (x % 2 ^ i + y % 2 ^ i + c) (x / 2 ^ i + y / 2 ^ i) (pow_pos i))
    ∙ parity (x / 2 ^ i) (y / 2 ^ i) (carry x y c i)

carry_lt : (x y c i : ℕ) → c ≤ 1 → carry x y c i < 2
carry_lt x y c i small =
    div_below (x % 2 ^ i + y % 2 ^ i + c) (2 ^ i) 2 (pow_pos i) (omega (arith, small, mod_below x (2 ^ i) (pow_pos i), mod_below y (2 ^ i) (pow_pos i)))

div_mono : (a b p : ℕ) → 0 < p → a ≤ b → a / p ≤ b / p
div_mono a b p some le = let below : a / p * p ≤ b = omega (arith, le, div-mul-le_self a p) in le-div (a / p) b p some below

carry_mono : (x y v w c i : ℕ) → x % 2 ^ i ≤ v % 2 ^ i → y % 2 ^ i ≤ w % 2 ^ i → carry x y c i ≤ carry v w c i
carry_mono x y v w c i p q = div_mono (x % 2 ^ i + y % 2 ^ i + c) (v % 2 ^ i + w % 2 ^ i + c) (2 ^ i) (pow_pos i) (omega (arith, p, q))

-- ---- the least and the greatest number that has what is known

within_mod : (v n i : ℕ) → bit_and n v ≡ v → v % 2 ^ i ≤ n % 2 ^ i
within_mod v n i e = subst (λ (x : ℕ). x ≤ n % 2 ^ i) (sym (and_mod n v i) ∙ ap (λ (x : ℕ). x % 2 ^ i) e) (and_le_l (n % 2 ^ i) (v % 2 ^ i))

least_bit : (m am av : ℕ) → m < 2 → am < 2 → av < 2 → av ≡ min av am → (am ≡ 1 → m ≡ av) → min m av ≡ av
least_bit m am av a b c w f = grind arith

greatest_bit : (m am av : ℕ) → m < 2 → am < 2 → av < 2 → (am ≡ 1 → m ≡ av) → min (max av (1 - am)) m ≡ m
greatest_bit m am av a b c f = grind arith

min_zero : (x m : ℕ) → m ≡ 0 → min x m ≡ m
min_zero x m e = omega (arith, e)

known_max : (am av : ℕ) → am ≡ 1 → max av (1 - am) ≡ av
known_max am av e = omega (arith, e)

module _ (am av m : ℕ) (w : bit_and av am ≡ av) (mf : am < 2 ^ 64) (nf : m < 2 ^ 64) (f : Agrees am av m) where
  abbrev greatest : ℕ
  greatest = bit_or av (2 ^ 64 - 1 - am)

  least_within : bit_and m av ≡ av
  least_within = same_from_bits (bit_and m av) av (λ i. bit_at_and m av i
      ∙ least_bit (bit_at m i) (bit_at am i) (bit_at av i) (bit_at-lt m i) (bit_at-lt am i) (bit_at-lt av i) (within_bit am av i w) (f i))

  greatest_at : (i : ℕ) → i < 64 → bit_at greatest i ≡ max (bit_at av i) (1 - bit_at am i)
  greatest_at i lt = at_or av (2 ^ 64 - 1 - am) i (bit_at av i) (1 - bit_at am i) (λ j. bit_at av i) (bit_at_not w64 am i mf lt)

  within_greatest : bit_and greatest m ≡ m
  within_greatest = same_from_bits (bit_and greatest m) m (λ i. bit_at_and greatest m i ∙ elim (cases_lt i 64) [
    | inl lt ↦ ap (λ (x : ℕ). min x (bit_at m i)) (greatest_at i lt)
        ∙ greatest_bit (bit_at m i) (bit_at am i) (bit_at av i) (bit_at-lt m i) (bit_at-lt am i) (bit_at-lt av i) (f i)
    | inr past ↦ min_zero (bit_at greatest i) (bit_at m i) (bit_at_above m 64 i nf past)
  ])

  greatest_known : (i : ℕ) → i < 64 → bit_at am i ≡ 1 → bit_at greatest i ≡ bit_at av i
  greatest_known i lt on = greatest_at i lt ∙ known_max (bit_at am i) (bit_at av i) on

  pub above_least : (i : ℕ) → av % 2 ^ i ≤ m % 2 ^ i
  above_least i = within_mod av m i least_within

  pub below_greatest : (i : ℕ) → m % 2 ^ i ≤ greatest % 2 ^ i
  below_greatest i = within_mod m greatest i within_greatest

-- ---- the known bits of a sum

mask_on : (s l g : ℕ) → s < 2 → l < 2 → g < 2 → (s + min s ((l + g) % 2)) % 2 ≡ 1 → (s ≡ 1) × (l ≡ g)
mask_on s l g a b c on = (grind arith, grind arith)

both_on : (a b s : ℕ) → a < 2 → b < 2 → s ≡ min a b → s ≡ 1 → (a ≡ 1) × (b ≡ 1)
both_on a b s p q e on = (omega arith, omega arith)

sum_bit : (m n av bv ga gb c0 c1 c2 : ℕ) → m ≡ av → n ≡ bv → ga ≡ av → gb ≡ bv → c0 ≤ c1 → c1 ≤ c2 → c2 < 2
    → (av + bv + c0) % 2 ≡ (ga + gb + c2) % 2 → (m + n + c1) % 2 ≡ (av + bv + c0) % 2
sum_bit m n av bv ga gb c0 c1 c2 p q r s le more small e = omega arith

module _ (am av bm bv m n c : ℕ) (aw : bit_and av am ≡ av) (bw : bit_and bv bm ≡ bv) (af : am < 2 ^ 64) (bf : bm < 2 ^ 64) (mf : m < 2 ^ 64) (nf : n < 2 ^ 64)
    (one : c ≤ 1) (f : Agrees am av m) (g : Agrees bm bv n) where
  pub sum_has : (least most : ℕ) → least ≡ (av + bv + c) % 2 ^ 64 → most ≡ (greatest am av m aw af mf f + greatest bm bv n bw bf nf g + c) % 2 ^ 64
      → Agrees (bit_xor (bit_and am bm) (bit_and (bit_and am bm) (bit_xor least most))) least ((m + n + c) % 2 ^ 64)
  sum_has least most l h = λ i on.
      let ga : ℕ = greatest am av m aw af mf f in
      let gb : ℕ = greatest bm bv n bw bf nf g in
      let s : ℕ = bit_at (bit_and am bm) i in
      let known = mask_on s (bit_at least i) (bit_at most i) (bit_at-lt (bit_and am bm) i) (bit_at-lt least i) (bit_at-lt most i)
      (sym (same_at (bit_and am bm) least most i) ∙ on) in
      let each = both_on (bit_at am i) (bit_at bm i) s (bit_at-lt am i) (bit_at-lt bm i) (bit_at_and am bm i) known.0 in
      let lt : i < 64 = one_of_64 am i af each.0 in
      let at_least : bit_at least i ≡ (bit_at av i + bit_at bv i + carry av bv c i) % 2 = ap (λ (x : ℕ). bit_at x i) l ∙ low_at (av + bv + c) i lt ∙ sum_at av bv c i in
      let at_most : bit_at most i ≡ (bit_at ga i + bit_at gb i + carry ga gb c i) % 2 = ap (λ (x : ℕ). bit_at x i) h ∙ low_at (ga + gb + c) i lt ∙ sum_at ga gb c i in
      let more = carry_mono av bv m n c i (above_least am av m aw af mf f i) (above_least bm bv n bw bf nf g i) in
      let less = carry_mono m n ga gb c i (below_greatest am av m aw af mf f i) (below_greatest bm bv n bw bf nf g i) in
      low_at (m + n + c) i lt ∙ sum_at m n c i
      ∙ sum_bit (bit_at m i) (bit_at n i) (bit_at av i) (bit_at bv i) (bit_at ga i) (bit_at gb i) (carry av bv c i) (carry m n c i) (carry ga gb c i)
      (f i each.0) (g i each.1) (greatest_known am av m aw af mf f i lt each.0) (greatest_known bm bv n bw bf nf g i lt each.1) more less (carry_lt ga gb c i one)
      (sym at_least ∙ known.1 ∙ at_most)
      ∙ sym at_least

pub wrapped_twice : (a b c : ℕ) → ((a + b) % 2 ^ 64 + c) % 2 ^ 64 ≡ (a + b + c) % 2 ^ 64
wrapped_twice a b c = omega arith

-- ---- a number that is taken once or not at all

taken_bit : (tm tv n : ℕ) → tm < 2 → tv < 2 → n < 2 → tv ≡ min tv tm → (tm ≡ 1 → n ≡ tv) → (tm + tv) % 2 ≡ 1 → n ≡ 0
taken_bit tm tv n a b c w f on = grind arith

times_zero : (b n i : ℕ) → b < 2 → bit_at n i ≡ 0 → bit_at (b * n) i ≡ 0
times_zero b n i small off = elim (cases_lt b 1) [
  | inl lt ↦ let e : b * n ≡ 0 = (let z : b ≡ 0 = omega (arith, lt) in ap (λ (x : ℕ). x * n) z ∙ omega arith) in ap (λ (x : ℕ). bit_at x i) e ∙ bit_at-zero i
  | inr past ↦ let e : b * n ≡ n = (let o : b ≡ 1 = omega (arith, small, past) in ap (λ (x : ℕ). x * n) o ∙ omega arith) in ap (λ (x : ℕ). bit_at x i) e ∙ off
]

pub maybe_has : (tm tv n b : ℕ) → bit_and tv tm ≡ tv → b < 2 → Agrees tm tv n → Agrees (bit_xor tm tv) 0 (b * n)
maybe_has tm tv n b w small f = λ i on.
    times_zero b n i small (taken_bit (bit_at tm i) (bit_at tv i) (bit_at n i) (bit_at-lt tm i) (bit_at-lt tv i) (bit_at-lt n i) (within_bit tm tv i w) (f i)
    (sym (bit_at_xor tm tv i) ∙ on)) ∙ sym (bit_at-zero i)

-- ---- a product as a sum

pub set_bit : (v k : ℕ) → k < 64 → (bit_and v (1 * 2 ^ k % 2 ^ 64) ≡ 0 → ⊥) → bit_at v k ≡ 1
set_bit v k lt ne = elim (cases_lt (bit_at v k) 1) [
  | inl none ↦
      let off : bit_at v k ≡ 0 = omega (arith, none) in
      absurd (ne (ap (bit_and v) (one_shl k 64 lt) ∙ and_pow v k ∙ ap (λ (b : ℕ). b * 2 ^ k) off ∙ omega arith))
  | inr some ↦ omega (arith, some, bit_at-lt v k)
]

pub clear_bit : (v k : ℕ) → k < 64 → bit_and v (1 * 2 ^ k % 2 ^ 64) ≡ 0 → bit_at v k ≡ 0
clear_bit v k lt e = elim (cases_lt (bit_at v k) 1) [
  | inl none ↦ omega (arith, none)
  | inr some ↦
      let on : bit_at v k ≡ 1 = omega (arith, some, bit_at-lt v k) in
      let full : 2 ^ k ≡ 0 = omega (arith, sym (ap (bit_and v) (one_shl k 64 lt) ∙ and_pow v k ∙ ap (λ (b : ℕ). b * 2 ^ k) on) ∙ e) in
      absurd (omega (arith, full, pow_pos k))
]

mod_sum : (x y z : ℕ) → y % 2 ^ 64 ≡ z % 2 ^ 64 → (x % 2 ^ 64 + y + 0) % 2 ^ 64 ≡ (x + z) % 2 ^ 64
mod_sum x y z e = omega arith

spread : (r n b p : ℕ) → r * n + b * (n * p) ≡ (b * p + r) * n
spread r n b p = omega arith

one_more : (m k : ℕ) → m % 2 ^ (k + 1) ≡ bit_at m k * 2 ^ k + m % 2 ^ k
one_more m k = let turned : k + 1 ≡ 1 + k = omega arith in ap (λ (j : ℕ). m % 2 ^ j) turned ∙ mod-pow-add m 1 k

pub product_step : (m n k : ℕ) → (m % 2 ^ k * n % 2 ^ 64 + bit_at m k * (n * 2 ^ k % 2 ^ 64) + 0) % 2 ^ 64 ≡ m % 2 ^ (k + 1) * n % 2 ^ 64
product_step m n k =
    mod_sum (m % 2 ^ k * n) (bit_at m k * (n * 2 ^ k % 2 ^ 64)) (bit_at m k * (n * 2 ^ k)) (mul-mod_second (bit_at m k) (n * 2 ^ k) (2 ^ 64))
    ∙ ap (λ (x : ℕ). x % 2 ^ 64) (spread (m % 2 ^ k) n (bit_at m k) (2 ^ k)) ∙ ap (λ (x : ℕ). x * n % 2 ^ 64) (sym (one_more m k))

pub product_none : (m n : ℕ) → m % 2 ^ 0 * n % 2 ^ 64 ≡ 0
product_none m n = let e : m % 2 ^ 0 ≡ 0 = omega arith in ap (λ (x : ℕ). x * n % 2 ^ 64) e ∙ omega arith

pub product_all : (m n k : ℕ) → m < 2 ^ 64 → k ≡ 64 → m % 2 ^ k * n % 2 ^ 64 ≡ m * n % 2 ^ 64
product_all m n k small e = ap (λ (j : ℕ). m % 2 ^ j * n % 2 ^ 64) e ∙ ap (λ (x : ℕ). x * n % 2 ^ 64) (mod-eq_of_lt small)

-- ---- by the bit of the other number

one_bit : (m v b : ℕ) → v < 2 → m < 2 → v ≡ min v m → v ≡ 1 → (m ≡ 1 → b ≡ v) → b ≡ 1
one_bit m v b p q w on f = grind arith

pub row_one : (mask value m n k : ℕ) (taken : Known) → bit_and value mask ≡ value → k < 64 → (bit_and value (1 * 2 ^ k % 2 ^ 64) ≡ 0 → ⊥) → Agrees mask value m
    → Has taken n → Has taken (bit_at m k * n)
row_one mask value m n k taken w lt ne f g =
    let on = one_bit (bit_at mask k) (bit_at value k) (bit_at m k) (bit_at-lt value k) (bit_at-lt mask k) (within_bit mask value k w) (set_bit value k lt ne) (f k) in
    let same : n ≡ bit_at m k * n = sym (ap (λ (b : ℕ). b * n) on ∙ omega arith) in
    subst (λ (x : ℕ). Has taken x) same g

pub row_zero : (mask value m n k : ℕ) (none : Known) → k < 64 → bit_and value (1 * 2 ^ k % 2 ^ 64) ≡ 0 → (bit_and mask (1 * 2 ^ k % 2 ^ 64) ≡ 0 → ⊥) → Has none 0
    → Agrees mask value m → Has none (bit_at m k * n)
row_zero mask value m n k none lt off known has f =
    let zero : bit_at m k ≡ 0 = f k (set_bit mask k lt known) ∙ clear_bit value k lt off in
    let same : 0 ≡ bit_at m k * n = sym (ap (λ (b : ℕ). b * n) zero ∙ omega arith) in
    subst (λ (x : ℕ). Has none x) same has

pub bit_times_lt : (m n k : ℕ) → bit_at m k * (n * 2 ^ k % 2 ^ 64) < 2 ^ 64
bit_times_lt m n k =
    let small : n * 2 ^ k % 2 ^ 64 < 2 ^ 64 = omega arith in
    elim (cases_lt (bit_at m k) 1) [
      | inl lt ↦ let e : bit_at m k ≡ 0 = omega (arith, lt) in subst (λ (b : ℕ). b * (n * 2 ^ k % 2 ^ 64) < 2 ^ 64) (sym e) (omega arith)
      | inr past ↦ let e : bit_at m k ≡ 1 = omega (arith, past, bit_at-lt m k) in subst (λ (b : ℕ). b * (n * 2 ^ k % 2 ^ 64) < 2 ^ 64) (sym e) (omega (arith, small))
    ]
