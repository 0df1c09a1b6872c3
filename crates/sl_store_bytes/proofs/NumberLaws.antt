-- Numbers in groups of 7 bits.
use Rattle.std.proofs.Common.{◌≡◌, ℕ, zero, suc, ◌<◌, ◌≤◌, ◌+◌, ◌-◌, ◌*◌, ◌/◌, ◌%◌, nat_le, Bool, true, false, if◌then◌else◌, List, [], ◌∷◌, ◌++◌, Ok, refl, ap, sym, ◌∙◌, arith}
use Rattle.sl_store_bytes.specs.Numbers.{groups, begins_number, more_of, number_within, write_number, number, greatest, IsWithin, HasGroups}
use Rattle.sl_store_bytes.specs.Reader.{Reader, ◌>>=◌, pure, byte}
use Rattle.sl_store_bytes.specs.Exact.{Exact}
use Rattle.sl_store_bytes.proofs.Chains.{Behind, behind_done, behind_then, exact_from, exact_byte, alone, reads_then}

begins : (least most b : ℕ) → least ≤ b → b ≤ most → b ≤ 255 → begins_number least most b ≡ true
begins least most b low high fits = grind arith

began : (least most b : ℕ) → begins_number least most b ≡ true → (least ≤ b) × (b ≤ most) × (b ≤ 255)
began least most b e = grind arith

-- ---- one byte

last_complete : (least most n : ℕ) (rest : List ℕ) → most < 128 → IsWithin least most n → number_within zero least most (groups zero n ++ rest) ≡ Ok (n, rest)
unfolding number_within groups
last_complete least most n rest few within =
    (exact_byte (begins_number least most) n (begins least most n within.low within.high (omega (arith, within.high)))).complete n rest (begins least most n within.low within.high (omega (arith, within.high)))

last_behind : (least most : ℕ) → least ≤ most → most < 128 → Behind (groups zero) (IsWithin least most) [] (number_within zero least most)
unfolding number_within groups
last_behind least most some few = record {
  sound = λ xs rest n e. (let s = (exact_byte (begins_number least most) least (begins least most least (omega arith) some (omega arith))).sound xs rest n e in
      let fit = began least most n s.good in record { good = record { low = fit.0; high = fit.1 }; bytes = s.bytes });
  steady = (exact_byte (begins_number least most) least (begins least most least (omega arith) some (omega arith))).steady;
}

-- ---- more bytes

-- the first byte of a number above 127
abbrev pub first_group : ℕ → ℕ
first_group n = 128 + n % 128

wide : (k n : ℕ) → 128 ≤ n → groups (suc k) n ≡ first_group n ∷ groups k (n / 128)
unfolding groups
wide k n h = let e : nat_le 128 n ≡ true = grind arith in rw e refl

narrow : (k n : ℕ) → n < 128 → groups (suc k) n ≡ n ∷ []
unfolding groups
narrow k n h = let e : nat_le 128 n ≡ false = grind arith in rw e refl

pub fits_less : (k m n : ℕ) → n ≤ m → HasGroups k m → HasGroups k n
fits_less zero m n h fits = omega arith
fits_less (suc k) m n h fits = fits_less k (m / 128) (n / 128) (omega arith) fits

module _ (k least most : ℕ) (start : least ≤ 128) (some : least ≤ most) (fits : HasGroups (suc k) most)
    (inner : (least' most' : ℕ) → least' ≤ 128 → least' ≤ most' → HasGroups k most' → Exact (groups k) (IsWithin least' most') (number_within k least' most')) where
  -- the reader of what follows the byte
  abbrev follow : ℕ → Reader ℕ
  follow b = more_of (number_within k 1 ((most - (b - 128)) / 128)) b

  above : (b : ℕ) → 128 ≤ b → b ≤ most → Exact (groups k) (IsWithin 1 ((most - (b - 128)) / 128)) (number_within k 1 ((most - (b - 128)) / 128))
  above b big high = inner 1 ((most - (b - 128)) / 128) (omega arith) (omega arith) (fits_less k (most / 128) _ (omega arith) fits)

  begun : Exact alone (λ b. begins_number least most b ≡ true) (byte (begins_number least most))
  begun = exact_byte (begins_number least most) least (begins least most least (omega arith) some (omega arith))

  more_behind : (b : ℕ) → (least ≤ b) × (b ≤ most) × (b ≤ 255) → (v : Bool) → nat_le 128 b ≡ v
      → Behind (groups (suc k)) (IsWithin least most) (b ∷ []) (if v then (number_within k 1 ((most - (b - 128)) / 128) >>= (λ m. pure ((b - 128) + 128 * m))) else pure b)
  more_behind b fit true e =
      let big : 128 ≤ b = grind arith in
      behind_then _ _ (b ∷ []) (above b big fit.1) _ (λ m within.
      (let up = within.low in let down = within.high in
      let first : first_group ((b - 128) + 128 * m) ≡ b = omega (arith, fit.2) in
      let rest : ((b - 128) + 128 * m) / 128 ≡ m = omega (arith, fit.2) in
      behind_done (groups (suc k)) (IsWithin least most) ((b ∷ []) ++ groups k m) ((b - 128) + 128 * m)
      (record { low = omega (arith, start); high = omega (arith, fit.1, down) })
      (sym (wide k ((b - 128) + 128 * m) (omega arith) ∙ ap (λ c. c ∷ groups k (((b - 128) + 128 * m) / 128)) first ∙ ap (λ c. b ∷ groups k c) rest))))
  more_behind b fit false e =
      let small : b < 128 = grind arith in
      behind_done _ _ (b ∷ []) b (record { low = fit.0; high = fit.1 }) (sym (narrow k b small))

  step_behind : Behind (groups (suc k)) (IsWithin least most) [] (number_within (suc k) least most)
  unfolding number_within
  step_behind = behind_then _ _ [] begun _ (λ b on. more_behind b (began least most b on) (nat_le 128 b) refl)

  step_small : (n : ℕ) (rest : List ℕ) → IsWithin least most n → n < 128 → number_within (suc k) least most (groups (suc k) n ++ rest) ≡ Ok (n, rest)
  unfolding number_within
  step_small n rest within small =
      let less : nat_le 128 n ≡ false = grind arith in
      ap (λ zs. number_within (suc k) least most (zs ++ rest)) (narrow k n small)
      ∙ reads_then begun follow n (begins least most n within.low within.high (omega arith)) rest
      ∙ rw less refl

  step_big : (n : ℕ) (rest : List ℕ) → IsWithin least most n → 128 ≤ n → number_within (suc k) least most (groups (suc k) n ++ rest) ≡ Ok (n, rest)
  unfolding number_within
  step_big n rest within big =
      let low = within.low in let high = within.high in
      let b = first_group n in
      let more : nat_le 128 (first_group n) ≡ true = grind arith in
      let in_most : first_group n ≤ most = omega (arith, high) in
      let whole : (first_group n - 128) + 128 * (n / 128) ≡ n = omega arith in
      ap (λ zs. number_within (suc k) least most (zs ++ rest)) (wide k n big)
      ∙ reads_then begun follow (first_group n) (begins least most (first_group n) (omega (arith, start)) in_most (omega arith)) (groups k (n / 128) ++ rest)
      ∙ ap (λ v. (if v then (number_within k 1 ((most - (first_group n - 128)) / 128) >>= (λ m. pure ((first_group n - 128) + 128 * m))) else pure (first_group n)) (groups k (n / 128) ++ rest)) more
      ∙ reads_then (above (first_group n) (omega arith) in_most) (λ m. pure ((first_group n - 128) + 128 * m)) (n / 128) (record { low = omega arith; high = omega (arith, high) }) rest
      ∙ ap (λ c. Ok (c, rest)) whole

  step_by : (n : ℕ) (rest : List ℕ) (v : Bool) → nat_le 128 n ≡ v → IsWithin least most n → number_within (suc k) least most (groups (suc k) n ++ rest) ≡ Ok (n, rest)
  step_by n rest true e within = let big : 128 ≤ n = grind arith in step_big n rest within big
  step_by n rest false e within = let small : n < 128 = grind arith in step_small n rest within small

  step_complete : (n : ℕ) (rest : List ℕ) → IsWithin least most n → number_within (suc k) least most (groups (suc k) n ++ rest) ≡ Ok (n, rest)
  step_complete n rest within = step_by n rest (nat_le 128 n) refl within

pub exact_number : (k least most : ℕ) → least ≤ 128 → least ≤ most → HasGroups k most → Exact (groups k) (IsWithin least most) (number_within k least most)
exact_number zero least most start some fits = exact_from (last_behind least most some fits) (λ n rest within. last_complete least most n rest fits within)
exact_number (suc k) least most start some fits = exact_from
    (step_behind k least most start some fits (exact_number k)) (step_complete k least most start some fits (exact_number k))

-- numbers of the program
pub exact_numbers : (least most : ℕ) → least ≤ 128 → least ≤ most → most ≤ greatest → Exact write_number (IsWithin least most) (number least most)
exact_numbers least most start some high = exact_number 9 least most start some (fits_less 9 greatest most high (omega arith))

pub wide_groups : (k n : ℕ) → 0 < k → 128 ≤ n → groups k n ≡ (128 + n % 128) ∷ groups (k - 1) (n / 128)
wide_groups zero n some big = absurd (omega arith)
wide_groups (suc k) n some big = wide k n big ∙ ap (λ j. first_group n ∷ groups j (n / 128)) (omega arith)
