-- The sixteen bytes from a place on, as a number: each of its bytes is a byte of the list, or 0 behind its end.
use Rattle.std.proofs.Common.{◌≡◌, ℕ, zero, suc, ◌+◌, ◌-◌, ◌*◌, ◌/◌, ◌%◌, ◌^◌, ◌<◌, ◌≤◌, List, [], ◌∷◌, ◌++◌, length, get_or, take, drop, replicate, arith, refl, sym, ap, subst, ◌∙◌, inl, inr}
use Rattle.std.specs.Prelude.{reverse}
use Rattle.std.specs.Int.{bit_at}
use Rattle.std.specs.List.{All}
use Rattle.std.proofs.lemmas.Bool.{cases_lt}
use Rattle.std.proofs.lemmas.List.{get_or-drop, get_or-replicate, get_or-reverse, get_or-take, get_or_past, length-append, length-drop, length-replicate, length-reverse, length-take}
use Rattle.std.proofs.lemmas.Nat.Bits.{bit_at-zero, bit_at_above, bit_at_cat_high, bit_at_cat_low}
use Rattle.sl_asm_fit.proofs.BitLemmas.{HasByteOf}
use Rattle.sl_asm_fit.specs.Windows.{ReadsIn, window, with_zeros}
use Rattle.sl_cube.specs.Bits.{Agrees}
use Rattle.sl_cube.specs.Points.{InRange}
use Rattle.sl_cube.specs.declared.Cube.{Cube}
use Rattle.sl_decode_meaning.specs.Decoding.{point_at}
use Rattle.sl_spec.specs.FieldValues.{number_from_least, token_integer}
use Rattle.sl_word.specs.declared.word.Endian.TheVariants.{Big}

-- ---- zeros behind a list

zeros_at : (n k : ℕ) → ◌≡◌ {A = ℕ} (get_or (replicate n 0) k 0) 0
zeros_at n k = elim (cases_lt k n) [
  | inl lt ↦ get_or-replicate n k 0 0 lt
  | inr past ↦ get_or_past (replicate n 0) k 0 (omega (arith, past, length-replicate {A = ℕ} n 0))
]

zeros_behind : (xs : List ℕ) (n k : ℕ) → get_or (xs ++ replicate n 0) k 0 ≡ get_or xs k 0
zeros_behind [] n k = zeros_at n k
zeros_behind (x ∷ xs) n zero = refl
zeros_behind (x ∷ xs) n (suc k) = zeros_behind xs n k

zeros_read : (xs : List ℕ) (k : ℕ) → k < window → get_or (with_zeros xs) k 0 ≡ get_or xs k 0
zeros_read xs k lt = get_or-take window (xs ++ replicate window 0) k 0 lt ∙ zeros_behind xs window k

zeros_long : (xs : List ℕ) → length (with_zeros xs) ≡ window
zeros_long xs = omega (arith, length-take window (xs ++ replicate window 0), length-append xs (replicate window 0), length-replicate {A = ℕ} window 0)

-- ---- sixteen bytes

-- the bytes from a place on
abbrev pub sixteen : List ℕ → ℕ → List ℕ
sixteen xs at = take 16 (drop at (with_zeros xs))

sixteen_long : (xs : List ℕ) (at : ℕ) → at ≤ 255 → length (sixteen xs at) ≡ 16
sixteen_long xs at place = omega (arith, place, length-take 16 (drop at (with_zeros xs)), length-drop at (with_zeros xs), zeros_long xs)

sixteen_at : (xs : List ℕ) (at k : ℕ) → at ≤ 255 → k < 16 → get_or (sixteen xs at) k 0 ≡ get_or xs (at + k) 0
sixteen_at xs at k place lt =
    get_or-take 16 (drop at (with_zeros xs)) k 0 lt ∙ get_or-drop at (with_zeros xs) k 0 ∙ zeros_read xs (at + k) (omega (arith, place, lt))

-- ---- a number from its bytes

abbrev AreBytes : List ℕ → Type 0
AreBytes bs = (i : ℕ) → get_or bs i 0 < 256

are_bytes : (xs : List ℕ) → All (λ b. b < 256) xs → AreBytes xs
are_bytes xs all i = elim (cases_lt i (length xs)) [
  | inl lt ↦ all i 0 lt
  | inr past ↦ subst (λ (x : ℕ). x < 256) (sym (get_or_past xs i 0 past)) (omega arith)
]

AreBytes-rest : (b : ℕ) (bs : List ℕ) → AreBytes (b ∷ bs) → AreBytes bs
AreBytes-rest b bs h i = h (suc i)

bit_at_number : (bs : List ℕ) (j : ℕ) → AreBytes bs → bit_at (number_from_least bs) j ≡ bit_at (get_or bs (j / 8) 0) (j % 8)
bit_at_number [] j h = bit_at-zero j ∙ sym (bit_at-zero (j % 8))
bit_at_number (b ∷ bs) j h =
    let n : ℕ = number_from_least bs in
    let split : b + 256 * n ≡ n * 2 ^ 8 + b = omega arith in
    let byte : b < 2 ^ 8 = h 0 in
    ap (λ (x : ℕ). bit_at x j) split ∙ elim (cases_lt j 8) [
      | inl low ↦
          let q : j / 8 ≡ 0 = omega arith in
          let r : j % 8 ≡ j = omega arith in
          bit_at_cat_low n 8 b j low ∙ ap (λ (k : ℕ). bit_at b k) (sym r) ∙ ap (λ (k : ℕ). bit_at (get_or (b ∷ bs) k 0) (j % 8)) (sym q)
      | inr high ↦
          let q : j / 8 ≡ suc ((j - 8) / 8) = omega arith in
          let r : (j - 8) % 8 ≡ j % 8 = omega arith in
          bit_at_cat_high n 8 b j byte high ∙ bit_at_number bs (j - 8) (AreBytes-rest b bs h)
          ∙ ap (λ (k : ℕ). bit_at (get_or bs ((j - 8) / 8) 0) k) r ∙ ap (λ (k : ℕ). bit_at (get_or (b ∷ bs) k 0) (j % 8)) (sym q)
    ]

turned_at : (ws : List ℕ) (k : ℕ) → length ws ≡ 16 → k < 16 → get_or (reverse ws) (15 - k) 0 ≡ get_or ws k 0
turned_at ws k long lt =
    let back : length ws - 1 - (15 - k) ≡ k = omega (arith, long, lt) in
    get_or-reverse ws (15 - k) 0 (omega (arith, long)) ∙ ap (λ (i : ℕ). get_or ws i 0) back

turned_bytes : (ws : List ℕ) → length ws ≡ 16 → AreBytes ws → AreBytes (reverse ws)
turned_bytes ws long bytes i = elim (cases_lt i 16) [
  | inl lt ↦
      let there : i < length ws = omega (arith, long, lt) in
      subst (λ (x : ℕ). x < 256) (sym (get_or-reverse ws i 0 there)) (bytes (length ws - 1 - i))
  | inr past ↦ subst (λ (x : ℕ). x < 256) (sym (get_or_past (reverse ws) i 0 (omega (arith, past, long, length-reverse ws)))) (omega arith)
]

-- a bit of the number of sixteen bytes is one of the byte at its index
number_bit : (ws : List ℕ) (k j : ℕ) → length ws ≡ 16 → AreBytes ws → k < 16 → j < 8
    → bit_at (token_integer Big ws) (8 * (15 - k) + j) ≡ bit_at (get_or ws k 0) j
number_bit ws k j long bytes lt low =
    let q : (8 * (15 - k) + j) / 8 ≡ 15 - k = omega (arith, low) in
    let r : (8 * (15 - k) + j) % 8 ≡ j = omega (arith, low) in
    bit_at_number (reverse ws) (8 * (15 - k) + j) (turned_bytes ws long bytes)
    ∙ ap (λ (i : ℕ). bit_at (get_or (reverse ws) i 0) ((8 * (15 - k) + j) % 8)) q
    ∙ ap (λ (i : ℕ). bit_at (get_or (reverse ws) (15 - k) 0) i) r
    ∙ ap (λ (x : ℕ). bit_at x j) (turned_at ws k long lt)

number_lt : (bs : List ℕ) → AreBytes bs → number_from_least bs < 256 ^ length bs
number_lt [] h = omega arith
number_lt (b ∷ bs) h =
    let more : 256 ^ suc (length bs) ≡ 256 * 256 ^ length bs = omega arith in
    let rest = number_lt bs (AreBytes-rest b bs h) in
    let byte : b < 256 = h 0 in
    omega (arith, more, rest, byte)

sixteen_byte : (xs : List ℕ) (at : ℕ) → at ≤ 255 → All (λ b. b < 256) xs → (i : ℕ) → get_or (sixteen xs at) i 0 < 256
sixteen_byte xs at place all i = elim (cases_lt i 16) [
  | inl lt ↦ subst (λ (x : ℕ). x < 256) (sym (sixteen_at xs at i place lt)) (are_bytes xs all (at + i))
  | inr past ↦ subst (λ (x : ℕ). x < 256) (sym (get_or_past (sixteen xs at) i 0 (omega (arith, past, sixteen_long xs at place)))) (omega arith)
]

-- sixteen bytes and a context are a point
pub in_range : (xs : List ℕ) (at context : ℕ) → at ≤ 255 → All (λ b. b < 256) xs → context < 2 ^ 64 → InRange (point_at (with_zeros xs) at context)
in_range xs at context place all fits =
    let long = sixteen_long xs at place in
    let below = number_lt (reverse (sixteen xs at)) (turned_bytes (sixteen xs at) long (sixteen_byte xs at place all)) in
    let count : length (reverse (sixteen xs at)) ≡ 16 = omega (arith, long, length-reverse (sixteen xs at)) in
    (subst (λ (n : ℕ). number_from_least (reverse (sixteen xs at)) < 256 ^ n) count below, fits)

-- ---- a cube and the bytes from a place on

module _ (cube : Cube) (xs : List ℕ) (at context : ℕ) (place : at ≤ 255) (all : All (λ b. b < 256) xs) where
  point_bit : (k j : ℕ) → k < 16 → j < 8 → bit_at (token_integer Big (sixteen xs at)) (8 * (15 - k) + j) ≡ bit_at (get_or xs (at + k) 0) j
  point_bit k j lt low =
      number_bit (sixteen xs at) k j (sixteen_long xs at place) (sixteen_byte xs at place all) lt low ∙ ap (λ (x : ℕ). bit_at x j) (sixteen_at xs at k place lt)

  -- each byte has what the cube fixes of it
  pub reads_bytes : ReadsIn at context cube xs → (k : ℕ) → k < 16 → HasByteOf cube k (get_or xs (at + k) 0)
  reads_bytes reads k lt = λ j low on. sym (point_bit k j lt low) ∙ reads.0 (8 * (15 - k) + j) on

  bytes_agree : cube.mask < 2 ^ 128 → ((k : ℕ) → k < 16 → HasByteOf cube k (get_or xs (at + k) 0))
      → Agrees cube.mask cube.value (token_integer Big (sixteen xs at))
  bytes_agree fits has = λ i on. elim (cases_lt i 128) [
    | inl lt ↦
        let k : ℕ = 15 - i / 8 in
        let j : ℕ = i % 8 in
        let below : k < 16 = omega arith in
        let low : j < 8 = omega arith in
        let same : i ≡ 8 * (15 - k) + j = omega (arith, lt) in
        let there : bit_at cube.mask (8 * (15 - k) + j) ≡ 1 = subst (λ (n : ℕ). bit_at cube.mask n ≡ 1) same on in
        subst (λ (n : ℕ). bit_at (token_integer Big (sixteen xs at)) n ≡ bit_at cube.value n) (sym same)
        (point_bit k j below low ∙ has k below j low there)
    | inr past ↦
        let none : bit_at cube.mask i ≡ 0 = bit_at_above cube.mask 128 i fits past in
        absurd (omega (arith, none, on))
  ]

  -- and where each has, and the context agrees, they are in the cube
  pub bytes_read : cube.mask < 2 ^ 128 → ((k : ℕ) → k < 16 → HasByteOf cube k (get_or xs (at + k) 0))
      → Agrees cube.ctx_mask cube.ctx_value context → ReadsIn at context cube xs
  bytes_read fits has agrees = (bytes_agree fits has, agrees)
