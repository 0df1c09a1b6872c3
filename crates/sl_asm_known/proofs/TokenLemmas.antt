-- Tokens in bytes which zeros follow, read byte by byte.
use Rattle.std.proofs.Common.{◌≡◌, ℕ, zero, suc, ◌+◌, ◌-◌, ◌*◌, ◌/◌, ◌%◌, ◌^◌, ◌<◌, ◌≤◌, min, max, bit_or, List, [], ◌∷◌, ◌++◌, length, get_or, take, drop, replicate, Bool, true, false, arith, refl, sym, ap, subst, ◌∙◌, inl, inr}
use Rattle.std.specs.Prelude.{reverse, nat_le, if◌then◌else◌}
use Rattle.std.specs.Int.{bit_at}
use Rattle.std.proofs.Math.Seq.{drop-cons}
use Rattle.std.proofs.lemmas.Bool.{cases_lt}
use Rattle.std.proofs.lemmas.List.{drop_all, get_or-drop, get_or-replicate, get_or-take, get_or_past, length-append, length-drop, length-replicate, length-take, reverse-append, take_all, take_more}
use Rattle.std.proofs.lemmas.Nat.{or_lt}
use Rattle.std.proofs.lemmas.Option.{slice_get_read}
use Rattle.std.proofs.lemmas.Nat.Bits.{bit_at_above, bit_at_cat_high, bit_at_cat_low}
use Rattle.sl_asm_bits.proofs.BitLemmas.{at_or, one_of_64}
use Rattle.sl_asm_bits.proofs.ShiftLemmas.{raised_high, raised_low}
use Rattle.sl_asm_bits.specs.Known.{Has}
use Rattle.sl_asm_bits.specs.declared.Known.{Known}
use Rattle.sl_asm_fit.specs.Cells.{Fits}
use Rattle.sl_asm_fit.specs.Regions.{IsOf}
use Rattle.sl_asm_fit.specs.Windows.{window, with_zeros}
use Rattle.sl_asm_fit.specs.declared.Cell.{Cell}
use Rattle.sl_asm_known.specs.Tokens.{token_number, turn}
use Rattle.sl_cube.specs.Bits.{Agrees}
use Rattle.sl_spec.specs.FieldValues.{number_from_least, token_integer}
use Rattle.sl_spec.specs.Tables.{Token}
use Rattle.sl_word.specs.declared.word.Endian.{Endian}
use Rattle.sl_word.specs.declared.word.Endian.TheVariants.{Little, Big}

-- ---- one byte more

pub appended_has : (nm nv m v n b : ℕ) → m < 256 → v < 256 → b < 256 → Agrees nm nv n → Agrees m v b
    → Agrees (bit_or (nm * 2 ^ 8 % 2 ^ 64) m) (bit_or (nv * 2 ^ 8 % 2 ^ 64) v) (n * 256 + b)
appended_has nm nv m v n b ms vs bs f g = λ i on.
    let small : m < 2 ^ 64 = omega (arith, ms) in
    let lt = one_of_64 (bit_or (nm * 2 ^ 8 % 2 ^ 64) m) i (or_lt 64 (nm * 2 ^ 8 % 2 ^ 64) m (omega arith) small) on in
    elim (cases_lt i 8) [
      | inl low ↦
          let mask = at_or (nm * 2 ^ 8 % 2 ^ 64) m i 0 (bit_at m i) (raised_low nm 8 i lt low) (λ j. bit_at m i) in
          let value = at_or (nv * 2 ^ 8 % 2 ^ 64) v i 0 (bit_at v i) (raised_low nv 8 i lt low) (λ j. bit_at v i) in
          let known : bit_at m i ≡ 1 = omega (arith, mask, on) in
          let same : max 0 (bit_at v i) ≡ bit_at v i = omega arith in
          bit_at_cat_low n 8 b i low ∙ g i known ∙ sym same ∙ sym value
      | inr high ↦
          let m_off : bit_at m i ≡ 0 = bit_at_above m 8 i ms high in
          let v_off : bit_at v i ≡ 0 = bit_at_above v 8 i vs high in
          let mask = at_or (nm * 2 ^ 8 % 2 ^ 64) m i (bit_at nm (i - 8)) 0 (raised_high nm 8 i lt high) m_off in
          let value = at_or (nv * 2 ^ 8 % 2 ^ 64) v i (bit_at nv (i - 8)) 0 (raised_high nv 8 i lt high) v_off in
          let known : bit_at nm (i - 8) ≡ 1 = omega (arith, mask, on) in
          let same : max (bit_at nv (i - 8)) 0 ≡ bit_at nv (i - 8) = omega arith in
          bit_at_cat_high n 8 b i bs high ∙ f (i - 8) known ∙ sym same ∙ sym value
    ]

-- ---- all bytes of a token

-- the number that the bytes which are read first stand for
abbrev pub read_first : Endian → List ℕ → ℕ → ℕ
read_first Big ws i = number_from_least (reverse (take i ws))
read_first Little ws i = number_from_least (drop (length ws - i) ws)

pub read_none : (e : Endian) (ws : List ℕ) → read_first e ws 0 ≡ 0
read_none Big ws = refl
read_none Little ws = let past : length ws ≤ length ws - 0 = omega arith in ap number_from_least (drop_all (length ws - 0) ws past)

turned : (x n : ℕ) → n * 256 + x ≡ x + 256 * n
turned x n = omega arith

pub read_more : (e : Endian) (ws : List ℕ) (i : ℕ) → i < length ws → read_first e ws i * 256 + get_or ws (turn e (length ws) i) 0 ≡ read_first e ws (i + 1)
read_more Big ws i lt =
    turned (get_or ws i 0) (read_first Big ws i)
    ∙ sym (ap (λ (l : List ℕ). number_from_least (reverse l)) (take_more ws i 0 lt) ∙ ap number_from_least (reverse-append (take i ws) (get_or ws i 0 ∷ [])))
read_more Little ws i lt =
    let k : ℕ = length ws - 1 - i in
    let next : suc k ≡ length ws - i = omega (arith, lt) in
    let here : length ws - (i + 1) ≡ k = omega (arith, lt) in
    let below : k < length ws = omega (arith, lt) in
    turned (get_or ws k 0) (read_first Little ws i)
    ∙ sym (ap (λ (j : ℕ). number_from_least (drop j ws)) here ∙ ap number_from_least (drop-cons ws k 0 below)
    ∙ ap (λ (j : ℕ). get_or ws k 0 + 256 * number_from_least (drop j ws)) next)

pub read_all : (e : Endian) (ws : List ℕ) (i : ℕ) → i ≡ length ws → read_first e ws i ≡ token_integer e ws
read_all Big ws i e = ap (λ (l : List ℕ). number_from_least (reverse l)) (take_all i ws (omega (arith, e)))
read_all Little ws i e = let none : length ws - i ≡ 0 = omega (arith, e) in ap (λ (j : ℕ). number_from_least (drop j ws)) none

-- ---- zeros behind a list

zeros_at : (n k : ℕ) → ◌≡◌ {A = ℕ} (get_or (replicate n 0) k 0) 0
zeros_at n k = elim (cases_lt k n) [
  | inl lt ↦ get_or-replicate n k 0 0 lt
  | inr past ↦ get_or_past (replicate n 0) k 0 (omega (arith, past, length-replicate {A = ℕ} n 0))
]

zeros_behind : (xs : List ℕ) (n k : ℕ) → get_or (xs ++ replicate n 0) k 0 ≡ get_or xs k 0
zeros_behind [] n k = zeros_at n k
zeros_behind (x ∷ xs) n zero = refl
zeros_behind (x ∷ xs) n (suc k) = zeros_behind xs n k

pub zeros_long : (xs : List ℕ) → length (with_zeros xs) ≡ window
zeros_long xs = omega (arith, length-take window (xs ++ replicate window 0), length-append xs (replicate window 0), length-replicate {A = ℕ} window 0)

-- the bytes of a token at a place
abbrev pub part_at : ℕ → ℕ → List ℕ → List ℕ
part_at size at xs = take size (drop at (with_zeros xs))

pub part_long : (size at : ℕ) (xs : List ℕ) → at + size ≤ window → length (part_at size at xs) ≡ size
part_long size at xs within = omega (arith, within, length-take size (drop at (with_zeros xs)), length-drop at (with_zeros xs), zeros_long xs)

pub part_byte : (size at k : ℕ) (xs : List ℕ) → at + size ≤ window → k < size → get_or (part_at size at xs) k 0 ≡ get_or xs (at + k) 0
part_byte size at k xs within lt =
    get_or-take size (drop at (with_zeros xs)) k 0 lt ∙ get_or-drop at (with_zeros xs) k 0
    ∙ get_or-take window (xs ++ replicate window 0) (at + k) 0 (omega (arith, within, lt)) ∙ zeros_behind xs window (at + k)

pub is_byte : (region : List Cell) (xs : List ℕ) (i : ℕ) → IsOf region xs → get_or xs i 0 < 256
is_byte region xs i inside = elim (cases_lt i (length xs)) [
  | inl lt ↦ inside.are_bytes i 0 lt
  | inr past ↦ subst (λ (x : ℕ). x < 256) (sym (get_or_past xs i 0 past)) (omega arith)
]

-- one step of reading
pub read_step : (e : Endian) (size at i : ℕ) (xs : List ℕ) → at + size ≤ window → i < size → turn e size i < size
    → read_first e (part_at size at xs) i * 256 + get_or xs (at + turn e size i) 0 ≡ read_first e (part_at size at xs) (i + 1)
read_step e size at i xs within lt below =
    let ws = part_at size at xs in
    let long : length ws ≡ size = part_long size at xs within in
    let there : i < length ws = omega (arith, long, lt) in
    ap (λ (x : ℕ). read_first e ws i * 256 + x) (sym (part_byte size at (turn e size i) xs within below))
    ∙ ap (λ (n : ℕ). read_first e ws i * 256 + get_or ws (turn e n i) 0) (sym long)
    ∙ read_more e ws i there

-- ---- whether a token is whole

le_true : (a b : ℕ) → a ≤ b → nat_le a b ≡ true
le_true a b le = grind arith

le_false : (a b : ℕ) → b < a → nat_le a b ≡ false
le_false a b lt = grind arith

pub token_cut : (token : Token) (xs : List ℕ) (at : ℕ) → window < at + token.bits / 8 → token_number token (with_zeros xs) at ≡ 0
token_cut token xs at past =
    let over : length (with_zeros xs) < at + token.bits / 8 = omega (arith, past, zeros_long xs) in
    ap (λ (b : Bool). if b then token_integer token.endian (part_at (token.bits / 8) at xs) else 0) (le_false (at + token.bits / 8) (length (with_zeros xs)) over)

pub token_whole : (token : Token) (xs : List ℕ) (at : ℕ) → at + token.bits / 8 ≤ window
    → token_number token (with_zeros xs) at ≡ token_integer token.endian (part_at (token.bits / 8) at xs)
token_whole token xs at within =
    let under : at + token.bits / 8 ≤ length (with_zeros xs) = omega (arith, within, zeros_long xs) in
    ap (λ (b : Bool). if b then token_integer token.endian (part_at (token.bits / 8) at xs) else 0) (le_true (at + token.bits / 8) (length (with_zeros xs)) under)

-- ---- past the end of a region

pub past_fits : (region : List Cell) (xs : List ℕ) (i m : ℕ) → IsOf region xs → length region ≤ i → Agrees m 0 (get_or xs i 0)
past_fits region xs i m inside past = λ j on. ap (λ (x : ℕ). bit_at x j) (get_or_past xs i 0 (omega (arith, inside.long, past)))

pub byte_fits : (region : List Cell) (xs : List ℕ) (i : ℕ) (cell : Cell) → IsOf region xs → i < length region → cell ≡ get_or region i cell → Fits cell (get_or xs i 0)
byte_fits region xs i cell inside below is = inside.fits i cell (slice_get_read region (length region) i cell refl below is)

-- ---- a token, step by step

module _ (region : List Cell) (e mine : Endian) (size at i t : ℕ) (old new : Known) (byte : Cell) where
  pub token_step : mine ≡ e → t ≡ turn mine size i → t < size → i < size → at + size ≤ window
      → ((n b : ℕ) → b < 256 → Has old n → Fits byte b → Has new (n * 256 + b)) → ((xs : List ℕ) → IsOf region xs → Fits byte (get_or xs (at + t) 0))
      → ((xs : List ℕ) → IsOf region xs → Has old (read_first e (part_at size at xs) i)) → (xs : List ℕ) → IsOf region xs → Has new (read_first e (part_at size at xs) (i + 1))
  token_step same is below lt within more fits so_far xs inside =
      let there : t ≡ turn e size i = is ∙ ap (λ (x : Endian). turn x size i) same in
      let low : turn e size i < size = subst (λ (x : ℕ). x < size) there below in
      let ws = part_at size at xs in
      let step : read_first e ws i * 256 + get_or xs (at + t) 0 ≡ read_first e ws (i + 1) =
      ap (λ (x : ℕ). read_first e ws i * 256 + get_or xs (at + x) 0) there ∙ read_step e size at i xs within lt low in
      subst (λ (n : ℕ). Has new n) step (more (read_first e ws i) (get_or xs (at + t) 0) (is_byte region xs (at + t) inside) (so_far xs inside) (fits xs inside))

pub token_begun : (e : Endian) (ws : List ℕ) (k : Known) → Has k 0 → Has k (read_first e ws 0)
token_begun e ws k h = subst (λ (n : ℕ). Has k n) (sym (read_none e ws)) h

-- the number that all bytes of a whole token stand for is its integer
pub token_is : (token : Token) (xs : List ℕ) (size at place i : ℕ) → size ≡ token.bits / 8 → at + size ≤ window → at ≡ min place (2 ^ 64 - 1) → i ≡ size
    → read_first token.endian (part_at size at xs) i ≡ token_number token (with_zeros xs) place
token_is token xs size at place i bytes within is whole =
    let here : at ≡ place = omega (arith, within, is) in
    let fits : place + token.bits / 8 ≤ window = omega (arith, within, here, bytes) in
    let all : i ≡ length (part_at size at xs) = whole ∙ sym (part_long size at xs within) in
    let same : part_at size at xs ≡ part_at (token.bits / 8) place xs = λ j. part_at (bytes j) (here j) xs in
    read_all token.endian (part_at size at xs) i all ∙ ap (token_integer token.endian) same ∙ sym (token_whole token xs place fits)

pub token_done : (token : Token) (xs : List ℕ) (size at place i : ℕ) (k : Known) → size ≡ token.bits / 8 → at + size ≤ window → at ≡ min place (2 ^ 64 - 1) → i ≡ size
    → Has k (read_first token.endian (part_at size at xs) i) → Has k (token_number token (with_zeros xs) place)
token_done token xs size at place i k bytes within is whole h = subst (λ (n : ℕ). Has k n) (token_is token xs size at place i bytes within is whole) h

pub token_none : (token : Token) (xs : List ℕ) (size at place : ℕ) (k : Known) → size ≡ token.bits / 8 → size ≤ window → window - size < at → at ≡ min place (2 ^ 64 - 1)
    → Has k 0 → Has k (token_number token (with_zeros xs) place)
token_none token xs size at place k bytes small past is h =
    let over : window < place + token.bits / 8 = omega (arith, past, is, bytes, small) in
    subst (λ (n : ℕ). Has k n) (sym (token_cut token xs place over)) h
