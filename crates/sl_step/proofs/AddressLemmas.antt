-- The default space and its addresses.
use Rattle.std.proofs.Common.{◌≡◌, ℕ, zero, suc, ◌+◌, ◌-◌, ◌*◌, ◌/◌, ◌%◌, ◌^◌, ◌<◌, ◌≤◌, Bool, true, false, cond}
use Rattle.std.proofs.Common.{nat_lt, List, [], ◌∷◌, length, get_or, Option, Some, pos, negsuc, refl, sym, ap}
use Rattle.std.proofs.Common.{subst, ◌∙◌, arith}
use Rattle.std.proofs.lemmas.List.Quantifiers.{position-Some}
use Rattle.std.proofs.Math.Nat.{div-add-mod', div-lt_iff_lt-mul}
use Rattle.std.proofs.lemmas.Nat.{mod-mul-add, mod_below, pow-add}
use Rattle.std.specs.Int.{int_wrap}
use Rattle.std.specs.Prelude.{find, map, position, slice_index, unwrap_or}
use Rattle.sl_decode_meaning.specs.Actions.{address_bytes, size_or_all}
use Rattle.sl_meaning_instruction.specs.Instructions.{default_space, setting_of}
use Rattle.sl_spec_operators.specs.Operators.{wrapped}
use Rattle.sl_spec.specs.Tables.{Space}
use Rattle.sl_spec.specs.declared.tables.Tables.{Tables}
use Rattle.sl_word.proofs.Powers.{bytes-bits, bytes_pos, low-wrap}
use Rattle.sl_word.specs.Numbers.{residue}

-- ---- the default space

found : (xs : List Space) (i : ℕ) (d : Space) → i < length xs → (get_or xs i d).default ≡ true
    → ((k : ℕ) → k < i → (get_or xs k d).default ≡ false)
    → size_or_all (find (λ (z : Space). z.default) xs) ≡ slice_index (map (λ (z : Space). z.size) xs) i
found [] i d inside is none = absurd (omega arith)
found (x ∷ xs) zero d inside is none = ap
    (λ (b : Bool). size_or_all (cond b (Some x) (find (λ (z : Space). z.default) xs))) is
found (x ∷ xs) (suc i) d inside is none =
    ap (λ (b : Bool). size_or_all (cond b (Some x) (find (λ (z : Space). z.default) xs))) (none 0 (omega arith))
    ∙ found xs i d (omega arith) is (λ k h. none (suc k) (omega arith))

space_at : (xs : List Space) (i : ℕ) → position (λ (z : Space). z.default) xs ≡ Some i
    → (i < length xs) × (size_or_all (find (λ (z : Space). z.default) xs)
    ≡ slice_index (map (λ (z : Space). z.size) xs) i)
space_at [] i is = absurd (cc)
space_at (x ∷ xs) i is =
    let first = position-Some (λ (z : Space). z.default) (x ∷ xs) i x is in
    (first.0, found (x ∷ xs) i x first.0 first.1 first.2)

-- it is one of the spaces, and its addresses have the size that is told there
module _ (t : Tables) (i : ℕ) (is : position (λ (z : Space). z.default) t.spaces ≡ Some i) where
  pub default_is : default_space t ≡ i
  default_is = ap (λ (o : Option ℕ). unwrap_or o 0) is

  pub is_space : i < length t.spaces
  is_space = (space_at t.spaces i is).0

  pub bytes_are : address_bytes t ≡ slice_index (map (λ (z : Space). z.size) t.spaces) i
  bytes_are = (space_at t.spaces i is).1

pub sizes_are : (t : Tables) (address after : ℕ) → (setting_of t address after).sizes
    ≡ map (λ (z : Space). z.size) t.spaces
unfolding setting_of
sizes_are t address after = refl

-- ---- `inst_next` as an address

spread : (N k d : ℕ) → (suc k + d) * N ≡ N + k * N + d * N
spread N k d = grind arith

-- a number is as far below the greatest one as its rest is below the greatest rest
high_at : (N k d r : ℕ) → r < N → N - 1 - ((suc k + d) * N - suc (k * N + r)) % N ≡ r
high_at N k d r low =
    let whole = spread N k d in
    let parts : (suc k + d) * N - suc (k * N + r) ≡ d * N + (N - 1 - r) = omega (arith, whole) in
    let rest = mod-mul-add d N (N - 1 - r) (omega arith) in
    ap (λ (x : ℕ). N - 1 - x % N) parts ∙ omega (arith, rest)

below : (N q m : ℕ) → 0 < N → m < q * N → m / N < q
below N q m some less = (div-lt_iff_lt-mul some).1 less

high : (N q m : ℕ) → 0 < N → m < q * N → N - 1 - (q * N - suc m) % N ≡ m % N
high N q m some less =
    let k = m / N in
    let under : m / N < q = below N q m some less in
    let q_is : suc (m / N) + (q - suc (m / N)) ≡ q = omega arith in
    let rest : m % N < N = mod_below m N some in
    let m_is : m / N * N + m % N ≡ m = div-add-mod' m N in
    subst (λ (x : ℕ). N - 1 - (x * N - suc m) % N ≡ m % N) q_is
    (subst (λ (x : ℕ). N - 1 - ((suc (m / N) + (q - suc (m / N))) * N - suc x) % N ≡ m % N) m_is
    (high_at N (m / N) (q - suc (m / N)) (m % N) rest))

most_is : (n : ℕ) → n ≤ 8 → 2 ^ 64 ≡ 2 ^ (64 - 8 * n) * 256 ^ n
most_is n few =
    let all : 64 ≡ 64 - 8 * n + 8 * n = omega arith in
    ap (λ (k : ℕ). 2 ^ k) all ∙ pow-add 2 (64 - 8 * n) (8 * n)
    ∙ ap (λ (x : ℕ). 2 ^ (64 - 8 * n) * x) (sym (bytes-bits n))

residue_by : (m n : ℕ) → m < 2 ^ 64 → n ≤ 8 → (b : Bool) → residue n (cond b (pos m) (negsuc (2 ^ 64 - suc m)))
    ≡ m % 256 ^ n
residue_by m n low few true = refl
residue_by m n low few false =
    let all = most_is n few in
    subst (λ (x : ℕ). 256 ^ n - 1 - (x - suc m) % 256 ^ n ≡ m % 256 ^ n) (sym all)
    (high (256 ^ n) (2 ^ (64 - 8 * n)) m (bytes_pos n) (subst (λ (x : ℕ). m < x) all low))

pub residue_wrapped : (n k : ℕ) → n ≤ 8 → residue n (wrapped (pos k)) ≡ k % 256 ^ n
unfolding int_wrap
residue_wrapped n k few =
    residue_by (k % 2 ^ 64) n (omega arith) few (nat_lt (k % 2 ^ 64) (2 ^ 63)) ∙ low-wrap k 64 n (omega arith)
