-- Sixteen bytes from a place on as a number, and those from a few bytes later on.
use Rattle.std.proofs.Common.{◌≡◌, ℕ, suc, ◌+◌, ◌-◌, ◌*◌, ◌/◌, ◌%◌, ◌^◌, ◌<◌, ◌≤◌, List, [], ◌∷◌, ◌++◌, length, take}
use Rattle.std.proofs.Common.{drop, sym, ap, ap₂, subst, ◌∙◌, take-take, length-take, length-drop, arith}
use Rattle.std.specs.Prelude.{All, reverse}
use Rattle.std.proofs.lemmas.List.{drop-drop, drop-take, length-reverse, reverse-append, take-append-drop}
use Rattle.std.proofs.lemmas.List.Elements.{All-drop, All-head, All-tail, All-take}
use Rattle.std.proofs.lemmas.Nat.{mod_low, mul-add-lt, pow-add, shr_high}
use Rattle.sl_spec.specs.FieldValues.{number_from_least, token_integer}
use Rattle.sl_word.specs.declared.word.Endian.TheVariants.{Big}

-- ---- bytes as a number

abbrev pub big : List ℕ → ℕ
big bytes = token_integer Big bytes

weight : (n : ℕ) → 2 ^ (8 * suc n) ≡ 256 * 2 ^ (8 * n)
weight n = let e : 8 * suc n ≡ 8 + 8 * n = omega arith in ap (λ (k : ℕ). 2 ^ k) e ∙ pow-add 2 8 (8 * n)

number_append : (xs ys : List ℕ) → number_from_least (xs ++ ys) ≡ number_from_least xs + 2 ^ (8 * length xs) * number_from_least ys
number_append [] ys = omega arith
number_append (x ∷ xs) ys = let rest = number_append xs ys in rw (weight (length xs)) (omega (arith, rest))

big_append : (xs ys : List ℕ) → big (xs ++ ys) ≡ big ys + 2 ^ (8 * length ys) * big xs
big_append xs ys =
    ap number_from_least (reverse-append xs ys) ∙ number_append (reverse ys) (reverse xs)
    ∙ ap (λ (n : ℕ). big ys + 2 ^ (8 * n) * big xs) (length-reverse ys)

abbrev AreBytes : List ℕ → Type 0
AreBytes bytes = All (λ b. b < 256) bytes

pub big_lt : (xs : List ℕ) → AreBytes xs → big xs < 2 ^ (8 * length xs)
big_lt [] are = omega arith
big_lt (x ∷ xs) are =
    let first : x < 256 = All-head (λ (b : ℕ). b < 256) x xs are in
    let rest = big_lt xs (All-tail (λ (b : ℕ). b < 256) x xs are) in
    let e = big_append (x ∷ []) xs in
    let w = weight (length xs) in
    let place = mul-add-lt x (2 ^ (8 * length xs)) (big xs) 256 first rest in
    omega (arith, e, w, place)

-- ---- windows

split_take : (m n : ℕ) (xs : List ℕ) → take (m + n) xs ≡ take m xs ++ take n (drop m xs)
split_take m n xs =
    sym (take-append-drop m (take (m + n) xs)) ∙ ap₂ (λ (l r : List ℕ). l ++ r) (take-take m (m + n) xs (omega arith)) (drop-take m n xs)

module _ (bytes : List ℕ) (are : AreBytes bytes) where
  window_long : (at n : ℕ) → at + n ≤ length bytes → length (take n (drop at bytes)) ≡ n
  window_long at n within =
      let e = length-take n (drop at bytes) in
      let f = length-drop at bytes in
      omega (arith, e, f)

  window_lt : (at n : ℕ) → at + n ≤ length bytes → big (take n (drop at bytes)) < 2 ^ (8 * n)
  window_lt at n within =
      subst (λ (k : ℕ). big (take n (drop at bytes)) < 2 ^ (8 * k)) (window_long at n within)
      (big_lt (take n (drop at bytes)) (All-take (λ (b : ℕ). b < 256) n (drop at bytes) (All-drop (λ (b : ℕ). b < 256) at bytes are)))

  -- the number of m bytes and n more
  window_split : (at m n : ℕ) → at + m + n ≤ length bytes
      → big (take (m + n) (drop at bytes)) ≡ big (take m (drop at bytes)) * 2 ^ (8 * n) + big (take n (drop (at + m) bytes))
  window_split at m n within =
      let left = take m (drop at bytes) in
      let right = take n (drop (at + m) bytes) in
      let cut : take (m + n) (drop at bytes) ≡ left ++ right =
      split_take m n (drop at bytes) ∙ ap (λ (l : List ℕ). left ++ take n l) (drop-drop m at bytes) in
      let e = big_append left right in
      let long = window_long (at + m) n within in
      ap big cut ∙ e ∙ ap (λ (k : ℕ). big right + 2 ^ (8 * k) * big left) long ∙ omega arith

  -- Sixteen bytes are a number of 128 bits.
  pub window_fits : (at : ℕ) → at + 16 ≤ length bytes → big (take 16 (drop at bytes)) < 2 ^ 128
  window_fits at within = window_lt at 16 within

  -- The first ones of those from a later place on are the last ones of those from here on.
  pub windows_follow : (at place : ℕ) → place ≤ 15 → at + place + 16 ≤ length bytes
      → big (take 16 (drop (at + place) bytes)) / 2 ^ (8 * place) ≡ big (take 16 (drop at bytes)) % 2 ^ (128 - 8 * place)
  windows_follow at place near within =
      let shared = 16 - place in
      let here : place + shared ≡ 16 = omega arith in
      let there : shared + place ≡ 16 = omega arith in
      let bits : 8 * shared ≡ 128 - 8 * place = omega arith in
      let middle = big (take shared (drop (at + place) bytes)) in
      let behind = big (take place (drop (at + place + shared) bytes)) in
      let before = big (take place (drop at bytes)) in
      let first : big (take 16 (drop at bytes)) ≡ before * 2 ^ (8 * shared) + middle =
      ap (λ (n : ℕ). big (take n (drop at bytes))) (sym here) ∙ window_split at place shared (omega arith) in
      let second : big (take 16 (drop (at + place) bytes)) ≡ middle * 2 ^ (8 * place) + behind =
      ap (λ (n : ℕ). big (take n (drop (at + place) bytes))) (sym there) ∙ window_split (at + place) shared place (omega arith) in
      ap (λ (n : ℕ). n / 2 ^ (8 * place)) second
      ∙ shr_high middle (8 * place) behind (window_lt (at + place + shared) place (omega arith))
      ∙ sym (mod_low before (8 * shared) middle (window_lt (at + place) shared (omega arith)))
      ∙ ap (λ (n : ℕ). n % 2 ^ (8 * shared)) (sym first)
      ∙ ap (λ (n : ℕ). big (take 16 (drop at bytes)) % 2 ^ n) bits
