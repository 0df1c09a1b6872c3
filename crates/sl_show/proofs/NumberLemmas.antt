-- Digits of hexadecimal numbers, the last one first.
use Rattle.std.proofs.Common.{◌≡◌, ◌≤◌, ◌<◌, ◌+◌, ◌-◌, ◌*◌, ◌/◌, ◌%◌, ◌^◌, ◌==◌, ℕ, zero, suc, false, List, [], ◌∷◌, length, drop, refl, sym, ap, subst, ◌∙◌, arith}
use Rattle.std.specs.Prelude.{if◌then◌else◌, slice_set}
use Rattle.std.specs.Fmt.{digit_glyph, digits, digits_onto}
use Rattle.std.proofs.Math.Nat.{pow-succ'}
use Rattle.std.proofs.lemmas.Bool.{ne_eqb}
use Rattle.std.proofs.lemmas.List.{drop-set}

-- at most so many digits of a number, and those behind them
pub onto : ℕ → ℕ → List ℕ → List ℕ
onto k n behind = digits_onto k 16 false n behind

pub begun : (n : ℕ) → onto 64 n [] ≡ digits 16 false n
unfolding onto digits
begun n = refl

goes_on : (k n : ℕ) (behind : List ℕ) → 16 ≤ n → onto (suc k) n behind ≡ onto k (n / 16) (digit_glyph false (n % 16) ∷ behind)
unfolding onto
goes_on k n behind more =
    let some : (n / 16 == 0) ≡ false = ne_eqb (n / 16) 0 (λ e. omega (arith, e)) in
    ap (λ b. if b then digit_glyph false (n % 16) ∷ behind else digits_onto k 16 false (n / 16) (digit_glyph false (n % 16) ∷ behind)) some

ends : (k n : ℕ) (behind : List ℕ) → n < 16 → onto (suc k) n behind ≡ digit_glyph false n ∷ behind
unfolding onto
ends k n behind few =
    let nothing : n / 16 ≡ 0 = omega arith in
    let same : n % 16 ≡ n = omega arith in
    ap (λ q. if q == 0 then digit_glyph false (n % 16) ∷ behind else digits_onto k 16 false q (digit_glyph false (n % 16) ∷ behind)) nothing
    ∙ ap (λ m. digit_glyph false m ∷ behind) same

-- there is room for one more digit
pub room : (at left : ℕ) → 16 ≤ left → left < 16 ^ suc at → (1 ≤ at) × (left / 16 < 16 ^ suc (at - 1))
room zero left more fits = absurd (let few : left < 16 = fits in omega arith)
room (suc k) left more fits =
    let whole : left < 16 * 16 ^ suc k = subst (λ (m : ℕ). left < m) (pow-succ' 16 (suc k)) fits in
    let part : left / 16 < 16 ^ suc k = omega (arith, whole) in
    let e : suc k - 1 ≡ k = omega arith in
    (omega arith, subst (λ (m : ℕ). left / 16 < 16 ^ suc m) (sym e) part)

module _ (at left : ℕ) (buffer whole : List ℕ) (size : length buffer ≡ 16) (within : at ≤ 15) (so_far : onto (at + 49) left (drop (at + 1) buffer) ≡ whole) where
  written : (digit : ℕ) → drop at (slice_set buffer at digit) ≡ digit ∷ drop (at + 1) buffer
  written digit = drop-set buffer at digit (omega (arith, size, within))

  pub one_more : (digit : ℕ) → digit ≡ digit_glyph false (left % 16) → 16 ≤ left → 1 ≤ at
      → onto (at - 1 + 49) (left / 16) (drop (at - 1 + 1) (slice_set buffer at digit)) ≡ whole
  one_more digit is more some =
      let count : suc (at - 1 + 49) ≡ at + 49 = omega (arith, some) in
      let place : at - 1 + 1 ≡ at = omega (arith, some) in
      ap (λ (m : ℕ). onto (at - 1 + 49) (left / 16) (drop m (slice_set buffer at digit))) place
      ∙ ap (onto (at - 1 + 49) (left / 16)) (written digit ∙ ap (λ (g : ℕ). g ∷ drop (at + 1) buffer) is)
      ∙ sym (goes_on (at - 1 + 49) left (drop (at + 1) buffer) more)
      ∙ ap (λ (k : ℕ). onto k left (drop (at + 1) buffer)) count ∙ so_far

  pub last : (digit : ℕ) → digit ≡ digit_glyph false left → left < 16 → drop at (slice_set buffer at digit) ≡ whole
  last digit is few =
      let count : suc (at + 48) ≡ at + 49 = omega arith in
      written digit ∙ ap (λ (g : ℕ). g ∷ drop (at + 1) buffer) is ∙ sym (ends (at + 48) left (drop (at + 1) buffer) few)
      ∙ ap (λ (k : ℕ). onto k left (drop (at + 1) buffer)) count ∙ so_far
