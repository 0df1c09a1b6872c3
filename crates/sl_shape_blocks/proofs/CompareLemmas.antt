-- From relations between numbers to relations between values, and from values to codes.
use Rattle.std.proofs.Common.{◌≡◌, ◌↔◌, ℕ, ◌+◌, ◌-◌, ◌*◌, ◌<◌, ◌≤◌, ◌^◌, ◌⊎◌, ℤ, pos, ◌+ℤ◌, ◌-ℤ◌, ◌<ℤ◌, ◌≤ℤ◌, Bool, true, false, arith, sym, ◌∙◌, ap, refl, inl, inr, subst}
use mathlib.Core.Bool.{not}
use Rattle.std.proofs.lemmas.Int.{ints}
use Rattle.std.proofs.lemmas.Bool.{cases_lt}
use Rattle.std.proofs.Math.Pow.{pow_mono}
use Rattle.sl_shape_blocks.proofs.BlockLemmas.{half_width}
use Rattle.sl_shape_blocks.specs.declared.Codes.{Codes}
use Rattle.sl_shape_blocks.specs.declared.compare.Relation.{Relation}
use Rattle.sl_shape_blocks.specs.declared.compare.Relation.TheVariants.{Equal, NotEqual, Less, LessEqual, Greater, GreaterEqual}
use Rattle.sl_shape_blocks.specs.Blocks.{IsBetween, between_or_not, Satisfies}
use Rattle.sl_shape_blocks.specs.Compare.{StandsAbove, IsValue, AreUnsigned, AreSigned, agreed}
use Rattle.sl_shape_blocks.specs.Relations.{Stands}

pub stands_up : (relation : Relation) (v k : ℕ) (x y : ℤ) (zero : ℕ) → pos v ≡ x +ℤ pos zero → pos k ≡ y +ℤ pos zero → StandsAbove relation v k ↔ Stands relation x y
stands_up Equal v k x y zero e f = (λ h. omega (arith, ints), λ h. omega (arith, ints))
stands_up NotEqual v k x y zero e f = (λ h g. h (omega (arith, ints)), λ h g. h (omega (arith, ints)))
stands_up Less v k x y zero e f = (λ h. omega (arith, ints), λ h. omega (arith, ints))
stands_up LessEqual v k x y zero e f = (λ h. omega (arith, ints), λ h. omega (arith, ints))
stands_up Greater v k x y zero e f = (λ h. omega (arith, ints), λ h. omega (arith, ints))
stands_up GreaterEqual v k x y zero e f = (λ h. omega (arith, ints), λ h. omega (arith, ints))

between_or_out : (low high n : ℕ) → IsBetween low high n ⊎ (IsBetween low high n → ⊥)
between_or_out low high n = elim (cases_lt n low) [
  | inl below ↦ inr (λ b. omega (arith, b, below))
  | inr reaches ↦ elim (cases_lt high n) [
    | inl above ↦ inr (λ b. omega (arith, b, above))
    | inr within ↦ inl (reaches, within)
  ]
]

agree_at : (inside b : Bool) (low high n from to m : ℕ) → between_or_not b low high n ↔ IsBetween from to m
    → between_or_not (agreed inside b) low high n ↔ between_or_not inside from to m
agree_at true b low high n from to m h = h
agree_at false true low high n from to m h = (λ out b. out (h.1 b), λ out b. out (h.0 b))
agree_at false false low high n from to m h = (
  λ inside b. (h.1 b) inside,
  λ out. elim (between_or_out low high n) [ inl between ↦ between | inr apart ↦ absurd (out (h.0 apart)) ],
)

module _ (relation : Relation) (above : ℕ) (number : ℤ) (values codes : Codes) (is_above : pos above ≡ number +ℤ pos (2 ^ 63)) where
  -- the code n has the value v above the least number, and that is x
  one_code : (n v : ℕ) (x : ℤ) → Satisfies codes n ↔ IsBetween values.low values.high v → Satisfies values v ↔ StandsAbove relation v above → pos v ≡ x +ℤ pos (2 ^ 63)
      → between_or_not (agreed values.inside codes.inside) codes.low codes.high n ↔ Stands relation x number
  one_code n v x h g e =
      let f = agree_at values.inside codes.inside codes.low codes.high n values.low values.high v h in
      let k = stands_up relation v above x number (2 ^ 63) e is_above in
      (λ s. k.0 (g.0 (f.0 s)), λ s. f.1 (g.1 (k.1 s)))

  pub standing_unsigned : (limit n : ℕ) (x : ℤ) → AreUnsigned values.low values.high limit codes
      → ((v : ℕ) → 2 ^ 63 ≤ v → v < 2 ^ 63 + limit → Satisfies values v ↔ StandsAbove relation v above) → n < limit → x ≡ pos n
      → between_or_not (agreed values.inside codes.inside) codes.low codes.high n ↔ Stands relation x number
  standing_unsigned limit n x u g less is = one_code n (n + 2 ^ 63) x (u n less) (g (n + 2 ^ 63) (omega arith) (omega (arith, less))) (omega (arith, ints, is))

  pub standing_signed : (half n : ℕ) (x : ℤ) → half ≤ 2 ^ 63 → AreSigned values.low values.high half codes
      → ((v : ℕ) → 2 ^ 63 - half ≤ v → v < 2 ^ 63 + half → Satisfies values v ↔ StandsAbove relation v above) → n < 2 * half
      → ((n < half) × (x ≡ pos n)) ⊎ ((half ≤ n) × (x ≡ pos n -ℤ pos (2 * half)))
      → between_or_not (agreed values.inside codes.inside) codes.low codes.high n ↔ Stands relation x number
  standing_signed half n x most s g less (inl low) =
      one_code n (n + 2 ^ 63) x (s.upper n low.0) (g (n + 2 ^ 63) (omega arith) (omega (arith, low.0))) (omega (arith, ints, low.1))
  standing_signed half n x most s g less (inr high) =
      let le = high.0 in
      let is = high.1 in
      one_code n (n + 2 ^ 63 - 2 * half) x (s.lower n high.0 less) (g (n + 2 ^ 63 - 2 * half) (omega arith) (omega arith)) (omega (arith, ints))

pub value_half : (size half n : ℕ) (x : ℤ) → half ≡ 2 ^ (size - 1) → 2 ^ size ≡ 2 * half → IsValue true size n x
    → ((n < half) × (x ≡ pos n)) ⊎ ((half ≤ n) × (x ≡ pos n -ℤ pos (2 * half)))
value_half size half n x e f (inl low) = inl (omega (arith, e, low.0), low.1)
value_half size half n x e f (inr high) = inr (omega (arith, e, high.0), high.1 ∙ ap (λ (k : ℕ). pos n -ℤ pos k) f)

pub twice_half : (size half : ℕ) → 1 ≤ size → half ≡ 2 ^ (size - 1) → 2 ^ size ≡ 2 * half
twice_half size half some e = half_width size (omega (arith, some)) ∙ ap (λ (k : ℕ). 2 * k) (sym e)

pub half_most : (size half bits : ℕ) → size ≤ bits + 1 → half ≡ 2 ^ (size - 1) → half ≤ 2 ^ bits
half_most size half bits most e = subst (λ (k : ℕ). k ≤ 2 ^ bits) (sym e) (pow_mono (omega (arith, most)))
