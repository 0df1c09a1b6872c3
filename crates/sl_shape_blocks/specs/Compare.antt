-- view: the codes of a field whose value stands in a relation to a number.
use Rattle.std.specs.Prelude.{◌≡◌, ◌↔◌, ℕ, ◌+◌, ◌-◌, ◌*◌, ◌<◌, ◌≤◌, ◌^◌, ℤ, pos, ◌-ℤ◌, ◌⊎◌, Bool, true, false}
use mathlib.Core.Bool.{not}
use Rattle.sl_shape_blocks.specs.declared.Codes.{Codes}
use Rattle.sl_shape_blocks.specs.declared.compare.Relation.{Relation}
use Rattle.sl_shape_blocks.specs.declared.compare.Relation.TheVariants.{Equal, NotEqual, Less, LessEqual, Greater, GreaterEqual}
use Rattle.sl_shape_blocks.specs.Blocks.{IsBetween, Satisfies}
use Rattle.sl_shape_blocks.specs.Relations.{Stands}

-- The number is the value of a code of a field of `size` bits, in two's complement where it is signed.
abbrev pub IsValue : Bool → ℕ → ℕ → ℤ → Type 0
IsValue false size code x = x ≡ pos code
IsValue true size code x = ((code < 2 ^ (size - 1)) × (x ≡ pos code)) ⊎ ((2 ^ (size - 1) ≤ code) × (x ≡ pos code -ℤ pos (2 ^ size)))

-- The codes are those of the field whose value stands in the relation to the number.
abbrev pub AreStanding : Relation → Bool → ℕ → ℤ → Codes → Type 0
AreStanding relation signed size number codes =
    (n : ℕ) (x : ℤ) → n < 2 ^ size → IsValue signed size n x → Satisfies codes n ↔ Stands relation x number

-- The same between numbers that are so far above the least one of 64 bits.
abbrev pub StandsAbove : Relation → ℕ → ℕ → Type 0
StandsAbove Equal v n = v ≡ n
StandsAbove NotEqual v n = v ≡ n → ⊥
StandsAbove Less v n = v < n
StandsAbove LessEqual v n = v ≤ n
StandsAbove Greater v n = n < v
StandsAbove GreaterEqual v n = n ≤ v

-- The codes are those whose values, so far above the least number of 64 bits, lie between the two.
abbrev pub AreUnsigned : ℕ → ℕ → ℕ → Codes → Type 0
AreUnsigned low high limit codes = (n : ℕ) → n < limit → Satisfies codes n ↔ IsBetween low high (n + 2 ^ 63)

pub record AreSigned (low high half : ℕ) (codes : Codes) : Type 0 where
  pub upper : (n : ℕ) → n < half → Satisfies codes n ↔ IsBetween low high (n + 2 ^ 63)
  pub lower : (n : ℕ) → half ≤ n → n < 2 * half → Satisfies codes n ↔ IsBetween low high (n + 2 ^ 63 - 2 * half)

-- The codes inside or all others, as the values are meant.
abbrev pub agreed : Bool → Bool → Bool
agreed true codes = codes
agreed false codes = not codes
