-- step: what is left of a region by an open bit.
use Rattle.std.specs.Prelude.{◌≡◌, ℕ, List, MatchOption, Option, get_or}
use Rattle.std.specs.Int.{bit_at}
use Rattle.sl_asm_bits.specs.declared.Known.{Known}
use Rattle.sl_asm_fit.specs.declared.Cell.{Cell}
use Rattle.sl_asm_known.specs.Frames.{IsSiteOf}
use Rattle.sl_asm_known.specs.OpenBits.{IsHalf}
use Rattle.sl_asm_known.specs.Verdicts.{Says}
use Rattle.sl_asm_known.specs.declared.Bit.{Bit}
use Rattle.sl_asm_known.specs.declared.Frame.{Frame}
use Rattle.sl_asm_values.specs.Narrowing.{Gives, GivesNone, KeepsGiving}
use Rattle.sl_asm_values.specs.declared.narrowing.Halved.{Halved}
use Rattle.sl_asm_values.specs.declared.narrowing.Halved.TheVariants.{Neither, One, Both}
use Rattle.sl_asm_values.specs.declared.narrowing.Judged.{Judged}
use Rattle.sl_decode_meaning.specs.Values.{Site}
use Rattle.sl_decode_plan.specs.declared.values.Value.{Value}
use Rattle.sl_spec.specs.declared.tables.Tables.{Tables}

module _ (t : Tables) (f : Frame) (region : List Cell) (v : Value) (wanted : Known) where
  -- The region, with what is said of it.
  pub record IsLeftOf (j : Judged) : Type 0 where
    pub same : j.region.items ≡ region
    pub says : Says t f j.region.items v wanted j.verdict

  -- No list of the region whose bit is so gives the expression a value with the wanted bits.
  abbrev pub HalfGivesNone : Bit → ℕ → Type 0
  HalfGivesNone b bit = (s : Site) (is : IsSiteOf f region s)
      → bit_at (get_or is.bytes b.index 0) b.place ≡ bit → Gives t v wanted s → ⊥

  -- The lists of the region whose bit is so, with what is said of them.
  pub record IsLeftHalf (b : Bit) (bit : ℕ) (j : Judged) : Type 0 where
    pub half : IsHalf region b bit j.region.items
    pub says : Says t f j.region.items v wanted j.verdict

  abbrev pub IsHalfLeft : Bit → ℕ → Option Judged → Type 0
  IsHalfLeft b bit found = MatchOption found (HalfGivesNone b bit) (IsLeftHalf b bit)

  -- All lists that give such a value are left, with what is said of the region of those.
  pub record IsLeft (j : Judged) : Type 0 where
    pub keeps : KeepsGiving t f region v wanted j.region.items
    pub says : Says t f j.region.items v wanted j.verdict

  abbrev pub IsOutcome : Halved → Type 0
  IsOutcome Neither = GivesNone t f region v wanted
  IsOutcome (One j) = IsLeft j
  IsOutcome Both = Unit {0}
