-- view: what is said of the bits that a value is to have, for all lists of a region.
use Rattle.std.specs.Prelude.{IfOk, List}
use Rattle.sl_asm_bits.specs.Known.{HasBits}
use Rattle.sl_asm_bits.specs.declared.Known.{Known}
use Rattle.sl_asm_fit.specs.declared.Cell.{Cell}
use Rattle.sl_asm_known.specs.Frames.{IsSiteOf}
use Rattle.sl_asm_known.specs.OpenBits.{IsOpenIn}
use Rattle.sl_asm_known.specs.declared.Frame.{Frame}
use Rattle.sl_asm_known.specs.declared.judging.Verdict.{Verdict}
use Rattle.sl_asm_known.specs.declared.judging.Verdict.TheVariants.{Never, Always, Open, Unclear}
use Rattle.sl_decode_meaning.specs.Values.{Site}
use Rattle.sl_decode_plan.specs.Values.{value_in}
use Rattle.sl_decode_plan.specs.declared.values.Value.{Value}
use Rattle.sl_spec.specs.declared.tables.Tables.{Tables}

module _ (t : Tables) (f : Frame) (region : List Cell) (v : Value) (wanted : Known) where
  -- Where no list gives the expression such a value, where each that gives it one gives it such a
  -- one, or a bit that the region leaves open.
  abbrev pub Says : Verdict → Type 0
  Says Never = (s : Site) → IsSiteOf f region s → IfOk (value_in t s v) (λ z. HasBits wanted z → ⊥)
  Says Always = (s : Site) → IsSiteOf f region s → IfOk (value_in t s v) (HasBits wanted)
  Says (Open b) = IsOpenIn region b
  Says Unclear = Unit {0}
