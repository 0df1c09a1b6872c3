-- view: regions narrowed to the lists that give an expression a wanted value.
use Rattle.std.specs.Prelude.{◌≡◌, ℕ, ℤ, List, Ok, length}
use Rattle.sl_asm_bits.specs.Known.{HasBits}
use Rattle.sl_asm_bits.specs.declared.Known.{Known}
use Rattle.sl_asm_fit.specs.Regions.{IsOf}
use Rattle.sl_asm_fit.specs.declared.Cell.{Cell}
use Rattle.sl_asm_known.specs.Frames.{IsSiteOf}
use Rattle.sl_asm_known.specs.declared.Frame.{Frame}
use Rattle.sl_decode_meaning.specs.Values.{Site}
use Rattle.sl_decode_plan.specs.Values.{value_in}
use Rattle.sl_decode_plan.specs.declared.values.Value.{Value}
use Rattle.sl_spec.specs.declared.tables.Tables.{Tables}

-- There the expression has a value, and the value has the wanted bits.
pub record Gives (t : Tables) (v : Value) (wanted : Known) (s : Site) : Type 0 where
  pub number : ℤ
  pub is : value_in t s v ≡ Ok number
  pub has : HasBits wanted number

-- A region of lists that the other one has, too.
pub record IsPart (region narrow : List Cell) : Type 0 where
  pub long : length narrow ≡ length region
  pub within : (xs : List ℕ) → IsOf narrow xs → IsOf region xs

module _ (t : Tables) (f : Frame) (region : List Cell) (v : Value) (wanted : Known) where
  -- No list of the region gives the expression such a value.
  abbrev pub GivesNone : Type 0
  GivesNone = (s : Site) → IsSiteOf f region s → Gives t v wanted s → ⊥

  -- Lists of the region, and among them each that gives the expression such a value.
  pub record KeepsGiving (narrow : List Cell) : Type 0 where
    pub part : IsPart region narrow
    pub stays : (s : Site) (is : IsSiteOf f region s) → Gives t v wanted s → IsOf narrow is.bytes
