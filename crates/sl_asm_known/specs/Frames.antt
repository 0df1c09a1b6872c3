-- view: where an expression of an action is reckoned, for all lists of a region at once.
use Rattle.std.specs.Prelude.{◌≡◌, ℕ, ℤ, List, Some, length, slice_get}
use Rattle.sl_asm_bits.specs.Known.{HasBits}
use Rattle.sl_asm_bits.specs.declared.Known.{Known}
use Rattle.sl_asm_fit.specs.Regions.{IsOf}
use Rattle.sl_asm_fit.specs.Windows.{with_zeros}
use Rattle.sl_asm_fit.specs.declared.Cell.{Cell}
use Rattle.sl_asm_known.specs.declared.Frame.{Frame}
use Rattle.sl_decode_meaning.specs.Values.{Site}

-- Each value has the bits that are known of it.
pub record AreOf (names : List Known) (values : List ℤ) : Type 0 where
  pub long : length values ≡ length names
  pub has : (i : ℕ) (k : Known) (z : ℤ) → slice_get names i ≡ Some k
      → slice_get values i ≡ Some z → HasBits k z

-- A site whose bytes are a list of the region followed by zeros, and which else is as the frame
-- says.
pub record IsSiteOf (f : Frame) (region : List Cell) (s : Site) : Type 0 where
  pub bytes : List ℕ
  pub of_region : IsOf region bytes
  pub reads : s.bytes ≡ with_zeros bytes
  pub at : s.at ≡ f.at
  pub lengths : s.lengths ≡ f.lengths.now
  pub context : s.context ≡ f.context
  pub start : s.start ≡ f.start
  pub next : s.next ≡ f.next
  pub names : AreOf f.names.now s.values
