-- view: bits of a region that are open, and its halves.
use Rattle.std.specs.Prelude.{◌≡◌, ℕ, ◌<◌, List, Some, get_or, length, slice_get}
use Rattle.std.specs.Int.{bit_at}
use Rattle.sl_asm_fit.specs.Regions.{IsOf}
use Rattle.sl_asm_fit.specs.declared.Cell.{Cell}
use Rattle.sl_asm_known.specs.declared.Bit.{Bit}

-- The bit is one of a byte of the region, and its cell leaves it open.
pub record IsOpenIn (region : List Cell) (b : Bit) : Type 0 where
  pub cell : Cell
  pub there : slice_get region b.index ≡ Some cell
  pub low : b.place < 8
  pub is_open : bit_at cell.mask b.place ≡ 0

-- The lists of the half are those of the region whose bit is this one.
pub record IsHalf (region : List Cell) (b : Bit) (bit : ℕ) (half : List Cell) : Type 0 where
  pub long : length half ≡ length region
  pub within : (xs : List ℕ) → IsOf half xs → IsOf region xs
  pub has : (xs : List ℕ) → IsOf half xs → bit_at (get_or xs b.index 0) b.place ≡ bit
  pub all : (xs : List ℕ) → IsOf region xs → bit_at (get_or xs b.index 0) b.place ≡ bit
      → IsOf half xs

-- No list of the region has the bit so.
abbrev pub HasNoHalf : List Cell → Bit → ℕ → Type 0
HasNoHalf region b bit = (xs : List ℕ) → IsOf region xs
    → bit_at (get_or xs b.index 0) b.place ≡ bit → ⊥
