-- view: what is known of a byte, and what a cube fixes of each.
use Rattle.std.specs.Prelude.{◌≡◌, ℕ, ◌+◌, ◌-◌, ◌*◌, ◌<◌}
use Rattle.std.specs.Int.{bit_at}
use Rattle.sl_asm_fit.specs.declared.Cell.{Cell}
use Rattle.sl_cube.specs.Bits.{Agrees}
use Rattle.sl_cube.specs.declared.Cube.{Cube}

-- The byte has each bit that the cell fixes.
abbrev pub Fits : Cell → ℕ → Type 0
Fits c x = Agrees c.mask c.value x

-- No byte fits both cells.
abbrev pub AreApart : Cell → Cell → Type 0
AreApart a b = (x : ℕ) → Fits a x → Fits b x → ⊥

-- The bytes that fit the third cell are those that fit both others.
pub record IsMeet (a b m : Cell) : Type 0 where
  pub first : (x : ℕ) → Fits m x → Fits a x
  pub second : (x : ℕ) → Fits m x → Fits b x
  pub both : (x : ℕ) → Fits a x → Fits b x → Fits m x

-- The cell fixes what the cube does of the byte at an index, the first one being the highest.
pub record IsByteOf (cube : Cube) (index : ℕ) (c : Cell) : Type 0 where
  pub byte : c.mask < 256
  pub mask : (j : ℕ) → j < 8 → bit_at c.mask j ≡ bit_at cube.mask (8 * (15 - index) + j)
  pub value : (j : ℕ) → j < 8 → bit_at c.value j ≡ bit_at cube.value (8 * (15 - index) + j)
