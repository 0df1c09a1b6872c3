-- step: what the cubes of entries have in common, and what it tells of bits.
use Rattle.std.specs.Prelude.{◌≡◌, ℕ, ◌<◌, ◌⊎◌, List, Contains, bit_and, bit_or, bit_xor}
use Rattle.sl_cube.specs.Points.{InRange}
use Rattle.sl_cube.specs.declared.Cube.{Cube}
use Rattle.sl_cube.specs.declared.Point.{Point}
use Rattle.sl_choose.specs.declared.Entry.{Entry}
use Rattle.sl_choose.specs.declared.shared.Shared.{Shared}
use Rattle.sl_choose.specs.Sides.{AllCover, SomeClear, SomeSet}

abbrev pub HasAll : Point → Point → Type 0
HasAll p bits = (bit_and p.bytes bits.bytes ≡ bits.bytes) × (bit_and p.context bits.context ≡ bits.context)

abbrev pub HasNone : Point → Point → Type 0
HasNone p bits = (bit_and p.bytes bits.bytes ≡ 0) × (bit_and p.context bits.context ≡ 0)

-- the bits that a cube fixes to 0
abbrev pub cleared : Cube → Point
cleared c = record { bytes = bit_xor c.mask c.value; context = bit_xor c.ctx_mask c.ctx_value }

-- One more cube counts.
pub record Joins (s : Shared) (c : Cube) (t : Shared) : Type 0 where
  pub fixed : (t.fixed.bytes ≡ bit_and s.fixed.bytes c.mask) × (t.fixed.context ≡ bit_and s.fixed.context c.ctx_mask)
  pub some : (t.some.bytes ≡ bit_or s.some.bytes c.value) × (t.some.context ≡ bit_or s.some.context c.ctx_value)
  pub clear : (t.clear.bytes ≡ bit_or s.clear.bytes (cleared c).bytes) × (t.clear.context ≡ bit_or s.clear.context (cleared c).context)
  pub all : (t.all.bytes ≡ bit_and s.all.bytes c.value) × (t.all.context ≡ bit_and s.all.context c.ctx_value)

-- What holds of the bits of all cubes, and of some cube, shows in what they have in common.
pub record IsShared (entries : List Entry) (s : Shared) : Type 0 where
  pub fixed : (bits : Point) → InRange bits → AllCover entries bits → HasAll s.fixed bits
  pub some : (bits : Point) → SomeSet entries bits → HasNone s.some bits → ⊥
  pub clear : (bits : Point) → HasNone s.clear bits → (e : Entry) → Contains entries e → HasNone (cleared e.cube) bits
  pub all : (bits : Point) → SomeClear entries bits → HasNone s.all bits

-- All cubes may fix the bits, and two of them differ in them.
pub record MayDiffer (s : Shared) (bits : Point) : Type 0 where
  pub fixed : HasAll s.fixed bits
  pub some : HasNone s.some bits → ⊥
  pub all : HasNone s.all bits

-- In no bit before this one two cubes may differ.
abbrev pub HasNoneBefore : (ℕ → Point) → Shared → ℕ → Type 0
HasNoneBefore bit s n = (k : ℕ) → k < n → MayDiffer s (bit k) → ⊥

-- Each bit before this one is fixed to 1 by no cube, or to 0 by none.
abbrev pub AreSameBefore : (ℕ → Point) → Shared → ℕ → Type 0
AreSameBefore bit s n = (k : ℕ) → k < n → HasNone s.some (bit k) ⊎ HasNone s.clear (bit k)
