-- view: bits that a region leaves open and the shortest of some cubes fix.
use Rattle.std.specs.Prelude.{◌≡◌, ℕ, ◌⊎◌, List, Option, Some, None}
use Rattle.std.specs.Int.{bit_at}
use Rattle.std.specs.List.{All}
use Rattle.sl_cube.specs.Search.{IsNoBit, FixesNoMore}
use Rattle.sl_cube.specs.declared.Cube.{Cube}
use Rattle.sl_cube.specs.declared.Point.{Point}

-- The region leaves each of the bits open.
pub record IsOpen (region : Cube) (bits : Point) : Type 0 where
  pub bytes : (i : ℕ) → bit_at bits.bytes i ≡ 1 → bit_at region.mask i ≡ 0
  pub context : (i : ℕ) → bit_at bits.context i ≡ 1 → bit_at region.ctx_mask i ≡ 0

-- And there is one.
pub record IsOpenBits (region : Cube) (bits : Point) : Type 0 where
  pub all_open : IsOpen region bits
  pub some : IsNoBit bits → ⊥

abbrev pub IsOpenIfSome : Cube → Option Point → Type 0
IsOpenIfSome region None = Unit {0}
IsOpenIfSome region (Some bits) = IsOpenBits region bits

-- The new bits are open or the old ones; none only where there were none, and the cube fixes no open bit.
abbrev pub IsWeighed : Cube → Cube → Option Point → Option Point → Type 0
IsWeighed region cube old None = (old ≡ None) × FixesNoMore region cube
IsWeighed region cube old (Some bits) = (old ≡ Some bits) ⊎ IsOpenBits region bits

-- The same over the cubes of a list.
abbrev pub AreWeighed : Cube → List Cube → Option Point → Option Point → Type 0
AreWeighed region cubes old None = (old ≡ None) × All (FixesNoMore region) cubes
AreWeighed region cubes old (Some bits) = (old ≡ Some bits) ⊎ IsOpenBits region bits

-- Some of the bits, where there is one.
pub record IsAmong (bits some : Point) : Type 0 where
  pub bytes : (i : ℕ) → bit_at some.bytes i ≡ 1 → bit_at bits.bytes i ≡ 1
  pub context : (i : ℕ) → bit_at some.context i ≡ 1 → bit_at bits.context i ≡ 1
  pub not_none : IsNoBit some → IsNoBit bits
