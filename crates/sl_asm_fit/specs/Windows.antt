-- view: bytes which zeros follow, as they are read from a place.
use Rattle.std.specs.Prelude.{ℕ, List, ◌++◌, replicate, take}
use Rattle.sl_cube.specs.Points.{IsIn}
use Rattle.sl_cube.specs.declared.Cube.{Cube}
use Rattle.sl_decode_meaning.specs.Decoding.{point_at}

-- how many bytes a decode is told: those of the longest instruction, and the sixteen behind each of
-- its places
abbrev pub window : ℕ
window = 272

-- the bytes, and zeros behind them
abbrev pub with_zeros : List ℕ → List ℕ
with_zeros bytes = take window (bytes ++ replicate window 0)

-- Followed by zeros, the bytes are in the cube: the sixteen from the place on, with the context.
abbrev pub ReadsIn : ℕ → ℕ → Cube → List ℕ → Type 0
ReadsIn at context cube bytes = IsIn (point_at (with_zeros bytes) at context) cube
