-- meaning: points as they are seen from a place of an instruction.
use Rattle.std.specs.Prelude.{ℕ, ◌*◌, ◌%◌, ◌^◌}
use Rattle.sl_cube.specs.Points.{IsIn}
use Rattle.sl_cube.specs.declared.Cube.{Cube}
use Rattle.sl_cube.specs.declared.Point.{Point}

-- the point as it is seen from a place: its bytes from there on, and zeros behind them
abbrev pub seen : ℕ → Point → Point
seen place p = record { bytes = p.bytes * 2 ^ (8 * place) % 2 ^ 128; context = p.context }

-- The point as it is seen from the place is in the cube.
abbrev pub IsSeenIn : ℕ → Cube → Point → Type 0
IsSeenIn place cube p = IsIn (seen place p) cube
