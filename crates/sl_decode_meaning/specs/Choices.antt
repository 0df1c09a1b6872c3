-- meaning: the choice of a constructor.
use Rattle.std.specs.Prelude.{ℕ, Option}
use Rattle.sl_cube.specs.declared.Point.{Point}

-- the number of the constructor of a table that is chosen at a point
abbrev pub Choice : Type 0
Choice = ℕ → Point → Option ℕ
