-- meaning: what is told of a table that isn't settled.
use Rattle.std.specs.Prelude.{ℕ, List, Option}
use Rattle.sl_cube.specs.declared.Point.{Point}
use Rattle.sl_cube_sets.specs.declared.report.Apart.{Apart}

-- The table's name; the items of the two constructors, or, where places are told by tokens, the first tokens of these;
-- the point at which neither is the choice; and how the two differ.
pub record Ambiguity : Type 0 where
  pub table : List ℕ
  pub first : Option ℕ
  pub second : Option ℕ
  pub both : Point
  pub apart : Apart
