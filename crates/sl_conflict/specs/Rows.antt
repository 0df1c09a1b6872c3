-- view: constructors with their sets, and those of one table.
use Rattle.std.specs.Prelude.{ℕ, suc, ◌==◌, List, [], ◌∷◌}
use Rattle.std.specs.List.{filter}
use Rattle.sl_cube_sets.specs.declared.CubeSet.{CubeSet}
use Rattle.sl_spec.specs.Tables.{Ctor}

-- a constructor's number among all constructors, the number of its table, and its set
pub record Row : Type 0 where
  pub number : ℕ
  pub table : ℕ
  pub set : CubeSet

-- constructors and their sets side by side, numbered from n on
abbrev pub rows_from : ℕ → List Ctor → List CubeSet → List Row
rows_from n [] sets = []
rows_from n (c ∷ ctors) [] = []
rows_from n (c ∷ ctors) (s ∷ sets) =
    record { number = n; table = c.table; set = s } ∷ rows_from (suc n) ctors sets

-- all constructors that have a set, each at its number
unfoldable pub rows : List Ctor → List CubeSet → List Row
rows ctors sets = rows_from 0 ctors sets

-- those of one table, in the order of the text
abbrev pub of_table : ℕ → List Row → List Row
of_table table rs = filter (λ r. r.table == table) rs
