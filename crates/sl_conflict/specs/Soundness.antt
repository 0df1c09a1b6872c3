-- meaning: sound tables: no pattern has a fault, and each table is settled.
use Rattle.std.specs.Prelude.{ℕ, List, length}
use Rattle.std.specs.List.{range_with_len}
use Rattle.sl_ast.specs.Trees.{Constructor}
use Rattle.sl_ast.specs.Unfolding.{Placed}
use Rattle.sl_conflict.specs.Ambiguity.{AreSettled, IsFirstAmbiguous, IsOf}
use Rattle.sl_cube.specs.declared.Point.{Point}
use Rattle.sl_cube_sets.specs.declared.report.Report.{Report}
use Rattle.sl_shape.specs.Readings.{HasPoint, IsShaped}
use Rattle.sl_spec.specs.declared.tables.Tables.{Tables}

-- the constructors by their numbers
abbrev pub numbers : Tables → List ℕ
numbers t = range_with_len 0 (length t.constructors)

module _ (t : Tables) (cs : List (Placed Constructor)) where
  -- The constructor is one of the table, and its pattern holds at the point.
  abbrev pub has_in : ℕ → ℕ → Point → Type 0
  has_in table number p = IsOf t.constructors table number × HasPoint t cs number p

  -- No pattern has a fault, and at each point that some constructor of a table has, one of them lies properly within each
  -- other one that has it.
  pub record IsSound : Type 0 where
    pub shaped : IsShaped t cs
    pub settled : AreSettled has_in (numbers t) (length t.tables)

  -- No pattern has a fault, the table is the first that isn't settled, and this is the report on it.
  pub record IsAmbiguousAt (table : ℕ) (told : Report) : Type 0 where
    pub shaped : IsShaped t cs
    pub first : IsFirstAmbiguous has_in (numbers t) t.constructors (length t.tables) table told
