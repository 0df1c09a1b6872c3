-- meaning: which tables a table's constructors name, and the order in which tables are shaped.
use Rattle.std.specs.Prelude.{◌≡◌, ℕ, ◌==◌, ◌&&◌, nat_lt, Bool, true, false, List, [], ◌∷◌, ◌++◌, fold, get_or, map, if◌then◌else◌}
use Rattle.std.specs.List.{flat_map, list_any, range_with_len}
use Rattle.sl_base_graphs.specs.Heights.{AreHeights, by_height}
use Rattle.sl_base_graphs.specs.Reaching.{Graph}
use Rattle.sl_spec.specs.Tables.{Ctor, Operand}
use Rattle.sl_spec.specs.declared.constructors.Means.{Means}
use Rattle.sl_spec.specs.declared.constructors.Means.TheVariants.{Field, Table, Action}

-- the table that an operand means, where it means one
abbrev pub table_of : Means → List ℕ
table_of (Table id) = id ∷ []
table_of (Field id) = []
table_of (Action n) = []

-- the tables that operands mean, in order
abbrev pub tables_in : List Operand → List ℕ
tables_in os = flat_map (λ o. table_of o.means) os

-- the tables that the constructors of one table name
abbrev pub named_by : List Ctor → ℕ → List ℕ
named_by [] t = []
named_by (c ∷ cs) t = (if c.table == t then tables_in c.operands else []) ++ named_by cs t

-- for each table those that it names
abbrev pub graph : ℕ → List Ctor → Graph
graph count ctors = map (named_by ctors) (range_with_len 0 count)

abbrev pub has : List ℕ → ℕ → Bool
has done t = list_any (λ u. u == t) done

-- one table more, if there is such a table and it hasn't come yet
abbrev pub met : ℕ → List ℕ → ℕ → List ℕ
met count done t = if nat_lt t count && (if has done t then false else true) then done ++ t ∷ [] else done

-- the tables in the order of their first constructors
abbrev pub appearing : ℕ → List Ctor → List ℕ
appearing count ctors = fold (met count) [] (map (λ c. c.table) ctors)

-- The tables by their heights, and those of one height in the order of their first constructors.
pub record IsShapingOrder (count : ℕ) (ctors : List Ctor) (order : List ℕ) : Type 0 where
  pub heights : List ℕ
  pub are : AreHeights (graph count ctors) heights
  pub order_is : order ≡ by_height (λ v. get_or heights v 0) (appearing count ctors)
