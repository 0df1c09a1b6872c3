-- meaning: the constructors of each table, and the tables that they name.
use Rattle.std.specs.Prelude.{ℕ, ◌==◌, Bool, List, [], ◌∷◌, get_or, map}
use Rattle.std.specs.List.{filter, range_with_len, zip}
use Rattle.sl_ast.specs.Trees.{Constructor}
use Rattle.sl_ast.specs.Unfolding.{Placed}
use Rattle.sl_base_graphs.specs.Reaching.{Graph}
use Rattle.sl_spec_rules.specs.Gathered.{gathered}
use Rattle.sl_spec.specs.Tables.{Ctor}
use Rattle.sl_spec.specs.declared.constructors.Means.{Means}
use Rattle.sl_spec.specs.declared.constructors.Means.TheVariants.{Field, Table, Action}
use Rattle.sl_spec.specs.declared.tables.Tables.{Tables}

-- a constructor with its operands, and as it is written
abbrev pub Row : Type 0
Row = Ctor × Placed Constructor

-- all constructors in the order of the text
abbrev pub rows : Tables → List (Placed Constructor) → List Row
rows t constructors = zip t.constructors constructors

-- whether a constructor is one of a table
abbrev pub is_of : ℕ → Row → Bool
is_of table r = r.0.table == table

-- the constructors of each table
unfoldable pub groups : ℕ → List Row → List (List Row)
groups count rs = map (λ table. filter (is_of table) rs) (range_with_len 0 count)

-- the table that an operand means, where it means one
abbrev pub table_of : Means → List ℕ
table_of (Table id) = id ∷ []
table_of (Field id) = []
table_of (Action n) = []

-- the tables that a constructor's operands mean, in order
abbrev pub tables_of : Ctor → List ℕ
tables_of c = gathered (λ o. table_of o.means) c.operands

-- the tables that the operands of some constructors mean
abbrev pub tables_in : List Row → List ℕ
tables_in rs = gathered (λ r. tables_of r.0) rs

-- for each table the tables that its constructors name
abbrev pub graph : List (List Row) → Graph
graph gs = map tables_in gs

-- the constructors of a table
abbrev pub group : List (List Row) → ℕ → List Row
group gs table = get_or gs table []
