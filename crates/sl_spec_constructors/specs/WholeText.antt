-- meaning: what the whole text says of its tables (SLEIGH manual, "Tables"): their names in the
-- order of their first constructors, `instruction` first.
use Rattle.std.specs.Prelude.{List, [], ◌∷◌, ◌++◌, map, fold, codes, unwrap_or, if◌then◌else◌}
use Rattle.sl_ast.specs.Trees.{Constructor}
use Rattle.sl_ast.specs.Unfolding.{Placed}
use Rattle.sl_spec_rules.specs.Names.{Name}
use Rattle.sl_spec.specs.Named.{has_name}
use Rattle.sl_spec.specs.Tables.{Table}

-- the table of a constructor that stands in no block
abbrev pub table_name : Constructor → Name
table_name c = unwrap_or c.table (codes "instruction")

-- a table without the numbers of its constructors
abbrev pub bare_table : Name → Table
bare_table name = record { name = name; constructors = [] }

-- the tables with that of a constructor, if it isn't there
abbrev pub with_table : List Table → Name → List Table
with_table tables name =
    if has_name (λ b. b.name) name tables then tables else tables ++ bare_table name ∷ []

-- all tables, without the numbers of their constructors
abbrev pub all_tables : List (Placed Constructor) → List Table
all_tables cs =
    fold with_table (bare_table (codes "instruction") ∷ []) (map (λ c. table_name c.1) cs)
