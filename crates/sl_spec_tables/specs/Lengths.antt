-- meaning: how many bytes patterns have, and what is reckoned over the constructors of a table.
use Rattle.std.specs.Prelude.{ℕ, ◌+◌, ◌/◌, max, min, List, [], ◌∷◌, Option, Some, None, map, slice_get, sum_by}
use Rattle.sl_ast.specs.Trees.{Pattern, bare, constraint, group, ellipsis, joined}
use Rattle.sl_ast.specs.declared.patterns.PatternOp.{PatternOp}
use Rattle.sl_ast.specs.declared.patterns.PatternOp.TheVariants.{And, Then, Or}
use Rattle.sl_base_graphs.specs.Levels.{value}
use Rattle.sl_spec.specs.FieldValues.{token_of}
use Rattle.sl_spec.specs.Named.{named}
use Rattle.sl_spec.specs.Tables as spec
use Rattle.sl_spec.specs.declared.constructors.Means.{Means}
use Rattle.sl_spec.specs.declared.constructors.Means.TheVariants.{Field, Table, Action}
use Rattle.sl_spec.specs.declared.tables.Tables.{Tables}
use Rattle.sl_spec_tables.specs.Rows.{Row, graph, group as group_of, tables_of}
use Rattle.sl_spec_tables.specs.declared.quantities.Quantity.{Quantity}
use Rattle.sl_spec_tables.specs.declared.quantities.Quantity.TheVariants.{Least, Greatest, Nodes}

-- the bytes of a token, none of the context
abbrev pub token_bytes : Option spec.Token → ℕ
token_bytes None = 0
token_bytes (Some t) = t.bits / 8

-- the bytes of a field's token
abbrev pub field_bytes : Tables → Option spec.Field → ℕ
field_bytes t None = 0
field_bytes t (Some f) = token_bytes (token_of t.tokens f)

-- the bytes of what an operand means, where those of tables are given
abbrev pub means_bytes : Tables → (ℕ → ℕ) → Means → ℕ
means_bytes t of_table (Field id) = field_bytes t (slice_get t.fields id)
means_bytes t of_table (Table id) = of_table id
means_bytes t of_table (Action n) = 0

-- the bytes of an operand; none of `epsilon`, which is no operand
abbrev pub operand_bytes : Tables → (ℕ → ℕ) → Option spec.Operand → ℕ
operand_bytes t of_table None = 0
operand_bytes t of_table (Some o) = means_bytes t of_table o.means

-- the bytes of two patterns that are joined
abbrev pub joined_bytes : PatternOp → ℕ → ℕ → ℕ
joined_bytes And m n = max m n
joined_bytes Then m n = m + n
joined_bytes Or m n = max m n

-- the bytes of a pattern
unfoldable pub pattern_bytes : Tables → (ℕ → ℕ) → List spec.Operand → Pattern → ℕ
pattern_bytes t of_table os (bare name) = operand_bytes t of_table (named (λ o. o.name) name os)
pattern_bytes t of_table os (constraint name relation e) = field_bytes t (named (λ f. f.name) name t.fields)
pattern_bytes t of_table os (group p) = pattern_bytes t of_table os p
pattern_bytes t of_table os (ellipsis p) = pattern_bytes t of_table os p
pattern_bytes t of_table os (joined op p q) =
    joined_bytes op (pattern_bytes t of_table os p) (pattern_bytes t of_table os q)

-- the bytes of a constructor
abbrev pub row_bytes : Tables → (ℕ → ℕ) → Row → ℕ
row_bytes t of_table r = pattern_bytes t of_table r.0.operands r.1.1.pattern

-- the nodes of a constructor: its own and those of its tables
abbrev pub row_nodes : (ℕ → ℕ) → Row → ℕ
row_nodes of_table r = 1 + sum_by of_table (tables_of r.0)

-- the first number with each other one in turn, or 0
abbrev pub put_together : (ℕ → ℕ → ℕ) → ℕ → List ℕ → ℕ
put_together f m [] = m
put_together f m (n ∷ ns) = put_together f (f m n) ns

abbrev pub least : List ℕ → ℕ
least [] = 0
least (n ∷ ns) = put_together min n ns

abbrev pub greatest : List ℕ → ℕ
greatest ns = put_together max 0 ns

-- what is reckoned of a constructor, where that of tables is given
abbrev pub amount : Quantity → Tables → (ℕ → ℕ) → Row → ℕ
amount Least t of_table r = row_bytes t of_table r
amount Greatest t of_table r = row_bytes t of_table r
amount Nodes t of_table r = row_nodes of_table r

-- what is reckoned of a table from its constructors; 0 where it has none
abbrev pub over_all : Quantity → List ℕ → ℕ
over_all Least ns = least ns
over_all Greatest ns = greatest ns
over_all Nodes ns = greatest ns

abbrev pub step : Quantity → Tables → (ℕ → ℕ) → List Row → ℕ
step quantity t of_table rs = over_all quantity (map (amount quantity t of_table) rs)

-- the least or greatest number of bytes of a table, or its greatest number of nodes
abbrev pub table_amount : Quantity → Tables → List (List Row) → ℕ → ℕ
table_amount quantity t gs = value (graph gs) (step quantity t) (group_of gs)
