-- meaning: the weight of constructors, and rule 38's limit on it.
use Rattle.std.specs.Prelude.{ℕ, ◌+◌, nat_lt, Bool, List, [], ◌∷◌, ◌++◌, Option, Some, None}
use Rattle.std.specs.Prelude.{fold, get_or, length, map, position, sum_by}
use Rattle.sl_ast.specs.Spelling.{spell_all, spell_statement}
use Rattle.sl_ast.specs.Trees.{Constructor, Section, Statement, invoke, statements, unimplemented}
use Rattle.sl_ast.specs.Unfolding.{Placed}
use Rattle.sl_base_graphs.specs.Levels.{value}
use Rattle.sl_section_resolve.specs.Steps.{body_of, macro_name}
use Rattle.sl_section_resolve.specs.Macros.{Body}
use Rattle.sl_spec.specs.Named.{index_named}
use Rattle.sl_spec.specs.declared.tables.Tables.{Tables}
use Rattle.sl_spec_tables.specs.Lengths.{greatest}
use Rattle.sl_spec_tables.specs.Rows.{Row, graph, group as group_of, groups, rows, tables_of}

-- how many tokens statements have
unfoldable pub tokens : List Statement → ℕ
tokens body = length (spell_all spell_statement body [])

-- what stands at an index in a list of numbers, and 0 where there is no index
abbrev pub number_at : List ℕ → Option ℕ → ℕ
number_at ns None = 0
number_at ns (Some i) = get_or ns i 0

-- the weight of the macro that a statement calls, by those of the first macros; 0 where the
-- statement calls none of these
abbrev pub call_weight : List Body → List ℕ → Statement → ℕ
call_weight macros weights (invoke name es) = number_at weights (index_named macro_name name macros)
call_weight macros weights _ = 0

-- the weight of statements: their tokens, and for each call of a macro the weight of its body
abbrev pub body_weight : List Body → List ℕ → List Statement → ℕ
body_weight macros weights body = tokens body + sum_by (call_weight macros weights) body

-- with the weight of one more macro, which calls those before it
abbrev pub with_macro : List Body → List ℕ → Body → List ℕ
with_macro macros weights m = weights ++ body_weight macros weights (body_of m) ∷ []

-- the weights of the bodies of all macros of a text, in its order
unfoldable pub macro_weights : List Body → List ℕ
macro_weights macros = fold (with_macro macros) [] macros

-- the weight of what stands between a section's braces; `unimpl` weighs nothing
abbrev pub section_weight : List Body → List ℕ → Section → ℕ
section_weight macros weights (statements body) = body_weight macros weights body
section_weight macros weights unimplemented = 0

-- the weight of a constructor: its section's, and of each table operand the table's
abbrev pub row_weight : List Body → (ℕ → ℕ) → Row → ℕ
row_weight macros of_table r =
    section_weight macros (macro_weights macros) r.1.1.section + sum_by of_table (tables_of r.0)

-- the greatest weight of some constructors
abbrev pub step : List Body → (ℕ → ℕ) → List Row → ℕ
step macros of_table rs = greatest (map (row_weight macros of_table) rs)

-- the greatest weight of a table's constructors
abbrev pub table_weight : List Body → List (List Row) → ℕ → ℕ
table_weight macros gs = value (graph gs) (step macros) (group_of gs)

-- how much a constructor may weigh
abbrev pub most_weight : ℕ
most_weight = 65536

-- 38: the weight of each constructor is at most 65,536
abbrev pub is_heavy : List Body → List (List Row) → Row → Bool
is_heavy macros gs r = nat_lt most_weight (row_weight macros (table_weight macros gs) r)

-- the number of the first constructor that weighs more
unfoldable pub first_heavy : Tables → List Body → List (Placed Constructor) → Option ℕ
first_heavy t macros constructors =
    let rs = rows t constructors in
    position (is_heavy macros (groups (length t.tables) rs)) rs
