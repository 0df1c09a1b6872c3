-- law: the tables that constructors begin, one by one, are a front of all tables of the text.
use Rattle.std.specs.Prelude.{◌≡◌, ℕ, List, [], ◌∷◌, map, fold, codes, Ok}
use Rattle.sl_ast.specs.Trees.{Constructor}
use Rattle.sl_ast.specs.Unfolding.{Placed}
use Rattle.sl_spec_rules.specs.Names.{Name}
use Rattle.sl_spec.specs.Tables.{Table}
use Rattle.sl_spec.specs.declared.tables.Tables.{Tables}
use Rattle.sl_spec_actions.specs.ActionNames.{with_name}
use Rattle.sl_spec_constructors.specs.Steps.{constructor_step}
use Rattle.sl_spec_constructors.specs.WholeText.{all_tables, table_name}

abbrev pub names_of : List Table → List Name
names_of bs = map (λ b. b.name) bs

-- A constructor that is taken adds the name of its table, if it isn't there.
abbrev pub AddsItsTable : Type 0
AddsItsTable = (all : List Table) (t next : Tables) (item : ℕ) (c : Constructor)
    → constructor_step all t item c ≡ Ok next
    → names_of next.tables ≡ with_name (names_of t.tables) (table_name c)

-- The names of all tables are added in the same way, behind `instruction`.
abbrev pub AddsEachTable : Type 0
AddsEachTable = (cs : List (Placed Constructor)) → names_of (all_tables cs)
    ≡ fold with_name (codes "instruction" ∷ []) (map (λ c. table_name c.1) cs)
