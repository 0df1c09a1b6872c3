-- meaning: what a constructor adds, with all rules that it is judged by (SLEIGH manual,
-- "Constructors").
use Rattle.std.specs.Prelude.{ℕ, List, [], ◌∷◌, ◌++◌, length, Result, unwrap_or}
use Rattle.std.specs.List.{list_all}
use Rattle.sl_ast.specs.Trees.{Action, Constructor, Pattern}
use Rattle.sl_ast.specs.Unfolding.{written}
use Rattle.sl_spec_rules.specs.Demands.{Demand, judged}
use Rattle.sl_spec_rules.specs.Names.{Name}
use Rattle.sl_spec.specs.Begun.{with_constructor}
use Rattle.sl_spec.specs.Named.{index_named}
use Rattle.sl_spec.specs.Tables.{Ctor, Operand, Table}
use Rattle.sl_spec.specs.declared.tables.Tables.{Tables}
use Rattle.sl_spec_actions.specs.ActionNames.{action_names}
use Rattle.sl_spec_actions.specs.ActionRules.{action_demands}
use Rattle.sl_spec_actions.specs.Parts.{Part, parts_of}
use Rattle.sl_spec_constructors.specs.ConstraintValues.{has_values}
use Rattle.sl_spec_constructors.specs.ConstructorRules.{are_few, is_allowed_there, is_known, is_of_root}
use Rattle.sl_spec_constructors.specs.ConstructorRules.{may_begin, shows_operands}
use Rattle.sl_spec_constructors.specs.Operands.{bare_names, operand_names, operands}
use Rattle.sl_spec_constructors.specs.WholeText.{table_name}
pub use Rattle.sl_spec_constructors.specs.WholeText.{all_tables}

-- the demands on a pattern and on actions, by the parts of the pattern and the operands' names
abbrev pub pattern_demands : List Table → Tables → Pattern → List Part → List Name → List Action
    → List Demand
pattern_demands tables t p ps names as' =
    (17, list_all (is_known t.fields tables) ps)
    ∷ (18, are_few (bare_names ps) names)
    ∷ (19, list_all is_allowed_there ps)
    ∷ (20, has_values p) ∷ action_demands tables t ps as'

-- the demands on a constructor, by the parts of its pattern, its operands' names and its actions
abbrev pub demands : List Table → Tables → Constructor → List Part → List Name → List Action
    → List Demand
demands tables t c ps names as' =
    (3, may_begin t (table_name c))
    ∷ (16, shows_operands t names (is_of_root (table_name c)) c.display)
    ∷ pattern_demands tables t c.pattern ps names as'

-- the constructor that is added, by the number of its item
abbrev pub added : List Table → ℕ → Constructor → List Operand → Ctor
added tables item c os = record {
  table = unwrap_or (index_named (λ b. b.name) (table_name c) tables) 0;
  item = item;
  operands = os;
}

-- the tables with one more constructor
abbrev pub with_ctor : Tables → Name → Ctor → Tables
with_ctor t table c = record t {
  tables = with_constructor t.tables table (length t.constructors);
  constructors = t.constructors ++ c ∷ [];
}

-- the operands of a constructor, by the parts of its pattern and its actions
abbrev pub operands_of : List Table → Tables → List Part → List Action → List Operand
operands_of tables t ps as' = operands t.fields tables (bare_names ps) (action_names t as')

abbrev pub step_by : List Table → Tables → ℕ → Constructor → List Part → List Action → List Operand
    → Result Tables ℕ
step_by tables t item c ps as' os = judged (demands tables t c ps (operand_names os) as')
    (with_ctor t (table_name c) (added tables item c os))

-- a constructor that stands in no block, with all tables of the text, the tables so far, and the
-- number of its item
abbrev pub constructor_step : List Table → Tables → ℕ → Constructor → Result Tables ℕ
constructor_step tables t item c =
    step_by tables t item c (parts_of tables c.pattern) (written c.actions)
    (operands_of tables t (parts_of tables c.pattern) (written c.actions))
