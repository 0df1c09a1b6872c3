-- step: what rules 17 to 20 say of a pattern, part by part, and a constructor that is judged by it.
use Rattle.std.specs.Prelude.{ℕ, ◌&&◌, Bool, true, false, List, [], ◌∷◌, ◌++◌, Result, is_some}
use Rattle.sl_ast.specs.Trees.{Action, Constructor, Expression, Head, Name, Pattern}
use Rattle.sl_ast.specs.Trees.{bare, constraint, group, ellipsis, joined}
use Rattle.sl_ast.specs.Unfolding.{written}
use Rattle.sl_spec_rules.specs.Demands.{Demand, judged}
use Rattle.sl_spec.specs.Tables.{Field, Operand, Table}
use Rattle.sl_spec.specs.declared.tables.Tables.{Tables}
use Rattle.sl_spec_actions.specs.ActionNames.{action_names}
use Rattle.sl_spec_actions.specs.ActionRules.{action_demands}
use Rattle.sl_spec_actions.specs.Parts.{Part, is_in_choice, parts_of}
use Rattle.sl_spec_constructors.specs.ConstraintValues.{constraint_value}
use Rattle.sl_spec_constructors.specs.ConstructorRules.{are_few, is_allowed_there, is_known, is_of_root}
use Rattle.sl_spec_constructors.specs.ConstructorRules.{may_begin, shows_operands}
use Rattle.sl_spec_constructors.specs.Facts.{PatternFacts, both, facts_if_written}
use Rattle.sl_spec_constructors.specs.Operands.{bare_names, operand_names, operands}
use Rattle.sl_spec_constructors.specs.Steps.{added, with_ctor}
use Rattle.sl_spec_constructors.specs.WholeText.{table_name}

-- a name in a pattern, wherever tables stand
abbrev pub part_of : Name → Bool → Bool → Part
part_of name is_bare in_choice =
    record { name = name; bare = is_bare; in_choice = in_choice; behind_table = false }

-- with one part more
abbrev pub with_part : List Field → List Table → PatternFacts → Part → PatternFacts
with_part fields tables f p = record {
  known = f.known && is_known fields tables p;
  allowed = f.allowed && is_allowed_there p;
  valued = f.valued;
  bare = f.bare ++ bare_names (p ∷ []);
}

-- with the expression of a constraint
abbrev pub with_value : PatternFacts → Expression → PatternFacts
with_value f e = record f { valued = f.valued && is_some (constraint_value e) }

-- with a pattern that stands inside `|` or not
unfoldable pub with_pattern : List Field → List Table → PatternFacts → Bool → Pattern
    → PatternFacts
with_pattern fields tables f in_choice (bare w) =
    with_part fields tables f (part_of w true in_choice)
with_pattern fields tables f in_choice (constraint w relation e) =
    with_part fields tables (with_value f e) (part_of w false in_choice)
with_pattern fields tables f in_choice (group p) = with_pattern fields tables f in_choice p
with_pattern fields tables f in_choice (ellipsis p) = with_pattern fields tables f in_choice p
with_pattern fields tables f in_choice (joined op l r) = with_pattern fields tables
    (with_pattern fields tables f (is_in_choice op in_choice) l) (is_in_choice op in_choice) r

-- with the pattern of a block, if it has one
abbrev pub with_head : List Field → List Table → PatternFacts → Head → PatternFacts
with_head fields tables f h = both f (facts_if_written fields tables h.pattern)

-- ---- a constructor, by what is said of its pattern

-- the demands on its pattern, and further ones
abbrev pub demands_by : PatternFacts → List Name → List Demand → List Demand
demands_by f names more = (17, f.known) ∷ (18, are_few f.bare names) ∷ (19, f.allowed)
    ∷ (20, f.valued) ∷ more

-- the demands on it, by its operands' names, and further ones
abbrev pub demands_before : Tables → Constructor → PatternFacts → List Name → List Demand
    → List Demand
demands_before t c f names more =
    (3, may_begin t (table_name c))
    ∷ (16, shows_operands t names (is_of_root (table_name c)) c.display)
    ∷ demands_by f names more

-- and by its actions
abbrev pub demands_with : List Table → Tables → Constructor → PatternFacts → List Name
    → List Action → List Demand
demands_with tables t c f names as' =
    demands_before t c f names (action_demands tables t (parts_of tables c.pattern) as')

abbrev pub operands_with : List Table → Tables → PatternFacts → List Action → List Operand
operands_with tables t f as' = operands t.fields tables f.bare (action_names t as')

abbrev pub step_by : List Table → Tables → ℕ → Constructor → PatternFacts → List Operand
    → Result Tables ℕ
step_by tables t item c f os =
    judged (demands_with tables t c f (operand_names os) (written c.actions))
    (with_ctor t (table_name c) (added tables item c os))

abbrev pub step_with : List Table → Tables → ℕ → Constructor → PatternFacts → Result Tables ℕ
step_with tables t item c f =
    step_by tables t item c f (operands_with tables t f (written c.actions))
