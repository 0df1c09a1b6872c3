-- The rules of actions on small constructors.
use Rattle.std.proofs.Common.{◌≡◌, ℕ, Bool, true, false, List, [], ◌∷◌, Option, None, Some, refl}
use Rattle.std.specs.Prelude.{codes}
use Rattle.sl_ast.specs.Trees.{Action, Expression, set, global_set, integer, named, binary, by_name, by_integer}
use Rattle.sl_ast.specs.declared.expressions.BinaryOp.TheVariants.{Add}
use Rattle.sl_spec_actions.specs.Parts.{Part}
use Rattle.sl_spec_rules.specs.Demands.{first_broken}
use Rattle.sl_spec_rules.specs.Names.{Name}
use Rattle.sl_spec.specs.Tables.{Field, Table}
use Rattle.sl_spec.specs.declared.tables.Tables.{Tables}
use Rattle.sl_spec_actions.specs.ActionNames.{action_names, names_behind, names_behind_all}
use Rattle.sl_spec_actions.specs.ActionRules.{action_demands, built_in_names, each_holds, has_address, has_new_left, sets_context_field, uses_early_names, uses_known_names}

abbrev field : Name → Option ℕ → Field
field name token = record { name = name; token = token; low = 0; high = 3; signed = false; dec = false; noflow = false }

abbrev table : Name → Table
table name = record { name = name; constructors = [] }

-- `define token t (8) a=(0,3) b=(0,3); define context c m=(0,3);`
abbrev tables : Tables → Tables
tables t = record t {
  spaces = [];
  registers = [];
  bitranges = [];
  tokens = [];
  fields = field (codes "a") (Some 0) ∷ field (codes "b") (Some 0) ∷ field (codes "m") None ∷ [];
  tables = [];
  macros = [];
  userops = [];
}

abbrev part : Name → Bool → Bool → Part
part name bare behind = record { name = name; bare = bare; in_choice = false; behind_table = behind }

-- `a & op ; b=1`
abbrev parts : List Part
parts = part (codes "a") true false ∷ part (codes "op") true false ∷ part (codes "b") false true ∷ []

abbrev told : Tables → List Action → Option ℕ
told t as' = first_broken (action_demands (table (codes "op") ∷ []) (tables t) parts as')

abbrev word : Name → Expression
word name = named name

context_and_new : (t : Tables) → told t (set (codes "m") (word (codes "a")) ∷ set (codes "x") (binary Add (word (codes "b")) (word (codes "inst_next"))) ∷ set (codes "y") (word (codes "x")) ∷ []) ≡ None
unfolding built_in_names each_holds has_address has_new_left names_behind names_behind_all sets_context_field uses_early_names uses_known_names
context_and_new t = refl

field_on_the_left : (t : Tables) → told t (set (codes "a") (integer 1) ∷ []) ≡ Some 21
unfolding built_in_names each_holds has_address has_new_left names_behind names_behind_all sets_context_field uses_early_names uses_known_names
field_on_the_left t = refl

set_twice : (t : Tables) → told t (set (codes "x") (integer 1) ∷ set (codes "x") (integer 2) ∷ []) ≡ Some 21
unfolding built_in_names each_holds has_address has_new_left names_behind names_behind_all sets_context_field uses_early_names uses_known_names
set_twice t = refl

context_twice : (t : Tables) → told t (set (codes "m") (integer 1) ∷ set (codes "m") (word (codes "m")) ∷ []) ≡ None
unfolding built_in_names each_holds has_address has_new_left names_behind names_behind_all sets_context_field uses_early_names uses_known_names
context_twice t = refl

table_on_the_left : (t : Tables) → told t (set (codes "op") (integer 1) ∷ []) ≡ Some 21
unfolding built_in_names each_holds has_address has_new_left names_behind names_behind_all sets_context_field uses_early_names uses_known_names
table_on_the_left t = refl

used_before_set : (t : Tables) → told t (set (codes "y") (word (codes "x")) ∷ set (codes "x") (integer 1) ∷ []) ≡ Some 22
unfolding built_in_names each_holds has_address has_new_left names_behind names_behind_all sets_context_field uses_early_names uses_known_names
used_before_set t = refl

table_in_expression : (t : Tables) → told t (set (codes "x") (word (codes "op")) ∷ []) ≡ Some 22
unfolding built_in_names each_holds has_address has_new_left names_behind names_behind_all sets_context_field uses_early_names uses_known_names
table_in_expression t = refl

next_into_context : (t : Tables) → told t (set (codes "m") (word (codes "inst_next")) ∷ []) ≡ Some 23
unfolding built_in_names each_holds has_address has_new_left names_behind names_behind_all sets_context_field uses_early_names uses_known_names
next_into_context t = refl

start_into_context : (t : Tables) → told t (set (codes "m") (word (codes "inst_start")) ∷ []) ≡ None
unfolding built_in_names each_holds has_address has_new_left names_behind names_behind_all sets_context_field uses_early_names uses_known_names
start_into_context t = refl

name_into_context : (t : Tables) → told t (set (codes "x") (integer 1) ∷ set (codes "m") (word (codes "x")) ∷ []) ≡ Some 23
unfolding built_in_names each_holds has_address has_new_left names_behind names_behind_all sets_context_field uses_early_names uses_known_names
name_into_context t = refl

behind_table_into_context : (t : Tables) → told t (set (codes "m") (word (codes "b")) ∷ []) ≡ Some 23
unfolding built_in_names each_holds has_address has_new_left names_behind names_behind_all sets_context_field uses_early_names uses_known_names
behind_table_into_context t = refl

sets_a_token_field : (t : Tables) → told t (global_set (by_integer 1) (codes "a") ∷ []) ≡ Some 24
unfolding built_in_names each_holds has_address has_new_left names_behind names_behind_all sets_context_field uses_early_names uses_known_names
sets_a_token_field t = refl

at_a_bare_field : (t : Tables) → told t (global_set (by_name (codes "a")) (codes "m") ∷ []) ≡ None
unfolding built_in_names each_holds has_address has_new_left names_behind names_behind_all sets_context_field uses_early_names uses_known_names
at_a_bare_field t = refl

at_a_constrained_field : (t : Tables) → told t (global_set (by_name (codes "b")) (codes "m") ∷ []) ≡ Some 25
unfolding built_in_names each_holds has_address has_new_left names_behind names_behind_all sets_context_field uses_early_names uses_known_names
at_a_constrained_field t = refl

at_a_context_field : (t : Tables) → told t (global_set (by_name (codes "m")) (codes "m") ∷ []) ≡ Some 25
unfolding built_in_names each_holds has_address has_new_left names_behind names_behind_all sets_context_field uses_early_names uses_known_names
at_a_context_field t = refl

lowest_number : (t : Tables) → told t (global_set (by_name (codes "b")) (codes "a") ∷ set (codes "y") (word (codes "x")) ∷ []) ≡ Some 22
unfolding built_in_names each_holds has_address has_new_left names_behind names_behind_all sets_context_field uses_early_names uses_known_names
lowest_number t = refl

names_once : (t : Tables) → action_names (tables t) (set (codes "x") (integer 1) ∷ set (codes "m") (integer 1) ∷ set (codes "y") (integer 1) ∷ set (codes "x") (integer 2) ∷ []) ≡ codes "x" ∷ codes "y" ∷ []
names_once t = refl
