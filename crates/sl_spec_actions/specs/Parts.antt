-- meaning: the names of a pattern in the order of the text (SLEIGH manual, "The Bit Pattern
-- Section").
use Rattle.std.specs.Prelude.{Bool, true, false, ◌||◌, List, [], ◌∷◌, ◌++◌}
use Rattle.sl_ast.specs.Trees.{Name, Pattern, bare, constraint, group, ellipsis, joined}
use Rattle.sl_ast.specs.declared.patterns.PatternOp.{PatternOp}
use Rattle.sl_ast.specs.declared.patterns.PatternOp.TheVariants.{And, Then, Or}
use Rattle.sl_spec.specs.Named.{has_name}
use Rattle.sl_spec.specs.Tables.{Table}

-- whether one of the tables has the name
abbrev pub is_table : List Table → Name → Bool
is_table tables name = has_name (λ b. b.name) name tables

-- a name: whether it stands alone, inside `|`, and right of a `;` whose left side holds a table
pub record Part : Type 0 where
  pub name : Name
  pub bare : Bool
  pub in_choice : Bool
  pub behind_table : Bool

abbrev pub is_in_choice : PatternOp → Bool → Bool
is_in_choice Or in_choice = true
is_in_choice And in_choice = in_choice
is_in_choice Then in_choice = in_choice

abbrev pub is_behind : PatternOp → Bool → Bool → Bool
is_behind Then behind holds = behind || holds
is_behind And behind holds = behind
is_behind Or behind holds = behind

-- whether some name that stands alone is a table's
abbrev pub holds_table : (Name → Bool) → Pattern → Bool
holds_table is_table (bare w) = is_table w
holds_table is_table (constraint w relation e) = false
holds_table is_table (group p) = holds_table is_table p
holds_table is_table (ellipsis p) = holds_table is_table p
holds_table is_table (joined op l r) = holds_table is_table l || holds_table is_table r

-- the parts of a pattern that stands inside `|` or not, and behind a table or not
unfoldable pub parts : (Name → Bool) → Bool → Bool → Pattern → List Part
parts is_table in_choice behind (bare w) =
    record { name = w; bare = true; in_choice = in_choice; behind_table = behind } ∷ []
parts is_table in_choice behind (constraint w relation e) =
    record { name = w; bare = false; in_choice = in_choice; behind_table = behind } ∷ []
parts is_table in_choice behind (group p) = parts is_table in_choice behind p
parts is_table in_choice behind (ellipsis p) = parts is_table in_choice behind p
parts is_table in_choice behind (joined op l r) =
    parts is_table (is_in_choice op in_choice) behind l
    ++ parts is_table (is_in_choice op in_choice) (is_behind op behind (holds_table is_table l)) r

-- the parts of a whole pattern
abbrev pub parts_of : List Table → Pattern → List Part
parts_of tables p = parts (is_table tables) false false p
