-- meaning: where a pattern holds (SLEIGH manual, "The Bit Pattern Section").
use Rattle.std.specs.Prelude.{ℕ, ℤ, ◌+◌, ◌⊎◌, min, Bool, true, false, ◌||◌, List}
use Rattle.std.specs.Prelude.{Option, Some, None, option_and_then, option_map, slice_get, unwrap_or}
use Rattle.sl_ast.specs.Trees.{Name, Pattern, bare, constraint, group, ellipsis, joined}
use Rattle.sl_ast.specs.Trees.{Expression}
use Rattle.sl_ast.specs.declared.patterns.PatternOp.{PatternOp}
use Rattle.sl_ast.specs.declared.patterns.PatternOp.TheVariants.{And, Then, Or}
use Rattle.sl_ast.specs.declared.patterns.Relation.{Relation}
use Rattle.sl_ast.specs.declared.patterns.Relation.TheVariants as written
use Rattle.sl_shape_blocks.specs.declared.compare.Relation as b
use Rattle.sl_shape_blocks.specs.declared.compare.Relation.TheVariants as compared
use Rattle.sl_shape_constraints.specs.Places.{seen}
use Rattle.sl_shape_constraints.specs.Values.{Constraint, ConstraintHolds}
use Rattle.sl_spec_constructors.specs.ConstraintValues.{constraint_value}
use Rattle.sl_spec_constructors.specs.Operands.{is_epsilon}
use Rattle.sl_cube.specs.Points.{InRange, IsIn}
use Rattle.sl_cube.specs.declared.Cube.{Cube}
use Rattle.sl_cube.specs.declared.Point.{Point}
use Rattle.sl_spec.specs.Named.{has_name, index_named, named}
use Rattle.sl_spec.specs.Tables.{Field, Token}
use Rattle.sl_spec.specs.declared.tables.Tables.{Tables}

-- What a pattern is read with: the tables of its specification, how many bytes a pattern has where
-- it has a fixed number of them, and the hulls of tables by their numbers, where they are known.
pub record Reading : Type 0 where
  pub tables : Tables
  pub bytes : Pattern → Option ℕ
  pub hulls : List (Option Cube)

-- ---- names

-- whether a name holds everywhere: `epsilon`, or a field
abbrev pub is_open : Tables → Name → Bool
is_open t name = is_epsilon name || has_name (λ f. f.name) name t.fields

abbrev pub hull_at : List (Option Cube) → ℕ → Option Cube
hull_at hulls i = option_and_then (λ h. h) (slice_get hulls i)

-- the hull of the table of this name
abbrev pub hull_named : Reading → Name → Option Cube
hull_named r name =
    option_and_then (hull_at r.hulls) (index_named (λ b. b.name) name r.tables.tables)

-- There is a hull, and it has the point.
abbrev pub InHull : Option Cube → Point → Type 0
InHull None p = ⊥
InHull (Some hull) p = IsIn p hull

abbrev pub OpenOrIn : Bool → Option Cube → Point → Type 0
OpenOrIn true hull p = Unit {0}
OpenOrIn false hull p = InHull hull p

-- A name by itself holds at the point: `epsilon` and a field everywhere, a table where its hull
-- does.
abbrev pub NameHolds : Reading → Name → Point → Type 0
NameHolds r name p = OpenOrIn (is_open r.tables name) (hull_named r name) p

-- ---- constraints

abbrev pub relation_of : Relation → b.Relation
relation_of written.Equal = compared.Equal
relation_of written.NotEqual = compared.NotEqual
relation_of written.Less = compared.Less
relation_of written.LessEqual = compared.LessEqual
relation_of written.Greater = compared.Greater
relation_of written.GreaterEqual = compared.GreaterEqual

abbrev pub constraint_by : List Token → Relation → Option Field → Option ℤ → Option Constraint
constraint_by tokens r None n = None
constraint_by tokens r (Some f) None = None
constraint_by tokens r (Some f) (Some n) =
    Some (record { tokens = tokens; field = f; relation = relation_of r; number = n })

-- the constraint that is written; none where the name is no field's or the expression has no value
abbrev pub constraint_of : Tables → Name → Relation → Expression → Option Constraint
constraint_of t name r e =
    constraint_by t.tokens r (named (λ f. f.name) name t.fields) (constraint_value e)

-- There is a constraint, and it holds at the point.
abbrev pub IfHolds : Option Constraint → Point → Type 0
IfHolds None p = ⊥
IfHolds (Some c) p = ConstraintHolds c p

-- ---- patterns

-- `&` and `;` mean both sides, `|` means either.
abbrev pub JoinedHolds : PatternOp → Type 0 → Type 0 → Type 0
JoinedHolds And left right = left × right
JoinedHolds Then left right = left × right
JoinedHolds Or left right = left ⊎ right

-- the place of the right side: behind the bytes of the left one, where they are a fixed number
abbrev pub right_place : PatternOp → ℕ → Option ℕ → ℕ
right_place And place bytes = place
right_place Then place bytes = place + unwrap_or bytes 0
right_place Or place bytes = place

module _ (r : Reading) where
  -- The pattern, read from the place on, holds at the point.
  unfoldable pub PatternHolds : Pattern → ℕ → Point → Type 0
  PatternHolds (bare name) place p = NameHolds r name (seen place p)
  PatternHolds (constraint name relation e) place p =
      IfHolds (constraint_of r.tables name relation e) (seen place p)
  PatternHolds (group q) place p = PatternHolds q place p
  PatternHolds (ellipsis q) place p = PatternHolds q place p
  PatternHolds (joined op left right) place p =
      JoinedHolds op (PatternHolds left place p)
      (PatternHolds right (right_place op place (r.bytes left)) p)

-- The pattern, read from the first byte on, holds at each point.
abbrev pub HoldsEverywhere : Reading → Pattern → Type 0
HoldsEverywhere r q = (p : Point) → InRange p → PatternHolds r q 0 p

-- a number of bytes, or a place, as it is told: from 4,294,967,295 on as that
abbrev pub told : ℕ → ℕ
told n = min n 4294967295

abbrev pub capped : Option ℕ → Option ℕ
capped n = option_map told n
