-- meaning: the shapes of patterns (SLEIGH manual, "The Bit Pattern Section").
use Rattle.std.specs.Prelude.{ℕ, ◌/◌, List, get_or, map, sum_by, if◌then◌else◌}
use Rattle.std.specs.Prelude.{Option, Some, None, option_map, option_and_then}
use Rattle.sl_ast.specs.Trees.{Name, Pattern, bare, constraint, group, ellipsis, joined}
use Rattle.sl_ast.specs.declared.patterns.PatternOp.{PatternOp}
use Rattle.sl_ast.specs.declared.patterns.PatternOp.TheVariants.{And, Then, Or}
use Rattle.sl_spec_constructors.specs.Operands.{is_epsilon}
use Rattle.sl_cube.specs.declared.Cube.{Cube}
use Rattle.sl_shape_patterns.specs.Patterns.{Reading}
use Rattle.sl_shape_tokens.specs.Shapes.{Shape, both, either, extended, followed, is_fixed}
use Rattle.sl_shape_tokens.specs.Shapes.{of_nothing, of_token}
use Rattle.sl_spec.specs.Named.{index_named, named}
use Rattle.sl_spec.specs.Tables.{Field}
use Rattle.sl_spec.specs.declared.tables.Tables.{Tables}

-- the shapes of the tables, by their numbers
abbrev pub Shapes : Type 0
Shapes = List Shape

-- a field of a token has this token, and one of the context none
abbrev pub token_shape : Option ℕ → Shape
token_shape None = of_nothing
token_shape (Some token) = of_token token

abbrev pub field_shape : Field → Shape
field_shape f = token_shape f.token

-- the shape of a table; one that isn't known has no token
abbrev pub table_shape : List Shape → Option ℕ → Shape
table_shape shapes None = of_nothing
table_shape shapes (Some table) = get_or shapes table of_nothing

-- a field, or else a table
abbrev pub shape_by : List Shape → Option Field → Option ℕ → Shape
shape_by shapes (Some f) table = field_shape f
shape_by shapes None table = table_shape shapes table

-- two joined patterns; none where their tokens differ
abbrev pub joined_both : PatternOp → Shape → Shape → Option Shape
joined_both And p q = both p q
joined_both Then p q = Some (followed p q)
joined_both Or p q = either p q

abbrev pub joined_shape : PatternOp → Option Shape → Option Shape → Option Shape
joined_shape op None q = None
joined_shape op (Some p) None = None
joined_shape op (Some p) (Some q) = joined_both op p q

module _ (t : Tables) (shapes : List Shape) where
  -- a name by itself: `epsilon`, a field or a table
  abbrev pub name_shape : Name → Shape
  name_shape name = if is_epsilon name then of_nothing else shape_by shapes
      (named (λ f. f.name) name t.fields) (index_named (λ b. b.name) name t.tables)

  -- the shape of a pattern, by the shapes of the tables; none where tokens differ
  unfoldable pub shape_of : Pattern → Option Shape
  shape_of (bare name) = Some (name_shape name)
  shape_of (constraint name relation e) =
      Some (shape_by shapes (named (λ f. f.name) name t.fields) None)
  shape_of (group p) = shape_of p
  shape_of (ellipsis p) = option_map extended (shape_of p)
  shape_of (joined op p q) = joined_shape op (shape_of p) (shape_of q)

-- the bytes of each token
abbrev pub token_sizes : Tables → List ℕ
token_sizes t = map (λ token. token.bits / 8) t.tokens

abbrev pub list_bytes : Tables → List ℕ → ℕ
list_bytes t tokens = sum_by (λ n. get_or (token_sizes t) n 0) tokens

-- the number of bytes of a shape that has a fixed number of them
abbrev pub fixed_bytes : Tables → Shape → Option ℕ
fixed_bytes t s = if is_fixed s.kind then Some (list_bytes t s.tokens) else None

-- the number of bytes of a pattern that has a fixed number of them
abbrev pub pattern_bytes : Tables → List Shape → Pattern → Option ℕ
pattern_bytes t shapes p = option_and_then (fixed_bytes t) (shape_of t shapes p)

-- What patterns are read with, where the shapes and the hulls of the tables are these.
abbrev pub reading : Tables → List Shape → List (Option Cube) → Reading
reading t shapes hulls =
    record { tables = t; bytes = pattern_bytes t shapes; hulls = hulls }
