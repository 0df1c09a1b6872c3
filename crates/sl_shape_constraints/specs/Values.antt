-- meaning: where a constraint holds (SLEIGH manual, "Constraints").
use Rattle.std.specs.Prelude.{ℕ, ℤ, suc, ◌-◌, List}
use Rattle.std.specs.Int.{w128, to_be_bytes}
use Rattle.sl_shape_blocks.specs.Relations.{Stands}
use Rattle.sl_shape_blocks.specs.declared.compare.Relation.{Relation}
use Rattle.sl_cube.specs.declared.Point.{Point}
use Rattle.sl_spec.specs.FieldValues.{field_value, read_as, wrapped}
use Rattle.sl_spec.specs.Tables.{Field, Token}

-- A field compared with a number; its token is one of these.
pub record Constraint : Type 0 where
  pub tokens : List Token
  pub field : Field
  pub relation : Relation
  pub number : ℤ

-- the sixteen bytes of a point, the first byte first
abbrev pub point_bytes : Point → List ℕ
point_bytes p = to_be_bytes w128 p.bytes

-- the value of the field at a point, its token beginning at the first byte
abbrev pub value_at : Constraint → Point → ℤ
value_at c p = field_value c.tokens c.field (point_bytes p) 0 p.context

-- The constraint holds at the point.
abbrev pub ConstraintHolds : Constraint → Point → Type 0
ConstraintHolds c p = Stands c.relation (value_at c p) c.number

-- how many bits a field has
abbrev pub width : Field → ℕ
width f = suc f.high - f.low

-- The constraint holds of the field's value where its bits are this number.
abbrev pub HoldsOf : Constraint → ℕ → Type 0
HoldsOf c code =
    Stands c.relation (wrapped (read_as c.field.signed (width c.field) code)) c.number
