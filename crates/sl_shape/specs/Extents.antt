-- step: how long patterns are, without their tokens. Where the tokens of a pattern don't differ, this
-- tells as much of its length as its shape does.
use Rattle.std.specs.Prelude.{ℕ, ◌+◌, max, Bool, ◌&&◌, not, List, if◌then◌else◌}
use Rattle.std.specs.Prelude.{Option, Some, None}
use Rattle.sl_ast.specs.Trees.{Pattern, bare, constraint, group, ellipsis, joined}
use Rattle.sl_ast.specs.declared.patterns.PatternOp.{PatternOp}
use Rattle.sl_ast.specs.declared.patterns.PatternOp.TheVariants.{And, Then, Or}
use Rattle.sl_shape_patterns.specs.Patterns.{told}
use Rattle.sl_shape.specs.PatternShapes.{list_bytes, name_shape, shape_by}
use Rattle.sl_shape.specs.declared.extent.Extent as code
use Rattle.sl_shape_tokens.specs.Shapes.{Shape, extended_kind, is_empty, is_fixed}
use Rattle.sl_shape_tokens.specs.declared.shapes.Kind.{Kind}
use Rattle.sl_shape_tokens.specs.declared.shapes.Kind.TheVariants.{Fixed, Trailing, Varying}
use Rattle.sl_spec.specs.Named.{named}
use Rattle.sl_spec.specs.declared.tables.Tables.{Tables}

-- the kind of a pattern, whether it has no token, and the bytes of its tokens
pub record Extent : Type 0 where
  pub kind : Kind
  pub is_empty : Bool
  pub bytes : ℕ

-- an extent as it is kept, with a number of bytes that stops
abbrev pub kept : Extent → code.Extent
kept e = record { kind = e.kind; is_empty = e.is_empty; bytes = told e.bytes }

abbrev pub extent : Tables → Shape → Extent
extent t s =
    record { kind = s.kind; is_empty = is_empty s.tokens; bytes = list_bytes t s.tokens }

-- the kind where another one may be followed by more, and has a token or not
abbrev pub beside_trailing : Bool → Bool → Kind
beside_trailing fixed_empty trailing_empty =
    if fixed_empty && not trailing_empty then Trailing else Fixed

abbrev pub both_kinds : Kind → Bool → Kind → Bool → Kind
both_kinds Varying a k b = Varying
both_kinds Fixed a Varying b = Varying
both_kinds Fixed a Fixed b = Fixed
both_kinds Fixed a Trailing b = beside_trailing a b
both_kinds Trailing a Varying b = Varying
both_kinds Trailing a Fixed b = beside_trailing b a
both_kinds Trailing a Trailing b = Trailing

abbrev pub both_extents : Extent → Extent → Extent
both_extents p q = record {
  kind = both_kinds p.kind p.is_empty q.kind q.is_empty;
  is_empty = p.is_empty && q.is_empty;
  bytes = max p.bytes q.bytes;
}

abbrev pub followed_extents_by : Kind → Extent → Extent → Extent
followed_extents_by Fixed p q = record {
  kind = q.kind;
  is_empty = p.is_empty && q.is_empty;
  bytes = p.bytes + q.bytes;
}
followed_extents_by Trailing p q =
    record { kind = Varying; is_empty = p.is_empty; bytes = p.bytes }
followed_extents_by Varying p q =
    record { kind = Varying; is_empty = p.is_empty; bytes = p.bytes }

abbrev pub either_extents : Extent → Extent → Extent
either_extents p q = record {
  kind = Fixed;
  is_empty = p.is_empty && q.is_empty;
  bytes = max p.bytes q.bytes;
}

abbrev pub joined_extents : PatternOp → Extent → Extent → Extent
joined_extents And p q = both_extents p q
joined_extents Then p q = followed_extents_by p.kind p q
joined_extents Or p q = either_extents p q

abbrev pub extended_extent : Extent → Extent
extended_extent p =
    record { kind = extended_kind p.kind; is_empty = p.is_empty; bytes = p.bytes }

module _ (t : Tables) (shapes : List Shape) where
  unfoldable pub extent_of : Pattern → Extent
  extent_of (bare name) = extent t (name_shape t shapes name)
  extent_of (constraint name relation e) =
      extent t (shape_by shapes (named (λ f. f.name) name t.fields) None)
  extent_of (group p) = extent_of p
  extent_of (ellipsis p) = extended_extent (extent_of p)
  extent_of (joined op p q) = joined_extents op (extent_of p) (extent_of q)

abbrev pub extent_bytes : Extent → Option ℕ
extent_bytes e = if is_fixed e.kind then Some e.bytes else None
