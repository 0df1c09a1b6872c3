-- view: the shape of a table, constructor after constructor.
use Rattle.std.specs.Prelude.{◌&&◌, if◌then◌else◌}
use Rattle.sl_shape_tokens.specs.Comparing.{common_prefix}
use Rattle.sl_shape_tokens.specs.Shapes.{Shape, is_fixed, is_fixed_as}
use Rattle.sl_shape_tokens.specs.declared.shapes.Kind.{Kind}
use Rattle.sl_shape_tokens.specs.declared.shapes.Kind.TheVariants.{Fixed, Trailing, Varying}

-- the kind of a table of one constructor
abbrev pub table_kind : Kind → Kind
table_kind Fixed = Fixed
table_kind Trailing = Varying
table_kind Varying = Varying

abbrev pub start : Shape → Shape
start s = record { kind = table_kind s.kind; tokens = s.tokens }

-- the shape of a table with one constructor more
abbrev pub met : Shape → Shape → Shape
met so_far next = if is_fixed so_far.kind && is_fixed_as so_far.tokens next
    then so_far
    else record { kind = Varying; tokens = common_prefix so_far.tokens next.tokens }
