-- step: the shapes of tables as they are kept.
use Rattle.std.specs.Prelude.{ℕ, List, Option, map}
use Rattle.sl_ast.specs.Trees.{Pattern}
use Rattle.sl_shape.specs.Extents.{extent_bytes, extent_of}
use Rattle.sl_shape.specs.declared.extents.Extents.{Extents}
use Rattle.sl_shape_tokens.specs.Lists.{seen}
use Rattle.sl_shape_tokens.specs.Shapes.{Shape}

-- the shapes of the tables
abbrev pub shapes_of : Extents → List Shape
shapes_of e = map (seen e.lists.now) e.shapes.now

-- the number of bytes of a pattern that has a fixed number of them
abbrev pub bytes_by : Extents → Pattern → Option ℕ
bytes_by e p = extent_bytes (extent_of e.tables.now (shapes_of e) p)
