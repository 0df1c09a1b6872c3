-- step: what patterns are read with, as the program keeps it.
use Rattle.std.specs.Prelude.{ℕ, Option}
use Rattle.sl_ast.specs.Trees.{Pattern}
use Rattle.sl_shape_patterns.specs.Patterns.{Reading}
use Rattle.sl_shape_patterns.specs.declared.reader.Reader.{Reader}

abbrev pub reading_of : {L : Type 0} → (L → Pattern → Option ℕ) → Reader L → Reading
reading_of bytes r = record {
  tables = r.tables.now;
  bytes = bytes r.lengths.now;
  hulls = r.hulls.now;
}
