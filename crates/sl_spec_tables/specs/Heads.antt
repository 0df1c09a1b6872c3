-- step: the bytes of the heads of blocks.
use Rattle.std.specs.Prelude.{ℕ, max, List, map, Option, Some, None}
use Rattle.sl_ast.specs.Trees.{Head, Pattern}
use Rattle.sl_spec.specs.Tables.{Operand}
use Rattle.sl_spec.specs.declared.tables.Tables.{Tables}
use Rattle.sl_spec_tables.specs.Lengths.{pattern_bytes, put_together}

abbrev pub bytes_or_none : Tables → (ℕ → ℕ) → List Operand → Option Pattern → ℕ
bytes_or_none t of_table os None = 0
bytes_or_none t of_table os (Some p) = pattern_bytes t of_table os p

abbrev pub head_bytes : Tables → (ℕ → ℕ) → List Operand → Head → ℕ
head_bytes t of_table os h = bytes_or_none t of_table os h.pattern

abbrev pub heads_bytes : Tables → (ℕ → ℕ) → List Operand → List Head → ℕ
heads_bytes t of_table os hs = put_together max 0 (map (head_bytes t of_table os) hs)
