-- step: the tables that operands are, as the program keeps them.
use Rattle.std.specs.declared.alloc.Global.{Global}
use Rattle.std.specs.Prelude.{ℕ, List, Option, Vec, map}
use Rattle.sl_section_sizes.specs.Ordering.{table_meant}
use Rattle.sl_spec.specs.Tables.{Operand}

abbrev pub tables_meant : List Operand → List (Option ℕ)
tables_meant os = map (λ o. table_meant o.means) os

abbrev pub lists_meant : List (Vec (Option ℕ) Global) → List (List (Option ℕ))
lists_meant vs = map (λ v. v.items) vs
