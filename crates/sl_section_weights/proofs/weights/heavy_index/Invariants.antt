use Rattle.std.proofs.Common.{ℕ, Bool, get_or, min, nat_lt}
use Rattle.sl_section_resolve.specs.MacroViews.{bodies_of}
use Rattle.sl_spec_tables.specs.Rows.{Row}
use Rattle.sl_spec_tables.specs.Views.{rows_of}
use Rattle.sl_section_weights.specs.Weights.{row_weight}
use Rattle.sl_spec_tables.proofs.PositionLemmas.{IsNotBefore}
use Rattle.sl_section_weights.proofs.weights.heavy_index.Given as goal

abbrev pub invariant-rows : goal.invariant-rows
invariant-rows l =
    let test : Row → Bool = λ r. nat_lt 65536 (min (row_weight (bodies_of l.macros) (λ u. get_or l.values u 0) r) 65537) in
    IsNotBefore test (rows_of l.rows) l.index
