use Rattle.std.proofs.Common.{◌≡◌, ◌≤◌, drop, get_or, map, max, min}
use Rattle.sl_section_resolve.specs.MacroViews.{bodies_of}
use Rattle.sl_spec_tables.specs.Lengths.{put_together}
use Rattle.sl_spec_tables.specs.Views.{rows_of}
use Rattle.sl_section_weights.specs.Weights.{row_weight}
use Rattle.sl_section_weights.proofs.weights.greatest_weight.Given as goal

abbrev pub invariant-rows : goal.invariant-rows
invariant-rows l =
    let all = map (row_weight (bodies_of l.macros) (λ u. get_or l.values u 0)) (rows_of l.rows) in
    record {
      small : l.most ≤ 65537;
      alike : min (put_together max l.most (drop l.index all)) 65537 ≡ min (put_together max 0 all) 65537;
    }
