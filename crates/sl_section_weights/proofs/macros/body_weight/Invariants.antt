use Rattle.std.proofs.Common.{◌≡◌, ◌≤◌, ◌+◌, drop, map, min}
use Rattle.sl_ast.specs.Views.{statements_of}
use Rattle.sl_section_resolve.specs.MacroViews.{bodies_of}
use Rattle.sl_spec_tables.specs.Lengths.{put_together}
use Rattle.sl_section_weights.proofs.BodyLemmas.{statement_weight}
use Rattle.sl_section_weights.proofs.macros.body_weight.Given as goal

abbrev pub invariant-statements : goal.invariant-statements
invariant-statements l =
    let all = map (statement_weight (bodies_of l.macros) l.weights) (statements_of l.body) in
    record {
      small : l.weight ≤ 65537;
      alike : min (put_together (λ m n. m + n) l.weight (drop l.index all)) 65537 ≡ min (put_together (λ m n. m + n) 0 all) 65537;
    }
