use Rattle.std.proofs.Common.{◌≡◌, ℕ, get_or, map, max, min, ◌∙◌, arith}
use Rattle.sl_section_resolve.specs.MacroViews.{bodies_of}
use Rattle.sl_spec_rules.proofs.Seen.{below_map, past_map, seen_map}
use Rattle.sl_spec_tables.specs.Rows as spec
use Rattle.sl_spec_tables.specs.Views.{row_of, rows_of}
use Rattle.sl_spec_tables.proofs.CapLemmas.{all_together, max_keeps, one_together}
use Rattle.sl_section_weights.specs.Weights.{row_weight}
use Rattle.sl_section_weights.proofs.weights.greatest_weight.Goals as goal

pub rows-preserved : goal.rows-preserved
rows-preserved c =
    let g : spec.Row → ℕ = row_weight (bodies_of c.args.macros.now) (λ u. get_or c.args.values.now u 0) in
    let rs = c.args.rows.now in
    let i = c.rows.index in
    let r = c.index-rows-index.result in
    let below = c.rows-test.true in
    let inside = below_map row_of rs i below in
    let is_k : c.row_weight.result ≡ min (g (row_of r)) 65537 = c.row_weight.ensures in
    let m = c.max-most.ensures in
    let s = c.rows.invariant.small in
    record {
      small = omega arith;
      alike = one_together 65537 max (max_keeps 65537) _ c.rows.most c.max-most.result (g (row_of r)) c.row_weight.result (map g (rows_of rs)) i
          (below_map g (rows_of rs) i inside) (seen_map g (rows_of rs) i (row_of r) inside (seen_map row_of rs i r below c.index-rows-index.is)) is_k (omega arith) c.rows.invariant.alike;
    }

pub returns : goal.returns
returns c =
    let g : spec.Row → ℕ = row_weight (bodies_of c.args.macros.now) (λ u. get_or c.args.values.now u 0) in
    let rs = c.args.rows.now in
    let past = past_map g (rows_of rs) c.rows.index (past_map row_of rs c.rows.index c.rows-test.false) in
    let all = all_together 65537 max (max_keeps 65537) _ c.rows.most (map g (rows_of rs)) c.rows.index past c.rows.invariant.alike in
    let small : c.rows.most ≡ min c.rows.most 65537 = (let s = c.rows.invariant.small in omega arith) in
    small ∙ all
