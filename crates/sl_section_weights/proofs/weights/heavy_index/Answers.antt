use Rattle.std.proofs.Common.{ℕ, Bool, get_or, min, nat_lt, sym, ◌∙◌}
use Rattle.sl_section_resolve.specs.MacroViews.{bodies_of}
use Rattle.sl_spec_rules.proofs.Seen.{below_map, past_map, seen_map}
use Rattle.sl_spec_tables.specs.Rows as spec
use Rattle.sl_spec_tables.specs.Views.{row_of, rows_of}
use Rattle.sl_section_weights.specs.Weights.{row_weight}
use Rattle.sl_spec_tables.proofs.PositionLemmas.{is_first, is_later, is_nowhere}
use Rattle.sl_section_weights.proofs.weights.heavy_index.Goals as goal

pub rows-preserved : goal.rows-preserved
rows-preserved c =
    let test : spec.Row → Bool = λ r. nat_lt 65536 (min (row_weight (bodies_of c.args.macros.now) (λ u. get_or c.args.values.now u 0) r) 65537) in
    let rs = c.args.rows.now in
    let i = c.rows.index in
    let r = c.index-rows-index.result in
    is_later test (rows_of rs) i (row_of r) (below_map row_of rs i c.rows-test.true) (seen_map row_of rs i r c.rows-test.true c.index-rows-index.is)
    (sym c.is_heavy.ensures ∙ c.if-is_heavy.false) c.rows.invariant

pub returns-then-is_heavy : goal.returns-then-is_heavy
returns-then-is_heavy c =
    let test : spec.Row → Bool = λ r. nat_lt 65536 (min (row_weight (bodies_of c.args.macros.now) (λ u. get_or c.args.values.now u 0) r) 65537) in
    let rs = c.args.rows.now in
    let i = c.rows.index in
    let r = c.index-rows-index.result in
    is_first test (rows_of rs) i (row_of r) (below_map row_of rs i c.rows-test.true) (seen_map row_of rs i r c.rows-test.true c.index-rows-index.is)
    (sym c.is_heavy.ensures ∙ c.if-is_heavy.true) c.rows.invariant

pub returns : goal.returns
returns c =
    let test : spec.Row → Bool = λ r. nat_lt 65536 (min (row_weight (bodies_of c.args.macros.now) (λ u. get_or c.args.values.now u 0) r) 65537) in
    is_nowhere test (rows_of c.args.rows.now) c.rows.index (past_map row_of c.args.rows.now c.rows.index c.rows-test.false) c.rows.invariant
