use Rattle.std.proofs.Common.{◌<◌, ◌≤◌, length, arith, ap, ◌∙◌}
use Rattle.sl_asm_bounds.proofs.ContextLemmas.{rows_all, rows_more}
use Rattle.sl_asm_bounds.proofs.contexts.after_steps.Goals as goal

pub rows-preserved : goal.rows-preserved
rows-preserved c =
    let rows = c.rows-rows.result.now in
    let below : c.rows.index < length rows = omega arith in
    rows_more c.args.t.now c.args.frame.now c.args.region.now c.args.context c.rows.known c.after_row-known.result rows c.rows.index c.index-rows-index.result
    c.as_slice.result.now below c.index-rows-index.is (c.as_slice.ensures.value ∙ ap (λ v. v.items) c.deref.ensures) c.after_row-known.ensures c.rows.invariant

pub returns : goal.returns
returns c =
    let rows = c.rows-rows.result.now in
    let past : length rows ≤ c.rows.index = omega arith in
    rows_all c.args.t.now c.args.frame.now c.args.region.now c.args.context c.rows.known rows c.rows.index c.args.steps.now past c.rows-rows.ensures c.rows.invariant
