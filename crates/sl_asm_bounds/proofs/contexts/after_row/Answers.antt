use Rattle.std.proofs.Common.{◌<◌, ◌≤◌, length, arith}
use Rattle.sl_asm_bounds.proofs.ContextLemmas.{steps_all, steps_more}
use Rattle.sl_asm_bounds.proofs.contexts.after_row.Goals as goal

pub steps-preserved : goal.steps-preserved
steps-preserved c =
    let below : c.steps.index < length c.args.row.now = omega arith in
    steps_more c.args.t.now c.args.frame.now c.args.region.now c.args.context c.steps.known c.after_step-known.result c.args.row.now c.steps.index
    c.index-row-index.result below c.index-row-index.is c.after_step-known.ensures c.steps.invariant

pub returns : goal.returns
returns c =
    let past : length c.args.row.now ≤ c.steps.index = omega arith in
    steps_all c.args.t.now c.args.frame.now c.args.region.now c.args.context c.steps.known c.args.row.now c.steps.index past c.steps.invariant
