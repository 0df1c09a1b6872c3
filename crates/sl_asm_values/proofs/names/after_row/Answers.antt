use Rattle.std.proofs.Common.{◌≤◌, length, arith}
use Rattle.sl_asm_values.proofs.RowLemmas.{ends, found_more, found_none}
use Rattle.sl_asm_values.proofs.names.after_row.Goals as goal

pub returns-in_default-clause-leaves : goal.returns-in_default-clause-leaves
returns-in_default-clause-leaves c =
    found_none c.args.t.now c.args.frame.now c.args.wanted.now c.args.reached c.steps.left c.in_ok-next.next c.args.row.now c.steps.index c.index-row-index.result
    (omega arith) c.index-row-index.is c.in_default.is c.in_ok-next.ensures.leaves c.steps.invariant.1

pub steps-preserved : goal.steps-preserved
steps-preserved c =
    found_more c.args.t.now c.args.frame.now c.args.wanted.now c.args.reached c.steps.left c.in_ok-next.next c.in-Some.after c.args.row.now c.steps.index c.index-row-index.result
    (omega arith) c.index-row-index.is c.in-Some.is c.in_ok-next.ensures.part c.in_ok-next.ensures.leaves c.steps.invariant

pub returns-clause-leaves : goal.returns-clause-leaves
returns-clause-leaves c =
    let whole : length c.args.row.now ≤ c.steps.index = omega arith in
    ends c.args.t.now c.args.frame.now c.args.wanted.now c.args.reached c.steps.left c.args.row.now c.steps.index whole c.steps.invariant.1
