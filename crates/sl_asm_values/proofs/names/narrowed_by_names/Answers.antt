use Rattle.std.proofs.Common.{◌≤◌, length, arith}
use Rattle.sl_asm_values.proofs.RowLemmas.{all_done, names_begin, rows_more, rows_none}
use Rattle.sl_asm_values.proofs.names.narrowed_by_names.Goals as goal

pub rows-init : goal.rows-init
rows-init c =
    names_begin c.args.t.now c.args.frame.now c.args.wanted.now c.args.region.now (record { region = c.in_ok-whole.whole; names = c.new.result }) _
    c.in_ok-whole.ensures c.new.ensures.items

pub returns-in_default : goal.returns-in_default
returns-in_default c =
    rows_none c.args.t.now c.args.frame.now c.args.wanted.now c.args.region.now c.rows.left c.in_ok-next.next c.args.steps.now c.rows-rows.result.now c.rows.index
    c.index-rows-index.result (omega arith) c.index-rows-index.is c.rows-rows.ensures c.in_default.is
    (rw (c.as_slice.ensures.value, c.deref.ensures) at c.in_ok-next.ensures.leaves) c.rows.invariant

pub rows-preserved : goal.rows-preserved
rows-preserved c =
    rows_more c.args.t.now c.args.frame.now c.args.wanted.now c.args.region.now c.rows.left c.in_ok-next.next c.in-Some.after c.rows-rows.result.now c.rows.index
    c.index-rows-index.result (omega arith) c.index-rows-index.is c.in-Some.is c.in_ok-next.ensures.part
    (rw (c.as_slice.ensures.value, c.deref.ensures) at c.in_ok-next.ensures.leaves) c.rows.invariant

pub returns : goal.returns
returns c =
    let whole : length c.rows-rows.result.now ≤ c.rows.index = omega arith in
    all_done c.args.t.now c.args.frame.now c.args.wanted.now c.args.region.now c.rows.left c.args.steps.now c.rows-rows.result.now c.rows.index whole c.rows-rows.ensures c.rows.invariant
