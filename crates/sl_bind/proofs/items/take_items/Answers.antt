use Rattle.std.proofs.Common.{map}
use Rattle.std.proofs.lemmas.Result.{err_from_is_err_and}
use Rattle.sl_ast.specs.Views.{item_of}
use Rattle.sl_bind.proofs.ItemLemmas.{all_taken, stops, takes_more}
use Rattle.sl_bind.specs.Verdict.{placed_step}
use Rattle.sl_spec_rules.proofs.Seen.{below_map, past_map, seen_map}
use Rattle.sl_bind.proofs.items.take_items.Goals as goal

pub returns-in_err-number : goal.returns-in_err-number
returns-in_err-number c =
    let p = err_from_is_err_and c.from_residual.result c.from_residual.ensures.1 in
    let items = c.args.items.now in
    let i = c.items.index in
    let item = c.index-items-index.result in
    rw (p.1, p.2) (stops (placed_step c.args.whole.now) c.args.progress.now (map item_of items) c.in_err-number.field-0.0 c.items.progress c.items.number i (item_of item)
    (below_map item_of items i c.items-test.true) (seen_map item_of items i item c.items-test.true c.index-items-index.is) c.in_err-number.ensures.taken c.items.invariant)

pub items-preserved : goal.items-preserved
items-preserved c =
    let items = c.args.items.now in
    let i = c.items.index in
    let item = c.index-items-index.result in
    takes_more (placed_step c.args.whole.now) c.args.progress.now (map item_of items) c.items.progress c.take_item.new.progress c.items.number c.in_ok-number.number i (item_of item)
    (below_map item_of items i c.items-test.true) (seen_map item_of items i item c.items-test.true c.index-items-index.is) c.in_ok-number.ensures.taken c.in_ok-number.ensures.next c.items.invariant

pub returns : goal.returns
returns c =
    let items = c.args.items.now in
    all_taken (placed_step c.args.whole.now) c.args.progress.now (map item_of items) c.items.progress c.items.number c.items.index
    (past_map item_of items c.items.index c.items-test.false) c.items.invariant
