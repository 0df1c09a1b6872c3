use Rattle.std.proofs.Common.{rules, ◌+◌, ◌-◌, arith}
use Rattle.std.proofs.lemmas.Grind.{common_steps}
use Rattle.sl_store_format.specs.Items.{items_here}
use Rattle.sl_store_read.proofs.Nested.{items_begin, items_stop_at_count, items_go, items_stop, items_end}
use Rattle.sl_store_read.proofs.items.all_items.Goals as goal

pub returns-in_err-count : goal.returns-in_err-count
returns-in_err-count c =
    let stop = items_stop_at_count c.args.files c.most_items.result c.args.bytes.now c.in_err-count.field-0.0 c.most_items.ensures c.in_err-count.ensures.reads in
    first_of (search rules, grind (arith, common_steps))

pub rounds-init : goal.rounds-init
rounds-init c =
    items_begin c.args.files c.most_items.result c.args.bytes.now c.number.new.self c.in_ok-count.count (c.in_ok-count.count - 0) c.new-items.result.items c.new-places.result.items
    (omega arith) c.new-items.ensures.items c.new-places.ensures.items c.most_items.ensures c.in_ok-count.ensures.reads

pub returns-in_err-item_here : goal.returns-in_err-item_here
returns-in_err-item_here c =
    let stop = items_stop c.args.files (items_here c.args.files c.args.bytes.now) (c.in_ok-count.count - c.rounds._round) (c.in_ok-count.count - (c.rounds._round + 1)) c.rounds.items.items
    c.rounds.places.items c.rounds.bytes c.in_err-item_here.field-0.0 (omega arith) c.rounds.invariant c.in_err-item_here.ensures in
    first_of (search rules, grind (arith, common_steps))

pub rounds-preserved : goal.rounds-preserved
rounds-preserved c =
    items_go c.args.files (items_here c.args.files c.args.bytes.now) (c.in_ok-count.count - c.rounds._round) (c.in_ok-count.count - (c.rounds._round + 1)) c.rounds.items.items
    c.push.new.self.items c.rounds.places.items c.item_here.new.places.items c.rounds.bytes c.item_here.new.bytes c.in_ok-item_here.field-0 (omega arith) c.in_ok-push.ensures.items
    c.rounds.invariant c.in_ok-item_here.ensures

pub returns : goal.returns
returns c =
    items_end c.args.files (items_here c.args.files c.args.bytes.now) (c.in_ok-count.count - c.rounds._round) _ c.rounds.bytes (omega arith) c.rounds.invariant
