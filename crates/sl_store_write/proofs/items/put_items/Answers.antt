use Rattle.sl_store_write.proofs.Inners.{item_written, items_written, no_item}
use Rattle.sl_store_write.proofs.items.put_items.Goals as goal

pub rounds-init : goal.rounds-init
rounds-init c = no_item c.put_number.new.out.items c.args.places.now c.args.items.now

pub rounds-preserved : goal.rounds-preserved
rounds-preserved c =
    item_written c.put_number.new.out.items c.args.places.now c.args.items.now c.rounds.out.items c.put_item.new.out.items c.rounds.places c.put_item.new.places c.rounds.index
    c.index-items-index.result c.rounds-test.true c.index-items-index.is c.rounds.invariant c.in_ok-put_item.ensures.bytes c.in_ok-put_item.ensures.left

pub returns : goal.returns
returns c =
    items_written c.args.out.now.items c.put_number.new.out.items c.args.places.now c.args.items.now c.rounds.out.items c.rounds.places c.rounds.index c.rounds-test.false
    c.in_ok-put_number.ensures c.rounds.invariant
