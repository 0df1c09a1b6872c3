use Rattle.sl_store_write.proofs.Inners.{all_bytes, all_many, all_places, inner_written, none_written}
use Rattle.sl_store_write.proofs.items.put_inside.Goals as goal

pub rounds-init : goal.rounds-init
rounds-init c = none_written c.args.out.now.items c.args.places.now c.args.inside.now

pub rounds-preserved : goal.rounds-preserved
rounds-preserved c =
    inner_written c.args.out.now.items c.args.places.now c.args.inside.now c.rounds.out.items c.put_inner.new.out.items c.rounds.places c.put_inner.new.places c.rounds.index
    c.index-inside-index.result c.rounds-test.true c.index-inside-index.is c.rounds.invariant c.in_ok-put_inner.ensures

pub returns-clause-bytes : goal.returns-clause-bytes
returns-clause-bytes c = all_bytes c.args.out.now.items c.args.places.now c.args.inside.now c.rounds.out.items c.rounds.places c.rounds.index c.rounds-test.false c.rounds.invariant

pub returns-clause-left : goal.returns-clause-left
returns-clause-left c = all_places c.args.out.now.items c.args.places.now c.args.inside.now c.rounds.out.items c.rounds.places c.rounds.index c.rounds-test.false c.rounds.invariant

pub returns-clause-many : goal.returns-clause-many
returns-clause-many c = all_many c.args.out.now.items c.args.places.now c.args.inside.now c.rounds.out.items c.rounds.places c.rounds.index c.rounds-test.false c.rounds.invariant
