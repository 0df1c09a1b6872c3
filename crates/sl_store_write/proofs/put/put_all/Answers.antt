use Rattle.sl_store_write.proofs.Puts.{written_all, written_more}
use Rattle.sl_store_write.proofs.put.put_all.Goals as goal

pub rounds-preserved : goal.rounds-preserved
rounds-preserved g c =
    written_more g.P.Put.write g.P.Put.view c.args.out.now.items c.args.members.now c.rounds.out.items c.put.new.out.items c.rounds.index
    c.index-members-index.result c.rounds-test.true c.index-members-index.is c.rounds.invariant c.in_ok-put.ensures

pub returns : goal.returns
returns g c =
    written_all g.P.Put.write g.P.Put.view c.args.out.now.items c.args.members.now c.rounds.out.items c.rounds.index c.rounds-test.false c.rounds.invariant
