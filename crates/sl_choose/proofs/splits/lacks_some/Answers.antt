use Rattle.sl_choose.proofs.CountLemmas.{lack_is}
use Rattle.sl_choose.proofs.splits.lacks_some.Goals as goal

pub returns : goal.returns
returns c = lack_is c.args.bits.now c.args.cube.now c.sets_none.result c.sets_none.ensures
