use Rattle.sl_choose.proofs.PickLemmas.{in_exactly}
use Rattle.sl_choose.proofs.entries.has.Goals as goal

pub returns-clause-value : goal.returns-clause-value
returns-clause-value c = in_exactly c.has.result c.args.point.now c.args.cube.now c.has.ensures
