use Rattle.sl_cube.proofs.TallyLemmas.{among_self, among_trans}
use Rattle.sl_cube.proofs.tally.most.Goals as goal

pub loop-digit-init : goal.loop-digit-init
loop-digit-init c = among_self c.args.bits

pub loop-digit-preserved : goal.loop-digit-preserved
loop-digit-preserved c = among_trans c.args.bits c.loop-digit.best c.shared-best.result c.loop-digit.invariant c.shared-best.ensures
