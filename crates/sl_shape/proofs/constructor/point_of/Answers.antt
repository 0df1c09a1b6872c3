use Rattle.std.proofs.Common.{arith}
use Rattle.sl_shape.proofs.MadeLemmas.{first_has}
use Rattle.sl_shape.proofs.constructor.point_of.Goals as goal

pub returns : goal.returns
returns c = ((omega arith, omega arith), first_has c.args.cubes.now c.in_ok-first.first.now c.in_ok-first.ensures.value c.least.result c.least.ensures.0)
