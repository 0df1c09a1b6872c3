use Rattle.sl_cube.proofs.OutsideLemmas.{some_same}
use Rattle.sl_cube.proofs.outside.least_outside.Goals as goal

pub returns-then-is_in_some : goal.returns-then-is_in_some
returns-then-is_in_some c = some_same c.args.cube.now c.args.others.now c.least-least.result c.least-least.ensures.0 c.requires
    (c.is_in_some.ensures.0 c.if-is_in_some.true)
