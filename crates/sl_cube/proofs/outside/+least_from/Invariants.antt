use Rattle.std.proofs.Common.{◌+◌, ◌-◌, ◌^◌}
use Rattle.sl_cube.proofs.outside.+least_from.Given as goal

abbrev pub decreases-least_from : goal.decreases-least_from
decreases-least_from l = 2 ^ 128 - l.cube.now.mask + (2 ^ 64 - l.cube.now.ctx_mask)
