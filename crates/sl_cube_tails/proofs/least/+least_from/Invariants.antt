use Rattle.std.proofs.Common.{◌+◌, ◌-◌, ◌^◌}
use Rattle.sl_cube_tails.proofs.least.+least_from.Given as goal

abbrev pub decreases-least_from : goal.decreases-least_from
decreases-least_from l = 2 ^ 128 - l.region.now.mask + (2 ^ 64 - l.region.now.ctx_mask)
