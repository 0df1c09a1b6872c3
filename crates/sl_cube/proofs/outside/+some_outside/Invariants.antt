use Rattle.std.proofs.Common.{◌+◌, ◌-◌, ◌^◌}
use Rattle.sl_cube.proofs.outside.+some_outside.Given as goal

abbrev pub decreases-some_outside : goal.decreases-some_outside
decreases-some_outside l = 2 ^ 128 - l.cube.now.mask + (2 ^ 64 - l.cube.now.ctx_mask)
